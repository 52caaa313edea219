-- The line of a question by its record, and the lines of all. Assumes nothing.
use mathlib.Core.Path.{◌≡◌, refl, sym, ap, ◌∙◌}
use mathlib.Core.Bool.{cond}
use mathlib.Core.List.{List, []}
use Rattle.std.specs.Simd.{first_chunks}
use Prim.Native.Nat.{ℕ, ◌+◌, ◌*◌, ◌≤◌, ◌<◌}
use native.Mathlib.Omega.{arith}
use lib.Dec.{T}
use lib.Ieee.{Float, binary32, of_bits, to_bits, fits}
use lib.Ieee.Bits.{of_bits-to_bits}
use lib.ListN.{length, get_or, take, drop, length-append, length-take, length-drop}
use lib.Seq.{ext_get_or, get_or-take, get_or-drop}
use Rattle.vector.specs.declared.coords.Vector.{Vector}
use Rattle.shape.specs.Gather.{gather}
use Rattle.shape.specs.Memory.{Put}
use Rattle.shape.specs.Refusal.{Answer, taken, refused}
use Rattle.shape.proofs.Laws.Gather.{gather_next, gather_even, gather_at, gather_fits}
use Rattle.shape.proofs.Laws.Memory.{put_then, put_turn}
use Rattle.lookup.specs.declared.sampler.Detail.{Detail}
use Rattle.lookup.specs.Sampler.{Sample, hit, miss, top_of}
use Rattle.lookup.specs.Batch.{record_words, record_of}
use Rattle.lookup.proofs.Laws.Batch.{record_width}
use Rattle.surface.specs.declared.held.Sizes.{Sizes}
use Rattle.surface.specs.declared.report.LineTotals.{LineTotals}
use Rattle.std.specs.Prelude.{Option, Some, None}
use Rattle.surface.specs.declared.text.FoundLine.{FoundLine}
use Rattle.surface.specs.Held.{how_many, count_kind, sizes_of, lane_in, question_at}
use Rattle.surface.specs.Text.{digits_of, lane_text, asked_line}
use Rattle.surface.specs.Report.{mesh_in, index_in, given, sample_at, answered, line_of, line_at, answered_at, lines_of}
use Rattle.surface.specs.ReportSteps.{record_in, records_in, Asked, text_of, is_found, Tells, Totalled}
use Rattle.surface.proofs.Laws.Held.{how_many_next}
use Rattle.surface.proofs.Laws.Text.{found_size, none_size}
use Rattle.surface.proofs.Chunks.{chunk_at}
use Rattle.surface.proofs.Singles.{single_height, single_normal}

abbrev to_vector : Float → Float → Float → Vector
to_vector x y z = record { x = x; y = y; z = z }

vector : (n m : Vector) → n.x ≡ m.x → n.y ≡ m.y → n.z ≡ m.z → n ≡ m
vector n m ex ey ez =
    ap (λ (x : Float). to_vector x n.y n.z) ex ∙ ap (λ (y : Float). to_vector m.x y n.z) ey ∙ ap (λ (z : Float). to_vector m.x m.y z) ez

-- ---- the words of a record

module _ (ws : List ℕ) where
  in_width : (k : ℕ) → length (record_in ws k) ≡ record_words
  unfolding record_in
  in_width k = record_width (taken (sample_at ws k))

  pub records_length : length (records_in ws) ≡ record_words * count_kind ws 3
  unfolding records_in
  records_length = gather_even (record_in ws) record_words in_width (count_kind ws 3)

  word_in : (k j : ℕ) → k < count_kind ws 3 → j < record_words → get_or (records_in ws) (record_words * k + j) 0 ≡ get_or (record_in ws k) j 0
  unfolding records_in
  word_in k j h l =
      let e : length (gather (record_in ws) k) ≡ record_words * k = gather_even (record_in ws) record_words in_width k in
      let p : j < length (record_in ws k) = omega (arith, in_width k) in
      rw e at (gather_at (record_in ws) (count_kind ws 3) k j 0 h p)

  -- an answer was one of the lookup's
  was_hit : (k : ℕ) {h : Float} {n : Vector} {t : ℕ} {d : Detail} → sample_at ws k ≡ hit h n t d
      → top_of (mesh_in ws) (index_in ws) (question_at ws k).x (question_at ws k).y ≡ taken (hit h n t d)
  unfolding sample_at given
  was_hit k {h} {n} {t} {d} e = go (top_of (mesh_in ws) (index_in ws) (question_at ws k).x (question_at ws k).y) e
    where
      go : (a : Answer Sample) → given a ≡ hit h n t d → a ≡ taken (hit h n t d)
      go (taken s) q = ap taken q
      go (refused number place) q = absurd (let z : ◌≡◌ {A = ℕ} 0 1 = cc in omega arith)

module _ {ws : List ℕ} {sizes : Sizes} {rs : List ℕ} (a : Asked ws sizes rs) where
  pub asked_are : sizes.questions ≡ count_kind ws 3
  unfolding sizes_of
  asked_are = ap (λ (s : Sizes). s.questions) a.sized

  pub asked_length : length rs ≡ record_words * sizes.questions
  asked_length = ap length a.records ∙ records_length ws ∙ ap (λ (n : ℕ). record_words * n) (sym asked_are)

  module _ {k : ℕ} (h : k < sizes.questions) where
    word_is : (j : ℕ) → j < record_words → get_or rs (record_words * k + j) 0 ≡ get_or (record_in ws k) j 0
    word_is j l = ap (λ (xs : List ℕ). get_or xs (record_words * k + j) 0) a.records ∙ word_in ws k j (omega (arith, asked_are)) l

    -- its record
    pub record_is : (c : ℕ) → k < c → get_or (first_chunks record_words c rs) k [] ≡ record_in ws k
    record_is c l =
        let n : length (take record_words (drop (record_words * k) rs)) ≡ length (record_in ws k) = rw (in_width ws k) (simp (length-take, length-drop) (omega (arith, asked_length))) in
        chunk_at record_words c k rs [] l
        ∙ ext_get_or 0 (take record_words (drop (record_words * k) rs)) (record_in ws k) n
        (λ j m.
        let q : j < record_words = omega (arith, in_width ws k) in
        get_or-take record_words (drop (record_words * k) rs) j 0 q ∙ get_or-drop (record_words * k) rs j 0 ∙ word_is j q)

-- ---- its line

module _ (ws : List ℕ) (k : ℕ) {r : List ℕ} (e : r ≡ record_in ws k) where
  word_of_it : (j : ℕ) → get_or r j 0 ≡ get_or (record_in ws k) j 0
  word_of_it j = ap (λ (xs : List ℕ). get_or xs j 0) e

  pub tells_none : get_or r 0 0 ≡ 0 → Tells ws k None
  unfolding record_in record_of text_of is_found line_at line_of answered_at answered
  tells_none z = go (sample_at ws k) refl (sym (word_of_it 0) ∙ z)
    where
      go : (s : Sample) → sample_at ws k ≡ s → get_or (record_of (taken s)) 0 0 ≡ 0 → Tells ws k None
      go (hit g n t d) e q = absurd (let w : ◌≡◌ {A = ℕ} 1 0 = q in omega arith)
      go miss e q = record { text = rw e; answer = rw e }

  pub tells_found : (f : FoundLine) → (get_or r 0 0 ≡ 0 → ⊥) → f.height ≡ of_bits binary32 (get_or r 1 0)
      → f.normal.x ≡ of_bits binary32 (get_or r 2 0) → f.normal.y ≡ of_bits binary32 (get_or r 3 0)
      → f.normal.z ≡ of_bits binary32 (get_or r 4 0) → f.triangle ≡ get_or r 5 0 → f.lane ≡ lane_in ws f.triangle
      → Tells ws k (Some f)
  unfolding record_in record_of text_of is_found line_at line_of answered_at answered
  tells_found f z eg ex ey ez et el =
      go (sample_at ws k) refl (λ q. z (word_of_it 0 ∙ q)) (word_of_it 1) (word_of_it 2) (word_of_it 3)
      (word_of_it 4) (word_of_it 5)
    where
      back : (v : Float) → T (fits binary32 v) → {w u : ℕ} → w ≡ u → u ≡ to_bits binary32 v → of_bits binary32 w ≡ v
      back v f p q = ap (of_bits binary32) (p ∙ q) ∙ of_bits-to_bits binary32 v f

      go : (s : Sample) → sample_at ws k ≡ s → (get_or (record_of (taken s)) 0 0 ≡ 0 → ⊥)
          → get_or r 1 0 ≡ get_or (record_of (taken s)) 1 0 → get_or r 2 0 ≡ get_or (record_of (taken s)) 2 0
          → get_or r 3 0 ≡ get_or (record_of (taken s)) 3 0 → get_or r 4 0 ≡ get_or (record_of (taken s)) 4 0
          → get_or r 5 0 ≡ get_or (record_of (taken s)) 5 0 → Tells ws k (Some f)
      go (hit i m u d) e q w1 w2 w3 w4 w5 =
          let top = was_hit ws k e in
          let h = single_height (mesh_in ws) (index_in ws) (question_at ws k).x (question_at ws k).y top in
          let v = single_normal (mesh_in ws) (index_in ws) (question_at ws k).x (question_at ws k).y top in
          let eh : f.height ≡ i = eg ∙ back i h w1 refl in
          let mx : f.normal.x ≡ m.x = ex ∙ back m.x v.0 w2 refl in
          let my : f.normal.y ≡ m.y = ey ∙ back m.y v.1 w3 refl in
          let mz : f.normal.z ≡ m.z = ez ∙ back m.z v.2 w4 refl in
          let em : f.normal ≡ m = vector f.normal m mx my mz in
          let eu : f.triangle ≡ u = et ∙ w5 in
          let ll : f.lane ≡ lane_in ws u = el ∙ ap (lane_in ws) eu in
          record { text = rw (e, eh, em, eu, ll); answer = rw e }
      go miss e q w1 w2 w3 w4 w5 = absurd (q refl)

-- ---- one line put, and counted

-- so long is a line
pub found_long : (k : ℕ) (f : FoundLine) → length (text_of k (Some f)) ≡ 64 + length (digits_of 9 k) + length (digits_of 9 f.triangle) + length (lane_text f.lane)
unfolding text_of
found_long k f = found_size k f.height f.normal f.triangle f.lane

pub none_long : (k : ℕ) → length (text_of k None) ≡ 9 + length (digits_of 9 k)
unfolding text_of
none_long k = none_size k

-- ---- all lines

module _ (ws : List ℕ) (k : ℕ) {line : Option FoundLine} (t : Tells ws k line) where
  pub next_size : (m n : ℕ) → m ≡ length (gather (line_at ws) k) → n ≡ m + length (text_of k line) → n ≡ length (gather (line_at ws) (k + 1))
  next_size m n e f = rw (gather_next (line_at ws) k, length-append) (f ∙ rw (e, t.text))

  pub next_found : (m n : ℕ) → m ≡ how_many (answered_at ws) k → n ≡ m + cond (is_found line) 1 0 → n ≡ how_many (answered_at ws) (k + 1)
  next_found m n e f = f ∙ rw (e, t.answer, how_many_next (answered_at ws) k)

  pub next_line : {m₀ m m' : List ℕ} {at next : ℕ} → Put m₀ m 0 (gather (line_at ws) k) at → Put m m' at (text_of k line) next
      → Put m₀ m' 0 (gather (line_at ws) (k + 1)) next
  next_line p q = put_turn (line_at ws) k p (rw t.text at q)

  -- there is room for it among all
  pub line_fits : (room : ℕ) {m₀ m : List ℕ} {at : ℕ} → Put m₀ m 0 (gather (line_at ws) k) at → k < count_kind ws 3 → length (lines_of ws) ≤ room
      → at + length (text_of k line) ≤ room
  unfolding lines_of
  line_fits room p h l =
      let g = gather_fits (line_at ws) k (count_kind ws 3) h in
      let n = count_kind ws 3 in
      let s : length (lines_of ws) ≡ length (gather (line_at ws) n) + length (asked_line n (how_many (answered_at ws) n)) = length-append (gather (line_at ws) n) (asked_line n (how_many (answered_at ws) n)) in
      let e : length (text_of k line) ≡ length (line_at ws k) = ap length t.text in
      omega (arith, g, s, e, p.ends)

module _ (ws : List ℕ) where
  abbrev asked : List ℕ
  asked = asked_line (count_kind ws 3) (how_many (answered_at ws) (count_kind ws 3))

  all_length : length (lines_of ws) ≡ length (gather (line_at ws) (count_kind ws 3)) + length asked
  unfolding lines_of
  all_length = length-append (gather (line_at ws) (count_kind ws 3)) asked

  -- the length of the text
  pub text_size : {totals : LineTotals} {q n m : ℕ} → Totalled ws totals → q ≡ count_kind ws 3 → n ≡ length (asked_line q totals.found)
      → m ≡ totals.size + n → m ≡ length (lines_of ws)
  text_size {totals} {q} {n} {m} t e f g = let u = rw (e, t.answers) at f in omega (arith, all_length, u, g, t.lengths)

  -- and the last line
  pub last_fits : {q found at room : ℕ} {m₀ m : List ℕ} → Put m₀ m 0 (gather (line_at ws) q) at → q ≡ count_kind ws 3
      → found ≡ how_many (answered_at ws) (count_kind ws 3) → length (lines_of ws) ≤ room → at + length (asked_line q found) ≤ room
  last_fits {q} {found} {at} p e f l =
      let d : at ≡ 0 + length (gather (line_at ws) (count_kind ws 3)) = rw e at p.ends in
      rw (e, f) (omega (arith, all_length, d))

  pub last_line : {q found at r : ℕ} {m₀ m m' : List ℕ} → Put m₀ m 0 (gather (line_at ws) q) at → q ≡ count_kind ws 3
      → found ≡ how_many (answered_at ws) (count_kind ws 3) → Put m m' at (asked_line q found) r → Put m₀ m' 0 (lines_of ws) r
  unfolding lines_of
  last_line p e f q = put_then (rw e at p) (rw (e, f) at q)
