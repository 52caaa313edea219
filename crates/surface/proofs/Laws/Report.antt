-- The text of a file has a bound, its mesh is always in order, and no lookup that it is made of is turned back. Assumes nothing.
use Rattle.std.proofs.Math.Path.{◌≡◌, refl, ap, subst}
use Rattle.std.proofs.Common.{sym, ◌∙◌, add-zero, length-append}
use Rattle.std.specs.Prelude.{Bool, Result, Ok, ℕ, ◌+◌, ◌*◌, ◌/◌, ◌%◌, ◌≤◌, ◌<◌, ltb, Float, drop}
use Rattle.std.proofs.Math.Bool.{true, false}
use mathlib.Core.List.{List, [], append-nil}
use native.Mathlib.Omega.{arith}
use borrow.Author.Tests.{ltb-false, le-ltb, eq-eqb}
use Rattle.std.specs.Float.Ieee.{nan}
use Rattle.std.proofs.Math.ListN.{length, get_or, replicate, length-replicate}
use Rattle.std.proofs.Math.Seq.{take-append_seam}
use Rattle.shape.specs.Gather.{gather, any}
use Rattle.shape.specs.Lists.{longer, uneven, mesh_fault}
use Rattle.shape.specs.Refusal.{Fault, fine, fault, refuse, Answer, taken, refused, judge, leaves, told}
use Rattle.shape.proofs.Laws.Gather.{gather_most, gather_even, gather_at}
use Rattle.lookup.specs.Index.{candidates_of, index_words, build_of, index_room, answer_to}
use Rattle.lookup.specs.Demand3.{BuiltFrom}
use Rattle.lookup.specs.Sampler.{Sample, hit, miss, sample_in, top_fault, top_of}
use Rattle.lookup.specs.Consult.{head_fault, consult_of}
use Rattle.lookup.specs.Mesh.{triangles}
use Rattle.lookup.specs.Batch.{record_words, record_of, record_at, records_of, count_answer, tops_of}
use Rattle.lookup.proofs.Laws.Index.{hands}
use Rattle.lookup.proofs.Laws.Limits.{judged}
use Rattle.lookup.proofs.Laws.Demand3.{top_taken, words_fit}
use Rattle.shape.specs.declared.refusal.Refusal.{Refusal}
use Rattle.surface.specs.File.{words_of, file_fault, copy_of}
use Rattle.surface.specs.Held.{how_many, is_kind, count_kind, vertices_in, normals_in, indices_in, lane_in, question_at, point_in, points_of}
use Rattle.surface.specs.Report.{mesh_in, index_in, given, sample_at, line_of, line_at, answered_at, lines_of, or_refused, report_of, report_answer}
use Rattle.surface.specs.ReportSteps.{record_in, records_in}
use Rattle.surface.proofs.Laws.File.{gather_within, words_length, whole_file, copied}
use Rattle.surface.proofs.Laws.Held.{how_many_le, vertices_length, normals_length, indices_length}
use Rattle.surface.proofs.Laws.Text.{found_few, none_few, asked_few, refused_few}

-- a file of 16,384 words has 2,048 records
pub kind_most : (ws : List ℕ) (kind : ℕ) → length ws ≤ 16384 → count_kind ws kind ≤ 2048
unfolding count_kind
kind_most ws kind h = omega (arith, how_many_le (is_kind ws kind) (length ws / 8))

-- ---- the length of the text

line_few : (ws : List ℕ) (k : ℕ) → length (line_at ws k) ≤ 100
unfolding line_at line_of
line_few ws k = go (sample_at ws k)
  where
    go : (s : Sample) → length (line_of ws k s) ≤ 100
    go (hit h n t d) = found_few k h n t (lane_in ws t)
    go miss = none_few k

-- of the first n lines
pub lines_few : (ws : List ℕ) (n : ℕ) → length (gather (line_at ws) n) ≤ 100 * n
lines_few ws n = gather_most (line_at ws) 100 (line_few ws) n

text_few : (ws : List ℕ) → length ws ≤ 16384 → length (lines_of ws) ≤ 204834
unfolding lines_of
text_few ws h =
    let n = count_kind ws 3 in
    rw length-append (omega (arith, lines_few ws n, asked_few n (how_many (answered_at ws) n), kind_most ws 3 h))

-- the text of a file is never longer than 2,048 lines of 100 bytes and a last line of 34
pub report_fits : (bs : List ℕ) → length (report_of bs) ≤ 204834
unfolding report_of or_refused judge
report_fits bs = go (file_fault bs) (whole_file bs) (build_of (mesh_in (words_of bs)) 16384)
  where
    go : (f : Fault) → (f ≡ fine → (length bs % 32 ≡ 0) × (length bs ≤ 65536)) → (a : Answer ℕ)
        → length (or_refused (judge f a) (lines_of (words_of bs))) ≤ 204834
    go fine h (taken n) = text_few (words_of bs) (omega (arith, (h refl).1, words_length bs))
    go fine h (refused number place) = omega (arith, refused_few number place)
    go (fault number place) h a = omega (arith, refused_few number place)

-- so that room for that many bytes is always enough
pub report_taken : (bs : List ℕ) (room : ℕ) → 204834 ≤ room → report_answer bs room ≡ taken (length (report_of bs))
unfolding report_answer
report_taken bs room h = copied (report_of bs) room (omega (arith, report_fits bs))

-- and what is counted lies within the room
pub report_within : (bs : List ℕ) {r : Result ℕ Refusal} {n : ℕ} (room : ℕ) → r ≡ Ok n → told r ≡ report_answer bs room → n ≤ room
unfolding told report_answer copy_of refuse judge
report_within bs {r} {n} room e g = let k = length (report_of bs) in go k (ltb room k) (ltb-false room k) (rw e at g)
  where
    go : (k : ℕ) (b : Bool) → (b ≡ false → k ≤ room) → taken n ≡ judge (refuse b 3 k fine) (taken k) → n ≤ room
    go k true h q = absurd (let z : ◌≡◌ {A = ℕ} 0 1 = cc in omega arith)
    go k false h q = let w : n ≡ k = cc in omega (arith, h refl)

-- ---- the mesh of a surface

three : (n k : ℕ) → n ≡ 3 * k → n % 3 ≡ 0
three n k e = omega arith

module _ (ws : List ℕ) where
  -- it is never turned back: of the refusals of a file's text, 1 and 5 are the file's own and 3 is for its index
  pub mesh_fine : length ws ≤ 16384 → mesh_fault (mesh_in ws) ≡ fine
  unfolding mesh_fault mesh_in refuse longer uneven any
  mesh_fine h =
      let v : length (vertices_in ws) ≤ 196608 = omega (arith, vertices_length ws, kind_most ws 1 h) in
      let n : length (normals_in ws) ≤ 196608 = omega (arith, normals_length ws, kind_most ws 1 h) in
      let i : length (indices_in ws) ≤ 196608 = omega (arith, indices_length ws, kind_most ws 2 h) in
      rw (le-ltb 196608 (length (vertices_in ws)) v, le-ltb 196608 (length (normals_in ws)) n, le-ltb 196608 (length (indices_in ws)) i, eq-eqb (length (vertices_in ws) % 3) 0 (three _ _ (vertices_length ws)), eq-eqb (length (normals_in ws) % 3) 0 (three _ _ (normals_length ws)))

  pub build_fine : length ws ≤ 16384 → build_of (mesh_in ws) 16384 ≡ answer_to (index_in ws) 16384
  unfolding build_of judge mesh_in index_in
  build_fine h = rw (mesh_fine h)

-- ---- the questions

module _ (ws : List ℕ) where
  pub points_length : length (points_of ws) ≡ 2 * count_kind ws 3
  unfolding points_of point_in
  points_length = gather_even (point_in ws) 2 (λ i. refl) (count_kind ws 3)

  module _ (k : ℕ) (h : k < count_kind ws 3) where
    point_at : (j : ℕ) → j < 2 → get_or (points_of ws) (2 * k + j) nan ≡ get_or (point_in ws k) j nan
    unfolding points_of point_in
    point_at j l =
        let e : length (gather (point_in ws) k) ≡ 2 * k = gather_even (point_in ws) 2 (λ i. refl) k in
        rw e at (gather_at (point_in ws) (count_kind ws 3) k j nan h l)

    pub point_x : get_or (points_of ws) (2 * k) nan ≡ (question_at ws k).x
    unfolding point_in
    point_x = ap (λ (i : ℕ). get_or (points_of ws) i nan) (sym (add-zero (2 * k))) ∙ point_at 0 (omega arith)

    pub point_y : get_or (points_of ws) (2 * k + 1) nan ≡ (question_at ws k).y
    unfolding point_in
    point_y = point_at 1 (omega arith)

-- ---- the lookups

module _ (k : ℕ) where
  -- what building answers to an index of k words that is past its limit or not, and past the room or not
  abbrev pub size : Bool → Bool → Answer ℕ
  size a b = judge (refuse a 1 4194304 (refuse b 3 k fine)) (taken k)

  pub size_taken : (a b : Bool) (n : ℕ) → taken n ≡ size a b → n ≡ k
  unfolding judge refuse
  size_taken true b n e = absurd (let z : ◌≡◌ {A = ℕ} 0 1 = cc in omega arith)
  size_taken false true n e = absurd (let z : ◌≡◌ {A = ℕ} 0 1 = cc in omega arith)
  size_taken false false n e = cc

  pub size_refused : (a b : Bool) (x p : ℕ) → (a ≡ false → k ≤ 4194304) → refused x p ≡ size a b → p ≤ 4194304
  unfolding judge refuse
  size_refused true b x p h e = let w : p ≡ 4194304 = cc in omega arith
  size_refused false true x p h e = let w : p ≡ k = cc in omega (arith, h refl)
  size_refused false false x p h e = absurd (let z : ◌≡◌ {A = ℕ} 0 1 = cc in omega arith)

module _ (ws : List ℕ) (few : length ws ≤ 16384) {n : ℕ} (t : build_of (mesh_in ws) 16384 ≡ taken n) where
  pub built_size : n ≡ length (index_in ws)
  unfolding answer_to index_room
  built_size = let k = length (index_in ws) in size_taken k (ltb 4194304 k) (ltb 16384 k) n (sym t ∙ build_fine ws few)

  built_from : (before : List ℕ) → length before ≡ 16384 → BuiltFrom (mesh_in ws) (index_in ws)
  unfolding leaves mesh_in index_in
  built_from before e =
      let took : build_of (mesh_in ws) (length before) ≡ taken n = rw e t in
      record {
        before = before;
        size = n;
        took = took;
        kept = n;
        enough = omega arith;
        is = rw (took, built_size) (sym (take-append_seam (index_in ws) (drop (length (index_in ws)) before)));
      }

  whole : (before : List ℕ) (e : length before ≡ 16384) → (built_from before e).kept ≡ (built_from before e).size
  unfolding built_from
  whole before e = refl

  -- where the index is built, no lookup in it is turned back: the candidates are the index's own, and the best of them is the answer
  pub never_refused : (x y : Float) → top_of (mesh_in ws) (index_in ws) x y ≡ taken (sample_in (mesh_in ws) x y (candidates_of (vertices_in ws) (indices_in ws) x y))
  unfolding mesh_in
  never_refused x y =
      let o = replicate {A = ℕ} 16384 0 in
      let e = length-replicate {A = ℕ} 16384 0 in
      let b = built_from o e in
      top_taken (mesh_in ws) (index_in ws) b x y (words_fit (mesh_in ws) (index_in ws) b (whole o e))

  -- the index's first words are those of an index of the mesh
  head_fine : head_fault (index_in ws) (triangles (indices_in ws)) ≡ fine
  unfolding index_in consult_of
  head_fine =
      let vs = vertices_in ws in
      let is = indices_in ws in
      let h = hands vs is [] nan nan in
      let e = subst (λ (o : List ℕ). consult_of o (triangles is) nan nan ≡ taken h.place) (append-nil (index_words vs is)) h.answers in
      (judged (head_fault (index_words vs is) (triangles is)) _ _ e).0

  -- "all questions by one call": it is taken, whatever the lookup judges of the index, which was built from the mesh
  pub all_taken : tops_of (mesh_in ws) (index_in ws) (points_of ws) (2048 * record_words) ≡ taken (count_kind ws 3)
  unfolding tops_of count_answer refuse uneven judge top_of mesh_in
  all_taken =
      let x = nan in
      let f = (judged (top_fault (mesh_in ws) (index_in ws)) _ _ (never_refused x x)).0 in
      let k = count_kind ws 3 in
      let n = length (points_of ws) in
      let even : n % 2 ≡ 0 = omega (arith, points_length ws) in
      let half : n / 2 ≡ k = omega (arith, points_length ws) in
      let room : record_words * k ≤ 2048 * record_words = omega (arith, kind_most ws 3 few) in
      rw (f, eq-eqb (n % 2) 0 even, head_fine, half, le-ltb (2048 * record_words) (record_words * k) room)

  -- and it leaves the records of the questions' answers
  record_is : (k : ℕ) → k < count_kind ws 3 → record_at (mesh_in ws) (index_in ws) (points_of ws) k ≡ record_in ws k
  unfolding record_at record_in sample_at given
  record_is k h =
      rw (point_x ws k h, point_y ws k h) (given_is _ _ (never_refused (question_at ws k).x (question_at ws k).y))
    where
      given_is : (a : Answer Sample) (s : Sample) → a ≡ taken s → record_of a ≡ record_of (taken (given a))
      given_is a s e = rw e

  pub records_are : records_of (mesh_in ws) (index_in ws) (points_of ws) ≡ records_in ws
  unfolding records_of records_in
  records_are =
      let half : length (points_of ws) / 2 ≡ count_kind ws 3 = omega (arith, points_length ws) in
      rw half (gather_within (record_at (mesh_in ws) (index_in ws) (points_of ws)) (record_in ws) (count_kind ws 3) record_is)
