-- The records of many points, written one after another, and what the calls come to. Assumes nothing.
use Rattle.std.proofs.Common.{◌≡◌, ℕ, zero, suc, ◌+◌, ◌*◌, ◌%◌, ◌≤◌, List, ◌++◌, length, get_or, take, drop, replicate, length-take-le, refl, sym, ap, ◌∙◌, arith, le-ltb, nat_lt, eq-eqb, drop_at, length-append}
use Rattle.std.proofs.Math.Nat.{mul-suc}
use Rattle.std.proofs.lemmas.List.{replicate-append-replicate}
use lib.Ieee.{Float, nan}
use Rattle.shape.specs.Lists.{Mesh, uneven}
use Rattle.shape.specs.Memory.{Put}
use Rattle.shape.specs.Refusal.{fine, fault, refuse, Answer, taken, refused, judge, leaves}
use Rattle.shape.specs.Gather.{gather}
use Rattle.shape.proofs.Laws.Gather.{gather_even}
use Rattle.shape.proofs.Laws.Memory.{put_turn}
use lib.Seq.{drop-drop}
use Rattle.lookup.proofs.Cuts.{cut_get}
use Rattle.lookup.specs.Mesh.{triangles}
use Rattle.lookup.specs.Consult.{head_fault}
use Rattle.lookup.specs.Sampler.{Sample, miss, top_fault, top_of}
use Rattle.lookup.specs.Batch.{record_words, record_of, record_at, records_of, points_in, count_answer, tops_of}
use Rattle.lookup.specs.Record.{room_for}
use Rattle.lookup.proofs.Laws.Batch.{record_width}

-- ---- one point

module _ (n : ℕ) (old : List ℕ) where
  pub front_put : (a : Answer Sample) {now : List ℕ} → record_words ≤ length old → now ≡ record_of a → now ++ drop record_words old ≡ leaves (room_for n (length old)) (record_of a) old
  unfolding room_for judge leaves refuse
  front_put a h e = rw (le-ltb (length old) record_words h, e, record_width a) refl

-- ---- many points

-- the same is gathered where each gives the same
gather_is : (f h : ℕ → List ℕ) → ((i : ℕ) → f i ≡ h i) → (n : ℕ) → gather f n ≡ gather h n
unfolding gather
gather_is f h e zero = refl
gather_is f h e (suc n) = rw (gather_is f h e n, e n)

same_width : (a : Answer Sample) (n : ℕ) → length (gather (λ (k : ℕ). record_of a) n) ≡ record_words * n
same_width a n = gather_even (λ (k : ℕ). record_of a) record_words (λ k. record_width a) n

-- the records of no height are zeros
zeros : (n : ℕ) → replicate (record_words * n) 0 ≡ gather (λ (k : ℕ). record_of (taken miss)) n
unfolding gather record_of
zeros zero = refl
zeros (suc n) = rw (mul-suc record_words n, ← replicate-append-replicate {A = ℕ} (record_words * n) record_words 0, zeros n) refl

pub zeros_front : (n : ℕ) (old : List ℕ) {new : List ℕ} → record_words * n ≤ length old → new ≡ replicate (length (take (record_words * n) old)) 0
    → let rs = gather (λ (k : ℕ). record_of (taken miss)) n in new ++ drop (record_words * n) old ≡ rs ++ drop (length rs) old
zeros_front n old h e =
    rw (e, length-take-le (record_words * n) old h, zeros n, same_width (taken miss) n) refl

module _ (ps : List Float) (old : List ℕ) where
  pub count_refused : {n p : ℕ} (rs : List ℕ) → fault n p ≡ refuse (nat_lt (length old) (record_words * points_in ps)) 3 (record_words * points_in ps) fine
      → (refused n p ≡ count_answer ps (length old)) × (old ≡ leaves (count_answer ps (length old)) rs old)
  unfolding count_answer judge leaves
  count_refused rs e = (rw (← e) refl, rw (← e) refl)

  pub count_all : (rs : List ℕ) {now : List ℕ} → record_words * points_in ps ≤ length old → now ≡ rs ++ drop (length rs) old
      → (taken (points_in ps) ≡ count_answer ps (length old)) × (now ≡ leaves (count_answer ps (length old)) rs old)
  unfolding count_answer judge leaves refuse
  count_all rs h e = (rw (le-ltb (length old) (record_words * points_in ps) h), rw (le-ltb (length old) (record_words * points_in ps) h) e)

module _ (m : Mesh) (ws : List ℕ) (ps : List Float) where
  -- one answer at every point
  pub all_same : (a : Answer Sample) → ((x y : Float) → a ≡ top_of m ws x y) → gather (λ (k : ℕ). record_of a) (points_in ps) ≡ records_of m ws ps
  unfolding records_of record_at
  all_same a e =
      gather_is (λ (k : ℕ). record_of a) (record_at m ws ps) (λ k. ap record_of (e (get_or ps (2 * k) nan) (get_or ps (2 * k + 1) nan))) (points_in ps)

  at_width : (k : ℕ) → length (record_at m ws ps k) ≡ record_words
  unfolding record_at
  at_width k = record_width (top_of m ws (get_or ps (2 * k) nan) (get_or ps (2 * k + 1) nan))

  -- one point more: what is left of the points, and the records of those before
  pub point_turn : {old now new : List ℕ} {rest left : List Float} (k : ℕ) {j : ℕ} (part : List Float) (s : Answer Sample) → 2 * k + length rest ≡ length ps → rest ≡ drop (2 * k) ps
      → Put old now 0 (gather (record_at m ws ps) k) (record_words * k)
      → rest ≡ part ++ left → length part ≡ 2 → s ≡ top_of m ws (get_or part 0 nan) (get_or part 1 nan)
      → j ≡ k → Put now new (record_words * j) (record_of s) (record_words * j + record_words)
      → (2 * (k + 1) + length left ≡ length ps) × (left ≡ drop (2 * (k + 1)) ps) × Put old new 0 (gather (record_at m ws ps) (k + 1)) (record_words * (k + 1))
  unfolding record_at
  point_turn {rest = rest} {left} k part s l e done c two same z p =
      let n : length rest ≡ length part + length left = ap length c ∙ length-append part left in
      let i : 2 * k + length part ≡ 2 * (k + 1) = omega (arith, two) in
      let w : record_words * k + record_words ≡ record_words * (k + 1) = omega arith in
      let x : get_or part 0 nan ≡ get_or ps (2 * k) nan = cut_get ps part left (2 * k) 0 nan (sym c ∙ e) (omega (arith, two)) ∙ ap (λ (z : ℕ). get_or ps z nan) (omega arith) in
      let y : get_or part 1 nan ≡ get_or ps (2 * k + 1) nan = cut_get ps part left (2 * k) 1 nan (sym c ∙ e) (omega (arith, two)) in
      let q : s ≡ top_of m ws (get_or ps (2 * k) nan) (get_or ps (2 * k + 1) nan) = rw (← x, ← y) same in (
        omega (arith, l, n, two),
        rw (← i) (sym (drop_at part left (length part) refl) ∙ ap (drop (length part)) (sym c ∙ e) ∙ drop-drop (length part) (2 * k) ps),
        rw (← w) (put_turn (record_at m ws ps) k done (rw (← q, ← z) p)),
      )

  pub all_width : length (records_of m ws ps) ≡ record_words * points_in ps
  unfolding records_of
  all_width = gather_even (record_at m ws ps) record_words at_width (points_in ps)

  -- ---- the call's ends, for an output that held `old`

  module _ (old : List ℕ) (f : top_fault m ws ≡ fine) (even : length ps % 2 ≡ 0) where
    pub said_foreign : {n p : ℕ} → head_fault ws (triangles m.indices) ≡ fault n p
        → (refused n p ≡ tops_of m ws ps (length old)) × (old ≡ leaves (tops_of m ws ps (length old)) (records_of m ws ps) old)
    unfolding tops_of judge leaves uneven refuse
    said_foreign e = (rw (f, eq-eqb (length ps % 2) 0 even, e), rw (f, eq-eqb (length ps % 2) 0 even, e))

    pub said_rest : {a : Answer ℕ} {now rs : List ℕ} → head_fault ws (triangles m.indices) ≡ fine → rs ≡ records_of m ws ps
        → (a ≡ count_answer ps (length old)) × (now ≡ leaves (count_answer ps (length old)) rs old)
        → (a ≡ tops_of m ws ps (length old)) × (now ≡ leaves (tops_of m ws ps (length old)) (records_of m ws ps) old)
    unfolding tops_of judge uneven refuse
    said_rest e s p = (rw (f, eq-eqb (length ps % 2) 0 even, e) p.0, rw (f, eq-eqb (length ps % 2) 0 even, e, ← s) p.1)

    -- the records are all written
    pub said_all : {now rs : List ℕ} → head_fault ws (triangles m.indices) ≡ fine → rs ≡ records_of m ws ps → record_words * points_in ps ≤ length old → now ≡ rs ++ drop (length rs) old
        → (taken (points_in ps) ≡ tops_of m ws ps (length old)) × (now ≡ leaves (tops_of m ws ps (length old)) (records_of m ws ps) old)
    said_all {rs = rs} e s h n = said_rest e s (count_all ps old rs h n)
