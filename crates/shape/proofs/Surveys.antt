-- Laws behind the check of a grid's lists: what a pass over the rows has seen, and what is found of them. Assumes nothing.
use Rattle.std.proofs.Common.{◌≡◌, ℕ, ◌+◌, ◌-◌, ◌*◌, ◌<◌, ◌≤◌, max, Bool, true, false, cond, not, ◌||◌, ◌⊎◌, List, length, sym, refl, ap, ◌∙◌, inl, inr, add-one, arith, ltb-false, Option, Some, None, Result, Ok, Err}
use Rattle.std.proofs.Math.Bool.{or-true}
use Rattle.std.specs.Prelude.{Float}
use borrow.Author.Tests.{not-true, not-false}
use Rattle.shape.specs.declared.elevation.GridFault.{GridFault}
use Rattle.shape.specs.declared.elevation.GridFault.TheVariants.{Long, Ragged}
use Rattle.shape.specs.Gather.{any}
use Rattle.shape.specs.Refusal.{Answer, number_of, place_of, fine, refuse, judge, told}
use Rattle.shape.specs.Lists.{max_ring, max_rows, longer, uneven, word_of, last_end, run_bad, run_long}
use Rattle.shape.proofs.Laws.Gather.{any_next, any_some, or_left, or_right}
use Rattle.shape.proofs.Laws.Refusal.{passed, else_passed}
use Rattle.shape.specs.Elevation.{row_of, row_count, longest, widest_of, grid_long, grid_ragged, grid_fault, grid_check}
use Rattle.shape.specs.ElevationSteps.{odd_run, odd_runs, pass_of, fault_of, refusal_of, Limits}
use Rattle.shape.specs.JunctionMesh.{Ground, ground_of, ground_limits, ground_ragged, ground_input}
use Rattle.shape.specs.declared.elevation.ElevationGrid.{ElevationGrid}
use Rattle.shape.specs.declared.elevation.Heights.{Heights}
use Rattle.shape.specs.declared.elevation.GridRow.{GridRow}
use Rattle.shape.proofs.Heights.{widest_few}

-- ---- a pass over the rows

-- after k rows that are in order
pub record Seen (rows : List ℕ) (l r most last_left last_right k : ℕ) : Type 0 where
  pub long_left : any (run_long 6 2 rows 1024) k ≡ false
  pub long_right : any (run_long 6 4 rows 1024) k ≡ false
  pub bad_left : any (run_bad 6 2 rows l) k ≡ false
  pub bad_right : any (run_bad 6 4 rows r) k ≡ false
  pub most_is : most ≡ max (longest 2 rows k) (longest 4 rows k)
  pub left_end : last_left ≡ last_end 6 2 rows k
  pub right_end : last_right ≡ last_end 6 4 rows k

or_cases : (a b : Bool) → (a || b) ≡ true → (a ≡ true) ⊎ (b ≡ true)
or_cases true b e = inl refl
or_cases false b e = inr e

maxes : (p q c d : ℕ) → max (max (max p q) c) d ≡ max (max p c) (max q d)
maxes p q c d = omega arith

module _ (rows : List ℕ) (l r : ℕ) where
  pub seen_start : Seen rows l r 0 0 0 0
  unfolding any longest last_end
  seen_start =
      record { long_left = refl; long_right = refl; bad_left = refl; bad_right = refl; most_is = refl; left_end = refl; right_end = refl }

  -- the run of row k on the left, and on the right
  left_odd : (k : ℕ) → odd_run (row_of rows k).left (last_end 6 2 rows k) l ≡ (run_bad 6 2 rows l k || run_long 6 2 rows 1024 k)
  unfolding odd_run row_of run_bad run_long
  left_odd k = refl

  right_odd : (k : ℕ) → odd_run (row_of rows k).right (last_end 6 4 rows k) r ≡ (run_bad 6 4 rows r k || run_long 6 4 rows 1024 k)
  unfolding odd_run row_of run_bad run_long
  right_odd k = refl

  module _ {most a b k : ℕ} (s : Seen rows l r most a b k) {here : GridRow} (h : here ≡ row_of rows k) where
    left_test : {t : Bool} → t ≡ not (odd_run here.left a l) → t ≡ not (run_bad 6 2 rows l k || run_long 6 2 rows 1024 k)
    left_test e =
        let d : odd_run here.left a l ≡ (run_bad 6 2 rows l k || run_long 6 2 rows 1024 k) = rw (h, s.left_end) (left_odd k) in
        e ∙ ap not d

    right_test : {t : Bool} → t ≡ not (odd_run here.right b r) → t ≡ not (run_bad 6 4 rows r k || run_long 6 4 rows 1024 k)
    right_test e =
        let d : odd_run here.right b r ≡ (run_bad 6 4 rows r k || run_long 6 4 rows 1024 k) = rw (h, s.right_end) (right_odd k) in
        e ∙ ap not d

    pub odd_left : (m : ℕ) → k < m → {t : Bool} → t ≡ not (odd_run here.left a l) → t ≡ false → odd_runs rows l r m ≡ true
    unfolding odd_runs
    odd_left m n e f =
        elim (or_cases (run_bad 6 2 rows l k) (run_long 6 2 rows 1024 k) (not-false (run_bad 6 2 rows l k || run_long 6 2 rows 1024 k) (sym (left_test e) ∙ f))) [
          | inl g ↦ rw (any_some (run_bad 6 2 rows l) k m n g) (or-true (any (run_long 6 2 rows 1024) m || any (run_long 6 4 rows 1024) m))
          | inr g ↦ rw (any_some (run_long 6 2 rows 1024) k m n g)
        ]

    pub odd_right : (m : ℕ) → k < m → {t : Bool} → t ≡ not (odd_run here.right b r) → t ≡ false → odd_runs rows l r m ≡ true
    unfolding odd_runs
    odd_right m n e f =
        elim (or_cases (run_bad 6 4 rows r k) (run_long 6 4 rows 1024 k) (not-false (run_bad 6 4 rows r k || run_long 6 4 rows 1024 k) (sym (right_test e) ∙ f))) [
          | inl g ↦
              rw (any_some (run_bad 6 4 rows r) k m n g, or-true (any (run_bad 6 2 rows l) m))
              (or-true (any (run_long 6 2 rows 1024) m || any (run_long 6 4 rows 1024) m))
          | inr g ↦ rw (any_some (run_long 6 4 rows 1024) k m n g, or-true (any (run_long 6 2 rows 1024) m))
        ]

    pub seen_next : {t u : Bool} {new : ℕ} → t ≡ not (odd_run here.left a l) → t ≡ true → u ≡ not (odd_run here.right b r) → u ≡ true
        → new ≡ max (max most (here.left.end - here.left.start)) (here.right.end - here.right.start)
        → Seen rows l r new here.left.end here.right.end (k + 1)
    unfolding longest last_end row_of
    seen_next e f g i n =
        let x = not-true (run_bad 6 2 rows l k || run_long 6 2 rows 1024 k) (sym (left_test e) ∙ f) in
        let y = not-true (run_bad 6 4 rows r k || run_long 6 4 rows 1024 k) (sym (right_test g) ∙ i) in
        record {
          long_left = any_next (run_long 6 2 rows 1024) k ∙ rw s.long_left (or_right (run_bad 6 2 rows l k) (run_long 6 2 rows 1024 k) x);
          long_right = any_next (run_long 6 4 rows 1024) k ∙ rw s.long_right (or_right (run_bad 6 4 rows r k) (run_long 6 4 rows 1024 k) y);
          bad_left = any_next (run_bad 6 2 rows l) k ∙ rw s.bad_left (or_left (run_bad 6 2 rows l k) (run_long 6 2 rows 1024 k) x);
          bad_right = any_next (run_bad 6 4 rows r) k ∙ rw s.bad_right (or_left (run_bad 6 4 rows r k) (run_long 6 4 rows 1024 k) y);
          most_is =
              n
              ∙ rw (add-one k, h, s.most_is)
              (maxes (longest 2 rows k) (longest 4 rows k) (word_of 6 rows k 3 - word_of 6 rows k 2) (word_of 6 rows k 5 - word_of 6 rows k 4));
          left_end = rw (add-one k, h);
          right_end = rw (add-one k, h);
        }

  pub seen_all : {most a b : ℕ} → Seen rows l r most a b (row_count rows) → Some most ≡ pass_of rows l r
  unfolding pass_of odd_runs widest_of
  seen_all s = rw (s.long_left, s.long_right, s.bad_left, s.bad_right, s.most_is)

  pub seen_odd : odd_runs rows l r (row_count rows) ≡ true → None ≡ pass_of rows l r
  unfolding pass_of
  seen_odd e = rw e

-- ---- what is found

pass_odd : (o : Bool) (n : ℕ) → cond o None (Some n) ≡ None → o ≡ true
pass_odd true n e = refl
pass_odd false n e = absurd (let z : ◌≡◌ {A = ℕ} 0 1 = cc in omega arith)

pass_sound : (o : Bool) (n w : ℕ) → cond o None (Some n) ≡ Some w → (o ≡ false) × (n ≡ w)
pass_sound true n w e = absurd (let z : ◌≡◌ {A = ℕ} 0 1 = cc in omega arith)
pass_sound false n w e = (refl, cc)

-- something is long or bad, and if it is not long, it is ragged
odd_case : (a b c d u : Bool) (n : ℕ) → ((a || b) || (c || d)) ≡ true → ◌≡◌ {A = Result ℕ GridFault} (Err (cond (a || b) Long Ragged)) (cond ((false || a) || b) (Err Long) (cond ((u || c) || d) (Err Ragged) (Ok n)))
odd_case true b c d u n e = refl
odd_case false true c d u n e = refl
odd_case false false c d true n e = refl
odd_case false false true d false n e = refl
odd_case false false false true false n e = refl
odd_case false false false false false n e = absurd (let z : ◌≡◌ {A = ℕ} 0 1 = cc in omega arith)

module _ (rows : List ℕ) (l r : ℕ) where
  pub found_long : longer 6 1024 rows ≡ true → (Err Long) ≡ grid_check rows l r
  unfolding grid_check grid_long
  found_long e = rw e

  pub found_odd : longer 6 1024 rows ≡ false → None ≡ pass_of rows l r → Err (fault_of rows) ≡ grid_check rows l r
  unfolding grid_check grid_long grid_ragged fault_of pass_of odd_runs
  found_odd e o =
      rw e
      (odd_case (any (run_long 6 2 rows 1024) (row_count rows)) (any (run_long 6 4 rows 1024) (row_count rows)) (any (run_bad 6 2 rows l) (row_count rows)) (any (run_bad 6 4 rows r) (row_count rows))
      (uneven 6 rows) (widest_of rows) (pass_odd (odd_runs rows l r (row_count rows)) (widest_of rows) (sym o)))

  module _ (w : ℕ) (e : longer 6 1024 rows ≡ false) (o : Some w ≡ pass_of rows l r) where
    sound_runs : (odd_runs rows l r (row_count rows) ≡ false) × (widest_of rows ≡ w)
    unfolding pass_of
    sound_runs = pass_sound (odd_runs rows l r (row_count rows)) (widest_of rows) w (sym o)

    -- no side of a row is long, and no run is bad
    all_sound : ((any (run_long 6 2 rows 1024) (row_count rows) ≡ false) × (any (run_long 6 4 rows 1024) (row_count rows) ≡ false))
        × ((any (run_bad 6 2 rows l) (row_count rows) ≡ false) × (any (run_bad 6 4 rows r) (row_count rows) ≡ false))
    unfolding odd_runs
    all_sound =
        let a = any (run_long 6 2 rows 1024) (row_count rows) in
        let b = any (run_long 6 4 rows 1024) (row_count rows) in
        let c = any (run_bad 6 2 rows l) (row_count rows) in
        let d = any (run_bad 6 4 rows r) (row_count rows) in
        let f = or_left (a || b) (c || d) sound_runs.0 in
        let g = or_right (a || b) (c || d) sound_runs.0 in
        ((or_left a b f, or_right a b f), (or_left c d g, or_right c d g))

    pub found_uneven : uneven 6 rows ≡ true → (Err Ragged) ≡ grid_check rows l r
    unfolding grid_check grid_long grid_ragged
    found_uneven u = rw (e, u, all_sound.0.0, all_sound.0.1)

    pub found_widest : uneven 6 rows ≡ false → Ok w ≡ grid_check rows l r
    unfolding grid_check grid_long grid_ragged
    found_widest u = rw (e, u, all_sound.0.0, all_sound.0.1, all_sound.1.0, all_sound.1.1, sound_runs.1)

-- ---- what a finding says

is_long : (a b : Bool) (n : ℕ) → (Err Long) ≡ cond a (Err Long) (cond b (Err Ragged) (Ok n)) → a ≡ true
is_long true b n e = refl
is_long false true n e = absurd (let z : ◌≡◌ {A = ℕ} 0 1 = cc in omega arith)
is_long false false n e = absurd (let z : ◌≡◌ {A = ℕ} 0 1 = cc in omega arith)

is_ragged : (a b : Bool) (n : ℕ) → (Err Ragged) ≡ cond a (Err Long) (cond b (Err Ragged) (Ok n)) → (a ≡ false) × (b ≡ true)
is_ragged true b n e = absurd (let z : ◌≡◌ {A = ℕ} 0 1 = cc in omega arith)
is_ragged false true n e = (refl, refl)
is_ragged false false n e = absurd (let z : ◌≡◌ {A = ℕ} 0 1 = cc in omega arith)

is_widest : (a b : Bool) (n w : ℕ) → Ok w ≡ cond a (Err Long) (cond b (Err Ragged) (Ok n)) → ((a ≡ false) × (b ≡ false)) × (w ≡ n)
is_widest true b n w e = absurd (let z : ◌≡◌ {A = ℕ} 0 1 = cc in omega arith)
is_widest false true n w e = absurd (let z : ◌≡◌ {A = ℕ} 0 1 = cc in omega arith)
is_widest false false n w e = ((refl, refl), cc)

module _ (rows : List ℕ) (l r : ℕ) where
  pub says_long : (Err Long) ≡ grid_check rows l r → grid_long rows ≡ true
  unfolding grid_check
  says_long e = is_long (grid_long rows) (grid_ragged rows l r) (widest_of rows) e

  pub says_ragged : (Err Ragged) ≡ grid_check rows l r → (grid_long rows ≡ false) × (grid_ragged rows l r ≡ true)
  unfolding grid_check
  says_ragged e = is_ragged (grid_long rows) (grid_ragged rows l r) (widest_of rows) e

  pub says_widest : (w : ℕ) → Ok w ≡ grid_check rows l r → ((grid_long rows ≡ false) × (grid_ragged rows l r ≡ false)) × (w ≡ widest_of rows)
  unfolding grid_check
  says_widest w e = is_widest (grid_long rows) (grid_ragged rows l r) (widest_of rows) w e

  -- a fault that is found, as the refusal of a call
  pub says_fault : {A : Type 0} (e : GridFault) (after : Answer A) → Err e ≡ grid_check rows l r → told (Err (refusal_of e 0)) ≡ judge (grid_fault rows l r) after
  unfolding told judge refuse grid_fault refusal_of number_of place_of
  says_fault Long after e = rw (says_long e)
  says_fault Ragged after e = let p = says_ragged e in rw (p.0, p.1)

-- lists that are not faulty keep the limits
pub limits : (rows : List ℕ) (most : ℕ) → grid_long rows ≡ false → most ≡ widest_of rows → Limits rows most
unfolding grid_long longer
limits rows most e w =
    let a = any (run_long 6 2 rows 1024) (row_count rows) in
    let b = any (run_long 6 4 rows 1024) (row_count rows) in
    let f = or_left (longer 6 1024 rows || a) b e in
    let x : length rows ≤ 6 * 1024 = ltb-false (6 * 1024) (length rows) (or_left (longer 6 1024 rows) a f) in
    let y : widest_of rows ≤ 1024 = widest_few rows (or_right (longer 6 1024 rows) a f) (or_right (longer 6 1024 rows || a) b e) in
    record { few = omega arith; narrow = omega arith; widest = w }

-- ---- a junction's input

-- one with no fault keeps the limits
pub input_limits : (g : Ground) → ground_input g ≡ fine → Limits g.rows (widest_of g.rows) × (length g.ring ≤ 3 * max_ring)
unfolding ground_input ground_limits ground_ragged longer
input_limits g h =
    let p = else_passed (ground_limits g) (ground_ragged g) h in
    let ring = passed (longer 3 max_ring g.ring) 1 max_ring _ p.0 in
    let long = (passed (grid_long g.rows) 1 max_rows fine ring.1).0 in
    (limits g.rows (widest_of g.rows) long refl, ltb-false (3 * max_ring) (length g.ring) ring.0)

-- whether there is a grid does not matter to the check of the lists
pub same_input : (ring : List Float) (g : Option ElevationGrid) (h : Heights) → ground_input (ground_of ring None h) ≡ ground_input (ground_of ring g h)
unfolding ground_input ground_limits ground_ragged
same_input ring g h = refl
