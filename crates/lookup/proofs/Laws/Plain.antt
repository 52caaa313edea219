-- Demand 3, the plain lookup. Where no covering height is a NaN it answers the winner: the covering triangle of greatest height, the lowest-numbered among
-- equals, with its worked-out height and its normal. It answers none exactly where no triangle covers the point, NaN or not.
-- And what a scan over any run of triangle numbers has to do with the winner. Assumes nothing.
use Rattle.std.specs.Prelude.{◌≡◌, ℕ, ◌<◌, ◌≤◌, Bool, true, false, ◌&&◌, T, ◌↔◌, List, refl, Float, Option, Some, None}
use Rattle.std.proofs.Common.{arith, sym, subst, ◌∙◌, ltb-true}
use Rattle.std.proofs.Math.Decide.{dec_lt}
use Rattle.std.specs.Float.Ieee.{le, eq}
use Rattle.rounding.proofs.Laws.Order.{num_not_nan, not_nan_num, le_num_left, le_antisym, ge_of_eq}
use Rattle.shape.specs.Lists.{Mesh, mesh_fault}
use Rattle.shape.specs.Refusal.{Fault, fine, fault, taken, judge}
use Rattle.lookup.specs.Mesh.{triangles, present}
use Rattle.lookup.specs.Cover.{covers}
use Rattle.lookup.specs.Plain.{scan_of, Lookup, gives, none, lookup_of, plain_of, answer_of}
use Rattle.lookup.specs.Winner.{Covers, Uncovered, height, normal, Wins, NoNan, Right}
use Rattle.lookup.proofs.Laws.Scan.{Numbers, Leads, Leading, scan_leads, scan_nothing}

-- the best of the first n triangles of a sequence, and of all
abbrev pub best_of : Mesh → Float → Float → (ℕ → ℕ) → ℕ → (Option (Float × ℕ))
best_of m x y seq n = scan_of m.vertices m.indices x y seq n

abbrev pub best_of_all : Mesh → Float → Float → (Option (Float × ℕ))
best_of_all m x y = best_of m x y (λ t. t) (triangles m.indices)

-- ---- a covering triangle is a triangle of the mesh

and_left : (p q : Bool) → (p && q) ≡ true → p ≡ true
and_left true q e = refl
and_left false q e = e

true_of : (b : Bool) → T b → b ≡ true
true_of true h = refl
true_of false h = absurd h

pub present_below : (vs : List Float) (is : List ℕ) (t : ℕ) → present vs is t ≡ true → t < triangles is
unfolding present
present_below vs is t e = ltb-true t (triangles is) (and_left _ _ (and_left _ _ (and_left _ _ e)))

pub covers_below : (m : Mesh) (x y : Float) (j : ℕ) → Covers m x y j → j < triangles m.indices
unfolding covers
covers_below m x y j h = present_below m.vertices m.indices j (and_left _ _ (true_of _ h))

module _ (m : Mesh) (x y : Float) where
  numbers : NoNan m x y → Numbers m.vertices m.indices x y
  numbers nn j c = num_not_nan _ (nn j c)

  -- where there is a winner, no covering height is a NaN
  pub wins_no_nan : (k : ℕ) → Wins m x y k → NoNan m x y
  wins_no_nan k w j c = not_nan_num (height m x y j) (le_num_left (height m x y j) (height m x y k) (w.greatest j c))

  -- there is one winner at most
  pub one_winner : (j k : ℕ) → Wins m x y j → Wins m x y k → j ≡ k
  one_winner j k v w =
      let p = v.lowest k w.covered (le_antisym _ _ (v.greatest k w.covered) (w.greatest j v.covered)) in
      let q = w.lowest j v.covered (le_antisym _ _ (w.greatest j v.covered) (v.greatest k w.covered)) in
      omega arith

  -- ---- the plain lookup

  leader_wins : NoNan m x y → (h : Float) (k : ℕ) → Leads m.vertices m.indices x y (λ t. t) (triangles m.indices) h k → Wins m x y k
  leader_wins nn h k l =
      record {
        covered = l.counted;
        greatest = λ j c. subst (λ (z : Float). T (le (height m x y j) z)) l.height (l.greatest (numbers nn) j (covers_below m x y j c) c);
        lowest = λ j c e. low j c e (dec_lt j l.at);
      }
    where
      low : (j : ℕ) → Covers m x y j → T (eq (height m x y j) (height m x y k)) → Dec (j < l.at) → k ≤ j
      low j c e (yes b) = absurd (l.first (numbers nn) j b c (subst (λ (z : Float). T (le z (height m x y j))) (sym l.height) (ge_of_eq _ _ e)))
      low j c e (no b) = omega (arith, l.named)

  lookup_right : NoNan m x y → (s : (Option (Float × ℕ))) → Leading m.vertices m.indices x y (λ t. t) (triangles m.indices) s → Right m x y (lookup_of m x y s)
  unfolding lookup_of
  lookup_right nn None l = λ j c. l j (covers_below m x y j c) c
  lookup_right nn (Some (h, k)) l = (leader_wins nn h k l, l.height, refl)

  pub plain_right : NoNan m x y → Right m x y (plain_of m x y)
  unfolding plain_of
  plain_right nn = lookup_right nn (best_of_all m x y) (scan_leads m.vertices m.indices x y (λ t. t) (triangles m.indices))

  -- so where there is a winner, it is what the lookup gives
  winner_of : (k : ℕ) → Wins m x y k → (l : Lookup) → Right m x y l → l ≡ gives (height m x y k) (normal m x y k) k
  winner_of k w (gives h n j) r = let e = one_winner j k r.0 w in rw (r.1, r.2, e)
  winner_of k w none r = absurd (r k w.covered)

  pub plain_winner : (k : ℕ) → Wins m x y k → plain_of m x y ≡ gives (height m x y k) (normal m x y k) k
  plain_winner k w = winner_of k w (plain_of m x y) (plain_right (wins_no_nan k w))

  -- none, NaN or not
  none_of : (s : (Option (Float × ℕ))) → Leading m.vertices m.indices x y (λ t. t) (triangles m.indices) s → lookup_of m x y s ≡ none → Uncovered m x y
  unfolding lookup_of
  none_of None l e = λ j c. l j (covers_below m x y j c) c
  none_of (Some (h, k)) l e = let z : ◌≡◌ {A = ℕ} 0 1 = cc in absurd (omega arith)

  pub plain_none : (plain_of m x y ≡ none) ↔ Uncovered m x y
  unfolding plain_of lookup_of
  plain_none = (
    none_of (best_of_all m x y) (scan_leads m.vertices m.indices x y (λ t. t) (triangles m.indices)),
    λ u. rw (scan_nothing m.vertices m.indices x y (λ t. t) (triangles m.indices) (λ q b. u q)),
  )

  -- ---- the same of the answer to a call that is taken

  when_taken : (f : Fault) (p l : Lookup) → judge f (taken p) ≡ taken l → p ≡ l
  unfolding judge
  when_taken fine p l e = cc
  when_taken (fault number place) p l e = let z : ◌≡◌ {A = ℕ} 0 1 = cc in absurd (omega arith)

  pub answer_taken : (l : Lookup) → answer_of m x y ≡ taken l → plain_of m x y ≡ l
  unfolding answer_of
  answer_taken l e = when_taken (mesh_fault m) (plain_of m x y) l e

  pub answer_right : NoNan m x y → (l : Lookup) → answer_of m x y ≡ taken l → Right m x y l
  answer_right nn l e = subst (Right m x y) (answer_taken l e) (plain_right nn)

  pub answer_none : (l : Lookup) → answer_of m x y ≡ taken l → (l ≡ none) ↔ Uncovered m x y
  answer_none l e = (λ g. plain_none.0 (answer_taken l e ∙ g), λ u. sym (answer_taken l e) ∙ plain_none.1 u)

  -- ---- a scan over a run of triangle numbers gives the winner, where the run rises and names it

  module _
      (seq : ℕ → ℕ)
      (n : ℕ)
      (rising : (p q : ℕ) → p < q → q < n → seq p < seq q)
      (k : ℕ)
      (w : Wins m x y k)
      (q : ℕ)
      (within : q < n)
      (named : seq q ≡ k)
    where
      at_most : (p : ℕ) → (q < p → ⊥) → p < n → seq p ≤ k
      at_most p not_above below = go (dec_lt p q)
        where
          go : Dec (p < q) → seq p ≤ k
          go (yes l) = omega (arith, rising p q l within)
          go (no l) = let e : p ≡ q = omega arith in rw (e, named) (omega arith)

      covered_there : T (covers m.vertices m.indices (seq q) x y)
      covered_there = subst (λ (j : ℕ). Covers m x y j) (sym named) w.covered

      nn : NoNan m x y
      nn = wins_no_nan k w

      same_leader : (s : (Option (Float × ℕ))) → Leading m.vertices m.indices x y seq n s → s ≡ Some ((height m x y k), k)
      same_leader None l = absurd (l q within covered_there)
      same_leader (Some (g, j)) l =
          let up : T (le (height m x y k) (height m x y j)) = rw (named, l.height) at (l.greatest (numbers nn) q within covered_there) in
          let down : T (le (height m x y j) (height m x y k)) = w.greatest j l.counted in
          let low : k ≤ j = w.lowest j l.counted (le_antisym (height m x y j) (height m x y k) down up) in
          let high : j ≤ k =
          rw l.named
          (at_most l.at (λ b. l.first (numbers nn) q b covered_there (rw (named, l.height) down)) l.below) in
          let e : j ≡ k = omega arith in
          rw (l.height, e)

      pub run_winner : best_of m x y seq n ≡ Some ((height m x y k), k)
      run_winner = same_leader (best_of m x y seq n) (scan_leads m.vertices m.indices x y seq n)
