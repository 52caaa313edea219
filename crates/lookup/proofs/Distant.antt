-- A point whose weight of corner a is above 2 in size is not inside: the weight itself is below the slack, or what it leaves for c is. Assumes nothing.
use Rattle.std.proofs.Common.{◌≡◌, ℕ, Bool, true, false, cond, not, ◌&&◌, T, ◌⊎◌, ℤ, refl, subst, inl, inr, ⊎_elim}
use lib.Dec.{not_T}
use lib.Ieee.Bits.{is_false}
use lib.Ieee.{Float, is_nan, nan, inf, fin, binary32, neg, lt, le, mul, sub, of_bits}
use lib.Ieee.Positive.{positive}
use lib.Ieee.Scale.{finite}
use Rattle.rounding.specs.Extremes.{abs_of, first, min_of}
use Rattle.rounding.proofs.Laws.Order.{le_refl, le_trans, le_or_lt, le_of_lt, lt→not_le, lt_nan, lt_num_left, le_num_right, le_bottom, le_top, T_of, not-T-of}
use Rattle.rounding.specs.Numbers.{IsNum}
use Rattle.rounding.proofs.Laws.Rounding.{neg_anti}
use Rattle.rounding.proofs.Laws.Products.{mul_mono_right, mul_mono_signed, mul_num_finite}
use Rattle.rounding.proofs.Laws.Sums.{sub_mono, sub_num_left}
use Rattle.vector.specs.Single.{◌⊖◌, ◌⊗◌, 1f, single}
use Rattle.vector.specs.declared.coords.Point.{Point}
use Rattle.lookup.specs.declared.mesh.Weights.{Weights}
use Rattle.lookup.specs.Steps.{Picked}
use Rattle.lookup.specs.Cover.{thinnest, slack, weights_inside, det_of, weights_of, weight_a, weight_b}

-- 2
abbrev two : Float
two = single 0x4000_0000

two_finite : T (finite two)
unfolding of_bits
two_finite = tt

two_num : IsNum two
unfolding of_bits
two_num = tt

minus_two_num : IsNum (neg two)
unfolding of_bits neg
minus_two_num = tt

two_positive : T (positive two)
unfolding of_bits
two_positive = tt

-- 4
abbrev four : Float
four = single 0x4080_0000

square : two ⊗ two ≡ four
unfolding of_bits mul
square = refl

-- a size below 2 has a square of at most 4
small : (m : ℕ) (e : ℤ) → T (le (fin false m e) two) → T (le (fin false m e ⊗ fin false m e) four)
small m e h =
    let a = fin false m e in
    le_trans (a ⊗ a) (two ⊗ a) four
    (mul_mono_signed binary32 a two a h refl (mul_num_finite binary32 a a tt tt) (mul_num_finite binary32 two a two_finite tt))
    (subst (λ (z : Float). T (le (two ⊗ a) z)) square (mul_mono_right binary32 two a two two_positive h))

-- so a square above 4 is that of a size of at least 2
size : (m : ℕ) (e : ℤ) → T (lt four (fin false m e ⊗ fin false m e)) → T (le two (fin false m e))
size m e h =
    ⊎_elim (λ l. absurd (lt→not_le four (fin false m e ⊗ fin false m e) h (small m e l))) (λ l. le_of_lt two (fin false m e) l) (le_or_lt (fin false m e) two tt two_num)

like : (s : Bool) (m : ℕ) (e : ℤ) → fin s m e ⊗ fin s m e ≡ fin false m e ⊗ fin false m e
unfolding mul
like true m e = refl
like false m e = refl

nan_square : nan ⊗ nan ≡ nan
unfolding mul
nan_square = refl

apart : (l : Float) → T (lt four (l ⊗ l)) → T (le l (neg two)) ⊎ T (le two l)
unfolding neg
apart nan h = absurd (not-T-of (lt_nan four) (rw nan_square at h))
apart (inf true) h = inl (le_bottom (neg two) minus_two_num)
apart (inf false) h = inr (le_top two two_num)
apart (fin true m e) h = inl (neg_anti two (fin false m e) (size m e (rw (like true m e) at h)))
apart (fin false m e) h = inr (size m e h)

-- a weight of at most -2 is below the slack
below : T (le slack (neg two)) → ⊥
unfolding le neg of_bits
below h = h

-- and so is what a weight of at least 2 leaves
one_two : IsNum (1f ⊖ two)
unfolding sub of_bits
one_two = tt

left_over : IsNum (1f ⊖ two ⊖ slack)
unfolding sub neg of_bits
left_over = tt

left_below : T (le slack (1f ⊖ two ⊖ slack)) → ⊥
unfolding le sub neg of_bits
left_below h = h

one_num : IsNum 1f
unfolding of_bits
one_num = tt

module _ (l1 l2 : Float) (p : T (le slack l1)) (q : T (le slack l2)) (r : T (le slack (1f ⊖ l1 ⊖ l2))) where
  low : T (le l1 (neg two)) → ⊥
  low h = below (le_trans slack l1 (neg two) p h)

  high : T (le two l1) → ⊥
  high h =
      let n : IsNum (1f ⊖ l1 ⊖ l2) = le_num_right slack (1f ⊖ l1 ⊖ l2) r in
      let k : T (le (1f ⊖ l1) (1f ⊖ two)) = sub_mono binary32 1f 1f l1 two (le_refl 1f one_num) h (sub_num_left binary32 (1f ⊖ l1) l2 n) one_two in
      let g : T (le (1f ⊖ l1 ⊖ l2) (1f ⊖ two ⊖ slack)) = sub_mono binary32 (1f ⊖ l1) (1f ⊖ two) l2 slack k q n left_over in
      left_below (le_trans slack (1f ⊖ l1 ⊖ l2) (1f ⊖ two ⊖ slack) r g)

-- the four tests of `weights_inside`, one after another
outside : (d : Bool) (l1 l2 : Float) → lt four (l1 ⊗ l1) ≡ true → (d && le slack l1 && le slack l2 && le slack (1f ⊖ l1 ⊖ l2)) ≡ false
outside d l1 l2 h = go d (le slack l1) refl (le slack l2) refl (le slack (1f ⊖ l1 ⊖ l2)) refl
  where
    go : (d p : Bool) → le slack l1 ≡ p → (q : Bool) → le slack l2 ≡ q → (r : Bool) → le slack (1f ⊖ l1 ⊖ l2) ≡ r → (d && p && q && r) ≡ false
    go false p e q f r g = refl
    go true false e q f r g = refl
    go true true e false f r g = refl
    go true true e true f false g = refl
    go true true e true f true g =
        absurd (⊎_elim (low l1 l2 (T_of e) (T_of f) (T_of g)) (high l1 l2 (T_of e) (T_of f) (T_of g)) (apart l1 (T_of h)))

pub far_outside : (a b c : Point) (x y : Float) → lt four (weight_a a b c x y ⊗ weight_a a b c x y) ≡ true → weights_inside (weights_of a b c x y) ≡ false
unfolding weights_inside weights_of
far_outside a b c x y h = outside (not (lt (abs_of (det_of a b c)) thinnest)) (weight_a a b c x y) (weight_b a b c x y) h

-- ---- a weight that is too low

-- one of the tests fails
one_fails : (p a b c : Bool) → (a ≡ false) ⊎ ((b ≡ false) ⊎ (c ≡ false)) → (p && a && b && c) ≡ false
one_fails false a b c h = refl
one_fails true false b c h = refl
one_fails true true false c h = refl
one_fails true true true false h = refl
one_fails true true true true (inl e) = e
one_fails true true true true (inr (inl e)) = e
one_fails true true true true (inr (inr e)) = e

low_fails : (x : Float) → lt x slack ≡ true → le slack x ≡ false
low_fails x h = is_false (le slack x) (not_T (le slack x) (lt→not_le x slack (T_of h)))

-- where the lesser of two is too low, one of them is
lesser_low : (x y : Float) {r : Float} → Picked min_of x y r → lt r slack ≡ true → (lt x slack ≡ true) ⊎ (lt y slack ≡ true)
unfolding min_of first
lesser_low x y {r} p e = go (is_nan x) (is_nan y) (le x y) (p.is (p.back (lt_num_left r slack (T_of e))))
  where
    low : {z : Float} → r ≡ z → lt z slack ≡ true
    low h = subst (λ (z : Float). lt z slack ≡ true) h e

    go : (a b c : Bool) → r ≡ cond a y (cond b x (cond c x y)) → (lt x slack ≡ true) ⊎ (lt y slack ≡ true)
    go true b c h = inr (low h)
    go false true c h = inl (low h)
    go false false true h = inl (low h)
    go false false false h = inr (low h)

-- the lesser of two weights, and of that and the third
pub low_outside : (w : Weights) (l m : Float) → Picked min_of w.b w.a l → Picked min_of w.c l m → lt m slack ≡ true → weights_inside w ≡ false
unfolding weights_inside
low_outside w l m p q e =
    one_fails (not (lt (abs_of w.det) thinnest)) (le slack w.a) (le slack w.b) (le slack w.c)
    (⊎_elim (λ (h : lt w.c slack ≡ true). inr (inr (low_fails w.c h))) (λ (h : lt l slack ≡ true). ⊎_elim
    (λ (g : lt w.b slack ≡ true). inr (inl (low_fails w.b g))) (λ (g : lt w.a slack ≡ true). inl (low_fails w.a g)) (lesser_low w.b w.a p h)) (lesser_low w.c l q e))
