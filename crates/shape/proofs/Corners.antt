-- Nothing is pinched at a mild corner: the inner vertex may lie as far from the point as the half-width. Assumes nothing.
use Rattle.std.proofs.Common.{◌≡◌, Bool, true, false, cond, T, refl, subst, ⊎_elim}
use lib.Count.{count_trailing_zeros}
use lib.Ieee as Ieee
use lib.Ieee.{Float, nan, inf, fin, binary32, of_bits, lt, le, is_nan}
use lib.Ieee.Positive.{positive, between}
use Rattle.rounding.specs.Root.{sqrt_of}
use Rattle.rounding.specs.Thresholds.{micro}
use Rattle.rounding.specs.Extremes.{first, min_of}
use Rattle.rounding.proofs.Laws.Order.{T_of, not-T-of, nan_le, le_nan, le_trans, le_of_lt}
use Rattle.rounding.proofs.Laws.Extremes.{min_picks, max_picks}
use Rattle.rounding.proofs.Laws.Least.{div_anti}
use Rattle.rounding.proofs.Laws.Products.{mul_mono_right}
use Rattle.rounding.proofs.Laws.Quotients.{div_mono}
use Rattle.rounding.proofs.Laws.RootOrder.{sqrt_mono}
use Rattle.rounding.specs.Numbers.{nought}
use Rattle.vector.specs.Single.{◌⊗◌, ◌⊘◌, single, 0f, 1f}
use Rattle.vector.specs.declared.coords.Vector.{Vector}
use Rattle.shape.specs.declared.rib.Leg.{Leg}
use Rattle.shape.specs.declared.rib.Spread.{Spread}
use Rattle.shape.specs.Strip.{most, tiny, shorter_of, eat_square_of, eat_of, pinches, inner_of, turns_left, spread_of}
use Rattle.shape.specs.MeshSteps.{Mild}
use Rattle.shape.proofs.Reaching.{pick}

-- 2^-8 and 2^-4, 7
abbrev 1/256 : Float
1/256 = single 0x3b80_0000

abbrev 1/16 : Float
1/16 = single 0x3d80_0000

abbrev 7f : Float
7f = single 0x40e0_0000

min_first : (x y : Float) → T (le x y) → min_of x y ≡ x
unfolding min_of first is_nan
min_first nan y h = absurd (not-T-of (nan_le y) h)
min_first (inf s) nan h = absurd (not-T-of (le_nan (inf s)) h)
min_first (inf s) (inf t) h = pick (le (inf s) (inf t)) (inf s) (inf t) h
min_first (inf s) (fin t n d) h = pick (le (inf s) (fin t n d)) (inf s) (fin t n d) h
min_first (fin s m e) nan h = absurd (not-T-of (le_nan (fin s m e)) h)
min_first (fin s m e) (inf t) h = pick (le (fin s m e) (inf t)) (fin s m e) (inf t) h
min_first (fin s m e) (fin t n d) h = pick (le (fin s m e) (fin t n d)) (fin s m e) (fin t n d) h

-- a leg of square 1 and more is at least 1
long : (q : Float) → le 1f q ≡ true → T (le 1f (sqrt_of binary32 q))
unfolding sqrt_of of_bits le
long q h = sqrt_mono binary32 1f q tt (T_of h)

shorter_long : (inc out : Leg) → le 1f inc.square ≡ true → le 1f out.square ≡ true → T (le 1f (shorter_of inc out))
unfolding shorter_of
shorter_long inc out p q =
    let a = sqrt_of binary32 inc.square in
    let b = sqrt_of binary32 out.square in
    ⊎_elim (λ (e : min_of a b ≡ a). rw e (long inc.square p)) (λ (e : min_of a b ≡ b). rw e (long out.square q)) (min_picks a b).which

-- the root of 2^-8 and less is at most 2^-4
little : (q : Float) → T (le 0f q) → le q 1/256 ≡ true → T (le (sqrt_of binary32 q) 1/16)
unfolding sqrt_of of_bits le
little q p h = sqrt_mono binary32 q 1/256 (le_trans nought 0f q tt p) (T_of h)

eats_little : (a b : Vector) → le (eat_square_of a b) 1/256 ≡ true → T (le (eat_of a b) 1/16)
unfolding eat_of eat_square_of of_bits
eats_little a b h = little (eat_square_of a b) ((max_picks _ 0f).right tt) h

whole : most ⊗ 1f ≡ most
unfolding Ieee.of_bits Ieee.of_fields Ieee.odd Ieee.mul Ieee.round Ieee.units Ieee.span Ieee.climb Ieee.size count_trailing_zeros
whole = refl

seven : T (le 7f (most ⊘ 1/16))
unfolding Ieee.of_bits Ieee.of_fields Ieee.odd Ieee.div Ieee.le Ieee.lt Ieee.eq Ieee.round Ieee.units Ieee.span Ieee.climb Ieee.size count_trailing_zeros
seven = tt

-- 0.49 of a leg of at least 1, over a sine of at most 1/16, is at least 7
roomy : (s e : Float) → T (le 1f s) → T (lt tiny e) → T (le e 1/16) → T (le 7f (most ⊗ s ⊘ e))
unfolding of_bits
roomy s e p q r =
    let pos : T (positive e) = between tiny e 1/16 tt tt (le_of_lt tiny e q) r in
    let a : T (le (most ⊗ 1f) (most ⊗ s)) = mul_mono_right binary32 most 1f s tt p in
    let b : T (le (most ⊗ 1f ⊘ e) (most ⊗ s ⊘ e)) = div_mono binary32 (most ⊗ 1f) (most ⊗ s) e a pos in
    let c : T (le (most ⊘ 1/16) (most ⊘ e)) = div_anti binary32 _ _ e 1/16 pos r in
    le_trans 7f (most ⊘ 1/16) (most ⊗ s ⊘ e) seven (le_trans (most ⊘ 1/16) (most ⊘ e) (most ⊗ s ⊘ e) c (subst (λ (x : Float). T (le (x ⊘ e) (most ⊗ s ⊘ e))) whole b))

all_same : (a b : Bool) (x : Spread) → x ≡ cond a (cond b x x) x
all_same true true x = refl
all_same true false x = refl
all_same false b x = refl

module _ (inc out : Leg) (left : Vector) (h : Float) (m : Mild (eat_square_of inc.way out.way) inc.square out.square h) where
  inner_full : T (lt tiny (eat_of inc.way out.way)) → inner_of inc out h ≡ h
  unfolding inner_of
  inner_full q =
      let e = eat_of inc.way out.way in
      let s = shorter_of inc out in
      min_first h (most ⊗ s ⊘ e)
      (le_trans h 7f (most ⊗ s ⊘ e) (T_of m.narrow)
      (roomy s e (shorter_long inc out m.into m.away) q (eats_little inc.way out.way m.turn)))

  pub mild_full : record { left = h; right = h } ≡ spread_of true inc out left h
  unfolding spread_of pinches
  mild_full = go (lt tiny (eat_of inc.way out.way)) refl
    where
      go : (p : Bool) → lt tiny (eat_of inc.way out.way) ≡ p → record { left = h; right = h } ≡ spread_of true inc out left h
      go true e = rw (e, inner_full (T_of e)) (all_same (lt micro (shorter_of inc out)) (turns_left inc.way out.way left) (record { left = h; right = h }))
      go false e = rw e
