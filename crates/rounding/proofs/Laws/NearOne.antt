-- The root of a number next to 1 is finite and above 0 (`near_positive`): what a caller of `root_near_one` divides by. Assumes nothing.
use Rattle.std.specs.Prelude.{◌≡◌, Bool, true, false, cond, T, negsuc, Some, None, refl, Float}
use Rattle.std.proofs.Common.{subst}
use Rattle.std.specs.Float.{nan, inf, fin, binary32}
use Rattle.std.specs.Float.Ieee.{of_bits, le, lt}
use Rattle.std.specs.Float.Ieee.Bits.{is_true}
use Rattle.std.specs.Float.Ieee.Fits.{and_l, and_r}
use Rattle.std.specs.Float.Ieee.Scale.{finite}
use Rattle.rounding.specs.Root.{sqrt_of, near_one, PositiveRoot}
use Rattle.rounding.proofs.Laws.Order.{le→Le, le_trans, le_of_lt, lt_of_lt_of_le, T_of}
use Rattle.rounding.proofs.Laws.RootOrder.{sqrt_mono}
use Rattle.rounding.specs.Numbers.{nought}

abbrev least : Float
least = fin false 4095 (negsuc 11)

abbrev past : Float
past = fin false 2049 (negsuc 10)

pub near_parts : (x : Float) → near_one x ≡ true → T (le least x) × T (lt x past)
unfolding near_one
near_parts x e = (and_l (le least x) (lt x past) (T_of e), and_r (le least x) (lt x past) (T_of e))

-- what lies between two finite numbers is finite
bounded : (a b v : Float) → T (finite a) → T (finite b) → T (le a v) → T (le v b) → finite v ≡ true
bounded nan b v p q h k = absurd p
bounded (inf s) b v p q h k = absurd p
bounded (fin s m e) nan v p q h k = absurd q
bounded (fin s m e) (inf t) v p q h k = absurd q
bounded (fin s m e) (fin t n d) (fin u j i) p q h k = refl
bounded (fin s m e) (fin t n d) nan p q h k = absurd (le→Le (fin s m e) nan h)
bounded (fin s m e) (fin t n d) (inf true) p q h k = absurd (le→Le (fin s m e) (inf true) h)
bounded (fin s m e) (fin t n d) (inf false) p q h k = absurd (le→Le (inf false) (fin t n d) k)

least_above : T (le nought least)
unfolding le
least_above = tt

least_root : T (lt (of_bits binary32 0) (sqrt_of binary32 least))
unfolding lt of_bits sqrt_of
least_root = tt

least_finite : T (finite (sqrt_of binary32 least))
unfolding sqrt_of
least_finite = tt

past_finite : T (finite (sqrt_of binary32 past))
unfolding sqrt_of
past_finite = tt

near_root : (x : Float) → near_one x ≡ true → PositiveRoot x (sqrt_of binary32 x)
near_root x e =
    let p = near_parts x e in
    let z = le_trans nought least x least_above p.0 in
    let a = sqrt_mono binary32 least x least_above p.0 in
    let b = sqrt_mono binary32 x past z (le_of_lt x past p.1) in
    record {
      value = refl;
      whole = bounded (sqrt_of binary32 least) (sqrt_of binary32 past) (sqrt_of binary32 x) least_finite past_finite a b;
      above = is_true _ (lt_of_lt_of_le (of_bits binary32 0) (sqrt_of binary32 least) (sqrt_of binary32 x) least_root a);
    }

-- as `root_near_one` answers
pub near_positive : (x r : Float) → Some r ≡ cond (near_one x) (Some (sqrt_of binary32 x)) None → PositiveRoot x r
near_positive x r e = go (near_one x) refl e
  where
    go : (b : Bool) → near_one x ≡ b → Some r ≡ cond b (Some (sqrt_of binary32 x)) None → PositiveRoot x r
    go true n h = let v : sqrt_of binary32 x ≡ r = cc in subst (PositiveRoot x) v (near_root x n)
    go false n h = cc
