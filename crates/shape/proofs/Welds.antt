-- A step that is long enough is kept, as its square shows. Assumes nothing.
use Rattle.std.proofs.Common.{◌≡◌, true, T, ⊎_elim}
use lib.Count.{count_trailing_zeros}
use lib.Ieee as Ieee
use lib.Ieee.Bits.{is_true}
use lib.Ieee.{Float, binary32, of_bits, lt, le}
use Rattle.rounding.specs.Root as Root
use Rattle.rounding.specs.Root.{sqrt_of}
use Rattle.rounding.specs.Extremes.{max_of}
use Rattle.rounding.specs.Thresholds.{tenth}
use Rattle.rounding.proofs.Laws.Order.{T_of, le_trans, lt_of_le_of_lt, lt_of_lt_of_le}
use Rattle.rounding.proofs.Laws.Extremes.{max_picks}
use Rattle.rounding.proofs.Laws.Products.{mul_mono_right}
use Rattle.rounding.proofs.Laws.RootOrder.{sqrt_mono}
use Rattle.rounding.specs.Numbers.{nought}
use Rattle.vector.specs.Single.{◌⊗◌, single, 0f}
use Rattle.shape.specs.Strip.{quarter, keeps_step}

-- a step of square c and more, after one of square d and less
module _ (c d q l : Float) (C : T (le nought c)) (D : T (le tenth (quarter ⊗ sqrt_of binary32 d))) (E : T (lt (quarter ⊗ sqrt_of binary32 d) (sqrt_of binary32 c)))
    (up : T (le c q)) (from : T (le 0f l)) (down : T (le l d)) where
  most_step : T (le (max_of (quarter ⊗ sqrt_of binary32 l) tenth) (quarter ⊗ sqrt_of binary32 d))
  unfolding of_bits le
  most_step =
      let x = quarter ⊗ sqrt_of binary32 l in
      let a : T (le x (quarter ⊗ sqrt_of binary32 d)) =
      mul_mono_right binary32 quarter (sqrt_of binary32 l) (sqrt_of binary32 d) tt (sqrt_mono binary32 l d (le_trans nought 0f l tt from) down) in
      ⊎_elim (λ (e : max_of x tenth ≡ x). rw e a) (λ (e : max_of x tenth ≡ tenth). rw e D) (max_picks x tenth).which

  long_step : keeps_step (sqrt_of binary32 l) (sqrt_of binary32 q) ≡ true
  unfolding keeps_step
  long_step =
      is_true (lt (max_of (quarter ⊗ sqrt_of binary32 l) tenth) (sqrt_of binary32 q))
      (lt_of_le_of_lt (max_of (quarter ⊗ sqrt_of binary32 l) tenth) (quarter ⊗ sqrt_of binary32 d) (sqrt_of binary32 q) most_step
      (lt_of_lt_of_le (quarter ⊗ sqrt_of binary32 d) (sqrt_of binary32 c) (sqrt_of binary32 q) E (sqrt_mono binary32 c q C up)))

-- squares of which the first is clearly above a sixteenth of the second

-- 0.07 after 1
pub keeps_one : (q l : Float) → le 0f l ≡ true → le l (single 0x3f80_0000) ≡ true → le (single 0x3d8f_5c29) q ≡ true → keeps_step (sqrt_of binary32 l) (sqrt_of binary32 q) ≡ true
unfolding Ieee.of_bits Ieee.of_fields Ieee.odd Ieee.mul Ieee.le Ieee.lt Ieee.eq Ieee.round Ieee.units Ieee.span Ieee.climb Ieee.size count_trailing_zeros Root.root_in Root.isqrt Root.root_of Root.sqrt_of
keeps_one q l a b c = long_step (single 0x3d8f_5c29) (single 0x3f80_0000) q l tt tt tt (T_of c) (T_of a) (T_of b)

-- 0.6 after 8
pub keeps_two : (q l : Float) → le 0f l ≡ true → le l (single 0x4100_0000) ≡ true → le (single 0x3f19_999a) q ≡ true → keeps_step (sqrt_of binary32 l) (sqrt_of binary32 q) ≡ true
unfolding Ieee.of_bits Ieee.of_fields Ieee.odd Ieee.mul Ieee.le Ieee.lt Ieee.eq Ieee.round Ieee.units Ieee.span Ieee.climb Ieee.size count_trailing_zeros Root.root_in Root.isqrt Root.root_of Root.sqrt_of
keeps_two q l a b c = long_step (single 0x3f19_999a) (single 0x4100_0000) q l tt tt tt (T_of c) (T_of a) (T_of b)

-- 5 after 64
pub keeps_three : (q l : Float) → le 0f l ≡ true → le l (single 0x4280_0000) ≡ true → le (single 0x40a0_0000) q ≡ true → keeps_step (sqrt_of binary32 l) (sqrt_of binary32 q) ≡ true
unfolding Ieee.of_bits Ieee.of_fields Ieee.odd Ieee.mul Ieee.le Ieee.lt Ieee.eq Ieee.round Ieee.units Ieee.span Ieee.climb Ieee.size count_trailing_zeros Root.root_in Root.isqrt Root.root_of Root.sqrt_of
keeps_three q l a b c = long_step (single 0x40a0_0000) (single 0x4280_0000) q l tt tt tt (T_of c) (T_of a) (T_of b)

-- 40 after 512
pub keeps_four : (q l : Float) → le 0f l ≡ true → le l (single 0x4400_0000) ≡ true → le (single 0x4220_0000) q ≡ true → keeps_step (sqrt_of binary32 l) (sqrt_of binary32 q) ≡ true
unfolding Ieee.of_bits Ieee.of_fields Ieee.odd Ieee.mul Ieee.le Ieee.lt Ieee.eq Ieee.round Ieee.units Ieee.span Ieee.climb Ieee.size count_trailing_zeros Root.root_in Root.isqrt Root.root_of Root.sqrt_of
keeps_four q l a b c = long_step (single 0x4220_0000) (single 0x4400_0000) q l tt tt tt (T_of c) (T_of a) (T_of b)
