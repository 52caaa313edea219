-- The length of (a, b) against 1e-3 by the sum of its squares. Assumes nothing.
use Rattle.std.proofs.Common.{◌≡◌, not, ◌&&◌, T}
use lib.Ieee.{Float, binary32, binary64, fits, of_bits, mul, le, lt}
use lib.Ieee.Fits.{add-fits}
use Rattle.rounding.specs.Hypot.{squares_of, hypot_of}
use Rattle.rounding.specs.Width.{narrow_of}
use Rattle.rounding.specs.Thresholds.{milli}
use Rattle.rounding.specs.Numbers.{nought}
use Rattle.rounding.proofs.Laws.RootTest.{narrowed, above, edge, root_at_most}
use Rattle.rounding.proofs.Laws.Thresholds.{passes_milli}

squares_fit : (a b : Float) → T (fits binary64 (squares_of a b))
unfolding squares_of
squares_fit a b = add-fits binary64 (mul binary64 a a) (mul binary64 b b)

pub above_milli : (a b : Float) → lt milli (hypot_of a b) ≡ le (of_bits binary64 0x3eb0_c6f7_dc37_a40f) (squares_of a b)
unfolding hypot_of
above_milli a b =
    edge binary64 (λ v. lt milli (narrow_of binary32 v)) (above (narrow_of binary32) (narrowed binary32) milli) (of_bits binary64 0x3eb0_c6f7_dc37_a40f)
    (of_bits binary64 0x3eb0_c6f7_dc37_a40e) passes_milli (squares_of a b) (squares_fit a b)

pub at_most_milli : (a b : Float) → le (hypot_of a b) milli ≡ le nought (squares_of a b) && not (le (of_bits binary64 0x3eb0_c6f7_dc37_a40f) (squares_of a b))
unfolding hypot_of of_bits
at_most_milli a b =
    root_at_most binary64 (narrow_of binary32) (narrowed binary32) milli (of_bits binary64 0x3eb0_c6f7_dc37_a40f) (of_bits binary64 0x3eb0_c6f7_dc37_a40e) tt
    (squares_of a b) (squares_fit a b) passes_milli
