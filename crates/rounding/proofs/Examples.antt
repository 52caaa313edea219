-- Worked examples of the root, of whole numbers and of the narrower format, which antt runs. Assumes nothing.
use Rattle.std.specs.Prelude.{◌≡◌, true, false, pos, negsuc, refl}
use Rattle.std.specs.Float.{nan, inf, fin, binary32, binary64}
use Rattle.std.specs.Float.Ieee.{of_bits}
use Rattle.rounding.specs.Root.{sqrt_of}
use Rattle.rounding.specs.Whole.{whole_of, floor_of, ceil_of, round_of}
use Rattle.rounding.specs.Width.{narrow_of}

root_2 : sqrt_of binary32 (fin false 1 (pos 1)) ≡ of_bits binary32 0x3fb5_04f3
unfolding sqrt_of of_bits
root_2 = refl

root_2_wide : sqrt_of binary64 (fin false 1 (pos 1)) ≡ of_bits binary64 0x3ff6_a09e_667f_3bcd
unfolding sqrt_of of_bits
root_2_wide = refl

root_9 : sqrt_of binary64 (fin false 9 (pos 0)) ≡ fin false 3 (pos 0)
unfolding sqrt_of
root_9 = refl

-- of the smallest number, and of the largest
root_smallest : sqrt_of binary64 (fin false 1 (negsuc 1073)) ≡ fin false 1 (negsuc 536)
unfolding sqrt_of
root_smallest = refl

root_largest : sqrt_of binary32 (of_bits binary32 0x7f7f_ffff) ≡ of_bits binary32 0x5f7f_ffff
unfolding sqrt_of of_bits
root_largest = refl

root_minus_zero : sqrt_of binary32 (fin true 0 (pos 0)) ≡ fin true 0 (pos 0)
unfolding sqrt_of
root_minus_zero = refl

root_below_zero : sqrt_of binary32 (fin true 9 (pos 0)) ≡ nan
unfolding sqrt_of
root_below_zero = refl

root_minus_inf : sqrt_of binary64 (inf true) ≡ nan
unfolding sqrt_of
root_minus_inf = refl

-- ---- whole numbers, and a narrower format

floor_of_minus_half : floor_of binary32 (fin true 1 (negsuc 0)) ≡ fin true 1 (pos 0)
unfolding whole_of
floor_of_minus_half = refl

ceiling_of_minus_half : ceil_of binary64 (fin true 1 (negsuc 0)) ≡ fin true 0 (pos 0)
unfolding whole_of
ceiling_of_minus_half = refl

nearest_of_five_halves : round_of binary64 (fin false 5 (negsuc 0)) ≡ fin false 3 (pos 0)
unfolding whole_of
nearest_of_five_halves = refl

-- the largest `f64` is an infinity, and 1 + 2 ^ -24 is a tie, which goes to 1
narrow_largest : narrow_of binary32 (of_bits binary64 0x7fef_ffff_ffff_ffff) ≡ inf false
unfolding narrow_of of_bits
narrow_largest = refl

narrow_tie : narrow_of binary32 (fin false 0x100_0001 (negsuc 23)) ≡ fin false 1 (pos 0)
unfolding narrow_of
narrow_tie = refl
