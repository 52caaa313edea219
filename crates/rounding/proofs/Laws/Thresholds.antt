-- The numbers under a root from which on the root is at least, or above, each constant of `specs/Thresholds.antt`, with the two computed cases of each. Assumes nothing.
use Rattle.std.specs.Prelude.{refl}
use Rattle.std.proofs.Common.{lit<}
use Rattle.std.specs.Float.{binary32, binary64}
use Rattle.std.specs.Float.Ieee.{of_bits, le, lt}
use Rattle.rounding.specs.Root.{sqrt_of}
use Rattle.rounding.specs.Width.{narrow_of}
use Rattle.rounding.specs.Thresholds.{micro, milli, tenth}
use Rattle.rounding.proofs.Laws.RootTest.{Edge}

-- 9.99999888e-13 is the first single whose root is at least 1e-6
pub reaches_micro : Edge binary32 (λ v. le micro v) (of_bits binary32 0x2b8c_bccb) (of_bits binary32 0x2b8c_bcca)
unfolding sqrt_of of_bits le
reaches_micro = record { C = 9223371; h = 86; lead = λ z. lit< tt; here = (refl, refl); prior = (refl, refl); passes = refl; fails = refl }

-- 0.0100000016 is the first whose root is above 0.1
pub passes_tenth : Edge binary32 (λ v. lt tenth v) (of_bits binary32 0x3c23_d70c) (of_bits binary32 0x3c23_d70b)
unfolding sqrt_of of_bits lt
passes_tenth = record { C = 10737420; h = 119; lead = λ z. lit< tt; here = (refl, refl); prior = (refl, refl); passes = refl; fails = refl }

-- 1.0000002114102354e-6 is the first double whose root, made a single, is above 1e-3
pub passes_milli : Edge binary64 (λ v. lt milli (narrow_of binary32 v)) (of_bits binary64 0x3eb0_c6f7_dc37_a40f) (of_bits binary64 0x3eb0_c6f7_dc37_a40e)
unfolding sqrt_of narrow_of of_bits lt
passes_milli = record { C = 4722367481226255; h = 1002; lead = λ z. lit< tt; here = (refl, refl); prior = (refl, refl); passes = refl; fails = refl }
