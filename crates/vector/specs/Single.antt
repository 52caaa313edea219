-- The arithmetic of singles, by operators: each rounds once, to the nearest single (IEEE 754-2019, roundTiesToEven). Definitions only. Assumes nothing.
use Rattle.std.specs.Prelude.{ℕ, Float}
use Rattle.std.specs.Float.Ieee as Ieee
use Rattle.std.specs.Float.{binary32}

infixl 65 ◌⊕◌ ◌⊖◌
infixl 70 ◌⊗◌ ◌⊘◌
abbrev pub ◌⊕◌ : Float → Float → Float
x ⊕ y = Ieee.add binary32 x y

abbrev pub ◌⊖◌ : Float → Float → Float
x ⊖ y = Ieee.sub binary32 x y

abbrev pub ◌⊗◌ : Float → Float → Float
x ⊗ y = Ieee.mul binary32 x y

abbrev pub ◌⊘◌ : Float → Float → Float
x ⊘ y = Ieee.div binary32 x y

-- the single of a bit pattern
abbrev pub single : ℕ → Float
single n = Ieee.of_bits binary32 n

-- 0 and 1
abbrev pub 0f : Float
0f = single 0

abbrev pub 1f : Float
1f = single 0x3f80_0000
