-- How the index and the printed text store a single (document 01): NaN as 7fc00000, any zero as 0. Definitions only. Assumes nothing.
use Rattle.std.specs.Prelude.{ℕ, false, cond, pos, Float}
use Rattle.std.specs.Float.{fin, binary32}
use Rattle.std.specs.Float.Ieee.{eq, to_bits}

-- `to_bits` writes a NaN as 7fc00000
unfoldable pub stored_of : Float → ℕ
unfolding eq to_bits
stored_of x = cond (eq x (fin false 0 (pos 0))) 0 (to_bits binary32 x)
