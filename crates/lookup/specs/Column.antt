-- The column of a grid that a coordinate x falls into (the Rust's `Grid::bucket` and `Grid::col`): the floor of (x - m) / cell, cut to the range of the grid.
-- Definitions only. Assumes nothing.
use Rattle.std.specs.Prelude.{◌≡◌, ℕ, ◌-◌, min, false, cond, ◌||◌, pos, Float}
use Rattle.std.specs.Coded.{Coded-set, coded_bool, Unit-prop}
use Rattle.std.specs.Float.{nan, inf, fin, Format}
use Rattle.std.specs.Float.Ieee.{sub, div, lt, is_nan, to_unsigned}
use Rattle.rounding.specs.Whole.{whole_of, floor_of}

-- `count` columns of the width `cell`; `off` is how far x lies from the first one's edge
unfoldable pub bucket : Format → Float → Float → ℕ → ℕ
unfolding div whole_of is_nan lt to_unsigned
bucket f off cell count =
    let i = floor_of f (div f off cell) in
    cond (is_nan i || lt i (fin false 0 (pos 0))) 0 (min (to_unsigned 64 i) (count - 1))

unfoldable pub col : Format → Float → Float → ℕ → Float → ℕ
unfolding bucket sub
col f m cell count x = bucket f (sub f x m) cell count

-- a cell's width: anything but a negative number or -0
abbrev pub Width : Float → Type 0
Width nan = Unit {0}
Width (inf s) = s ≡ false
Width (fin s m e) = s ≡ false

-- two proofs of that are the same
pub Width-prop : (cell : Float) → IsProp (Width cell)
Width-prop nan = Unit-prop
Width-prop (inf s) = Coded-set coded_bool s false
Width-prop (fin s m e) = Coded-set coded_bool s false
