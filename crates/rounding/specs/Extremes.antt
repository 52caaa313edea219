-- The smaller and the larger of two floats where a NaN is passed over, as Rust's `min` and `max`, a float brought between two bounds, and its size. Definitions only.
-- Assumes nothing.
use Rattle.std.specs.Prelude.{Bool, false, cond, Float}
use Rattle.std.specs.Float.{nan, inf, fin}
use Rattle.std.specs.Float.Ieee.{lt, le, is_nan}

-- the one of x and y that comes first in the order `rel`
unfoldable pub first : (Float → Float → Bool) → Float → Float → Float
unfolding is_nan
first rel x y = cond (is_nan x) y (cond (is_nan y) x (cond (rel x y) x y))

abbrev pub ge : Float → Float → Bool
ge x y = le y x

-- Not quite IEEE 754-2019's minimumNumber (9.6): of a +0 and a -0 that one gives -0, and it signals on a signaling NaN. Here the first of two equal numbers is taken, zeros
-- of unlike sign included, which Rust leaves open (docs/DECISIONS.md, 17), and there is one NaN, which signals nothing.
unfoldable pub min_of : Float → Float → Float
unfolding first le
min_of x y = first le x y

-- in the same way not quite maximumNumber, which gives +0 of a +0 and a -0
unfoldable pub max_of : Float → Float → Float
unfolding first le
max_of x y = first ge x y

-- a NaN stays
unfoldable pub clamp_of : Float → Float → Float → Float
unfolding lt
clamp_of x lo hi = let y = cond (lt x lo) lo x in cond (lt hi y) hi y

unfoldable pub abs_of : Float → Float
abs_of nan = nan
abs_of (inf s) = inf false
abs_of (fin s m e) = fin false m e
