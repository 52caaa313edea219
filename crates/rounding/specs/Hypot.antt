-- `hypot` of two singles (document 01): widen, square and add in double, root in double, narrow. A single is a double as it stands. Definitions only. Assumes nothing.
use Rattle.std.specs.Prelude.{Float}
use Rattle.std.specs.Float.{binary32, binary64}
use Rattle.std.specs.Float.Ieee.{add, mul}
use Rattle.rounding.specs.Root.{sqrt_of}
use Rattle.rounding.specs.Width.{narrow_of}

unfoldable pub squares_of : Float → Float → Float
unfolding add mul
squares_of a b = add binary64 (mul binary64 a a) (mul binary64 b b)

unfoldable pub hypot_of : Float → Float → Float
unfolding squares_of sqrt_of narrow_of
hypot_of a b = narrow_of binary32 (sqrt_of binary64 (squares_of a b))
