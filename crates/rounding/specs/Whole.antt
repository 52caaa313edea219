-- A float to a whole number of its format: floor, ceiling, toward zero, and to the nearest with a half away from zero. Definitions only. Assumes nothing.
use Rattle.std.specs.Prelude.{ℕ, ◌+◌, ◌*◌, ◌/◌, ◌%◌, Bool, true, false, cond, nat_le, Float}
use Rattle.std.specs.Float.{nan, inf, fin, Format}
use Rattle.std.specs.Float.Ieee.{up, down, round}
use Rattle.rounding.specs.declared.whole.Way.{Way}
use Rattle.rounding.specs.declared.whole.Way.TheVariants.{TowardZero, HalfAway, AwayFromZero}

-- whether the size goes up by one, with r / d left over
abbrev pub moves : Way → ℕ → ℕ → Bool
moves TowardZero r d = false
moves HalfAway r d = nat_le d (2 * r)
moves AwayFromZero r d = nat_le 1 r

abbrev pub one_if : Bool → ℕ
one_if true = 1
one_if false = 0

-- of the size a / d, with the sign s. `round` only writes the whole number: a format holds every one that this makes of a value of its own.
unfoldable pub whole_by : Format → Bool → Way → ℕ → ℕ → Float
unfolding round
whole_by f s w a d = round f s (a / d + one_if (moves w (a % d) d)) 1

unfoldable pub whole_of : Format → (Bool → Way) → Float → Float
unfolding whole_by
whole_of f w nan = nan
whole_of f w (inf s) = inf s
whole_of f w (fin s m e) = whole_by f s (w s) (m * up e) (down e)

-- the ways by sign, of the numbers above zero and then of those below
abbrev pub ways : Way → Way → Bool → Way
ways plus minus s = cond s minus plus

abbrev pub floor_of : Format → Float → Float
floor_of f = whole_of f (ways TowardZero AwayFromZero)

abbrev pub ceil_of : Format → Float → Float
ceil_of f = whole_of f (ways AwayFromZero TowardZero)

abbrev pub round_of : Format → Float → Float
round_of f = whole_of f (ways HalfAway HalfAway)
