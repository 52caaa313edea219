-- What a number is, and zero. Definitions only. Assumes nothing.
use Rattle.std.specs.Prelude.{false, pos, Float}
use Rattle.std.specs.Float.{nan, inf, fin}

-- a number: an infinity or a finite value
abbrev pub IsNum : Float → Type 0
IsNum nan = ⊥
IsNum (inf s) = Unit {0}
IsNum (fin s m e) = Unit {0}

abbrev pub nought : Float
nought = fin false 0 (pos 0)
