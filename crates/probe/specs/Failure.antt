-- What is printed where the program fails. Assumes nothing.
use Rattle.std.specs.Prelude.{ℕ, List, Option, Result, Ok, Err}
use Rattle.std.specs.Io.KnownBytes.{Keeps}
use Rattle.probe.specs.declared.Failure.{Failure}
use Rattle.probe.specs.declared.Failure.TheVariants.{Input, Output}

-- where the input could not be read, nothing was written
abbrev pub PrintsNothing : {T : Type 0} → Result T Failure → Option (List ℕ) → Option (List ℕ) → Type 0
PrintsNothing (Err (Input e)) old new = Keeps old new
PrintsNothing (Err (Output e)) old new = Unit {0}
PrintsNothing (Ok u) old new = Unit {0}
