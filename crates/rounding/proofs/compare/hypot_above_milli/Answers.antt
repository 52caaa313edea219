-- `rounding::compare::hypot_above_milli` meets its contract. Assumes nothing.
use Rattle.std.proofs.Common.{sym}
use Rattle.rounding.proofs.Length.{above_milli}
use Rattle.rounding.proofs.compare.hypot_above_milli.Goals as goal

pub returns : goal.returns
returns c = rw c.squares.ensures (sym (above_milli c.args.a c.args.b))
