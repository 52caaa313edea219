-- `shape::validate::every_finite`: as long as `ok` holds, the numbers before x are finite. Assumes nothing.
use Rattle.std.proofs.Common.{◌≡◌, true}
use Rattle.shape.specs.Verdict.{FiniteBelow}
use Rattle.shape.proofs.validate.every_finite.Given as goal

abbrev pub invariant-loop-x : goal.invariant-loop-x
invariant-loop-x l = l.ok ≡ true → FiniteBelow l.xs l.x-index
