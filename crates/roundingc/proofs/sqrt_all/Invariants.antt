-- `roundingc::sqrt_all` writes the roots. The invariant: the first i are written. Assumes nothing.
use Rattle.std.proofs.Common.{◌≡◌, ◌++◌, drop}
use Rattle.roundingc.specs.Arrays.{mapped}
use Rattle.roundingc.proofs.sqrt_all.Given as goal

abbrev pub invariant-loop-i : goal.invariant-loop-i
invariant-loop-i g l = l.y-items ++ drop l.n l.fn.out ≡ mapped g.T.Root.root l.i l.xs l.fn.out
