-- `shape::ears::remove`: before i stand those that are left. Assumes nothing.
use Rattle.std.proofs.Common.{◌≡◌, ◌++◌, take, drop}
use Rattle.shape.specs.Ears.{without}
use Rattle.shape.proofs.ears.remove.Given as goal

abbrev pub invariant-loop-i : goal.invariant-loop-i
invariant-loop-i l = l.left ≡ take l.i (without l.initial.left l.k) ++ drop l.i l.initial.left
