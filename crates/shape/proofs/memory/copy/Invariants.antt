-- `shape::memory::copy`: the first i elements are copied. Assumes nothing.
use Rattle.std.proofs.Common.{◌≡◌, ◌++◌, take, drop}
use Rattle.shape.proofs.memory.copy.Given as goal

abbrev pub invariant-loop-i : goal.invariant-loop-i
invariant-loop-i g l = l.out ≡ take l.i l.xs ++ drop l.i l.initial.out
