-- `joining::join::put_moved`: the first k numbers stand in the memory. Assumes nothing.
use Rattle.std.proofs.Common.{◌+◌, take}
use Rattle.shape.specs.Memory.{Put}
use Rattle.joining.specs.Join.{indices_up}
use Rattle.joining.proofs.join.put_moved.Given as goal

abbrev pub invariant-loop-k : goal.invariant-loop-k
invariant-loop-k l = Put l.initial.out l.out l.at (take l.k (indices_up l.up l.xs)) (l.at + l.k)
