-- `joining::join::put_spans`: the first k spans stand in the memory. Assumes nothing.
use Rattle.std.proofs.Common.{◌+◌, ◌*◌}
use Rattle.shape.specs.Gather.{gather}
use Rattle.shape.specs.Memory.{Put}
use Rattle.joining.specs.Join.{span_up}
use Rattle.joining.proofs.join.put_spans.Given as goal

abbrev pub invariant-loop-k : goal.invariant-loop-k
invariant-loop-k l = Put l.initial.out l.out l.at (gather (span_up l.v l.i l.spans) l.k) (l.at + 5 * l.k)
