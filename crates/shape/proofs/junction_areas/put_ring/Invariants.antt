-- `shape::junction_areas::put_ring` meets its contract: after i turns i points stand in the memory. Assumes nothing.
use Rattle.std.proofs.Common.{◌*◌}
use Rattle.shape.specs.Gather.{gather}
use Rattle.shape.specs.Memory.{Put}
use Rattle.shape.specs.Outline.{flat, reversed_at}
use Rattle.shape.specs.OutlineSteps.{points_of}
use Rattle.shape.proofs.junction_areas.put_ring.Given as goal

abbrev pub invariant-loop-i : goal.invariant-loop-i
invariant-loop-i l = Put l.initial.out l.out 0 (flat (gather (reversed_at l.back (points_of l.ring)) l.i)) (3 * l.i)
