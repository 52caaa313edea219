-- `shape::junction::count_vertices` meets its contract: the vertices of the first k ears. Assumes nothing.
use Rattle.std.proofs.Common.{◌≡◌, ◌*◌, ◌≤◌}
use Rattle.shape.specs.JunctionMesh.{sum_of, ear_vertices}
use Rattle.shape.proofs.junction.count_vertices.Given as goal

abbrev pub invariant-loop-k : goal.invariant-loop-k
invariant-loop-k l = record { sum : l.total ≡ sum_of (ear_vertices l.step l.ears.ring.now l.ears.numbers.now) l.k; few : l.total ≤ 12288 * l.k }
