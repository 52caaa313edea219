-- `lookup::mesh::gather` meets its contract. The loop's invariant: of the first k triangles, each that is there is held, and the flag tells whether all are. Assumes nothing.
use Rattle.std.proofs.Common.{◌≡◌, length}
use Rattle.lookup.specs.Sixteen.{Gathered}
use Rattle.lookup.proofs.mesh.gather.Given as goal

abbrev pub invariant-loop-k : goal.invariant-loop-k
invariant-loop-k l =
    (length l.first ≡ length l.initial.first) × (length l.second ≡ length l.initial.second) × (length l.third ≡ length l.initial.third) × Gathered l.mesh.vertices.now l.mesh.indices.now l.part l.k l.first l.second l.third l.whole
