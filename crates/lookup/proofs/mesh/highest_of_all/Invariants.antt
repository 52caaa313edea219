-- `lookup::mesh::highest_of_all` meets its contract. The loop's invariant: `best` is the best of the first t triangles. Assumes nothing.
use Rattle.std.proofs.Common.{◌≡◌}
use Rattle.lookup.specs.Plain.{scan_of}
use Rattle.lookup.proofs.mesh.highest_of_all.Given as goal

abbrev pub invariant-loop-t : goal.invariant-loop-t
invariant-loop-t l = l.best ≡ scan_of l.mesh.vertices.now l.mesh.indices.now l.x l.y (λ k. k) l.t
