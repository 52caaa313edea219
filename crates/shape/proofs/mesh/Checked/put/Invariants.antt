-- `shape::mesh::Checked::put` meets its contract: so far the first k lanes stand in the memory. Assumes nothing.
use Rattle.shape.specs.SurfaceMesh.{given_of}
use Rattle.shape.specs.MeshSteps.{Written}
use Rattle.shape.proofs.mesh.Checked.put.Given as goal

abbrev pub invariant-loop-k : goal.invariant-loop-k
invariant-loop-k l =
    Written (given_of l.self.lanes) l.k l.at l.initial.vertices l.vertices l.initial.normals l.normals l.initial.indices l.indices l.initial.spans l.spans
