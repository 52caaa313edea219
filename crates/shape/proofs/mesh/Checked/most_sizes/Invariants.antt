-- `shape::mesh::Checked::most_sizes` meets its contract: so far the first k lanes are within the sizes. Assumes nothing.
use Rattle.std.proofs.Common.{ℕ, ◌*◌, ◌≤◌}
use Rattle.shape.specs.declared.strip.At.{At}
use Rattle.shape.specs.SurfaceMesh.{Given, given_of}
use Rattle.shape.specs.MeshSteps.{Enough}
use Rattle.shape.proofs.mesh.Checked.most_sizes.Given as goal

pub record Inv (g : Given) (at : At) (k : ℕ) : Type 0 where
  pub enough : Enough g k at
  pub floats : at.floats ≤ 24576 * k
  pub index : at.index ≤ 24576 * k
  pub word : at.word ≤ 5 * k

abbrev pub invariant-loop-k : goal.invariant-loop-k
invariant-loop-k l = Inv (given_of l.self.lanes) l.at l.k
