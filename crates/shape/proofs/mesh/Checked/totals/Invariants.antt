-- `shape::mesh::Checked::totals` meets its contract: so far the first k lanes are counted. Assumes nothing.
use Rattle.std.proofs.Common.{ℕ, ◌*◌, ◌≤◌}
use Rattle.shape.specs.declared.strip.At.{At}
use Rattle.shape.specs.SurfaceMesh.{Given, given_of}
use Rattle.shape.specs.MeshSteps.{Sizes}
use Rattle.shape.proofs.mesh.Checked.totals.Given as goal

pub record Inv (g : Given) (at : At) (k : ℕ) : Type 0 where
  pub sizes : Sizes g k at
  pub floats : at.floats ≤ 24576 * k
  pub index : at.index ≤ 24576 * k
  pub word : at.word ≤ 5 * k

abbrev pub invariant-loop-k : goal.invariant-loop-k
invariant-loop-k l = Inv (given_of l.self.lanes) l.at l.k
