-- `lookup::mesh::Weights::least` meets its contract: where the least of the weights is too low, one of them is. Assumes nothing.
use Rattle.lookup.proofs.Distant.{low_outside}
use Rattle.lookup.proofs.mesh.Weights.least.Goals as goal

pub returns : goal.returns
returns c = low_outside _ _ _ c.lower.ensures c.lower-2.ensures
