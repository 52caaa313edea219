-- `lookup::mesh::put_ground` meets its contract. Assumes nothing.
use Rattle.lookup.proofs.Sixteens.{ground_put}
use Rattle.lookup.proofs.mesh.put_ground.Goals as goal

pub returns : goal.returns
returns c = ground_put _ _ _ c.requires
