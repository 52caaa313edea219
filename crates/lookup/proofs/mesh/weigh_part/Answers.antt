-- `lookup::mesh::weigh_part` meets its contract. Assumes nothing.
use Rattle.std.proofs.Common.{arith, length-take}
use Rattle.lookup.proofs.Sixteens.{weighed}
use Rattle.lookup.proofs.mesh.weigh_part.Goals as goal

pub returns : goal.returns
returns c =
    weighed _ _ _ _ _ _ _ _ _ _ _ _
    (omega (arith, c.next_fourth-n.ensures, c.weigh_all.auto.low, length-take c.next_fourth-n.result c.args.low.now, c.requires.in_bounds))
    c.gather-whole.ensures c.weigh_all.ensures
