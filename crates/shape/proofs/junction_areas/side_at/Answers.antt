-- `shape::junction_areas::side_at` meets its contract. Assumes nothing.
use Rattle.shape.specs.Outline.{next_on, side_at}
use Rattle.shape.proofs.Joining.{points_count, points_at}
use Rattle.shape.proofs.junction_areas.side_at.Goals as goal

pub returns : goal.returns
unfolding side_at
returns c =
    let ring = c.args.ring.now in
    rw (c.point_at-a.ensures, c.point_at-b.ensures, c.index_after.ensures.next, c.requires.1, points_count ring, points_at ring c.args.i, points_at ring (next_on _ c.args.i))
