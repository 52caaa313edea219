-- `shape::junction_areas::signed_area` meets its contract. Assumes nothing.
use Rattle.std.proofs.Common.{◌≡◌, ◌-◌, length, arith}
use Rattle.shape.specs.Outline.{area_to, area_of}
use Rattle.shape.specs.OutlineSteps.{points_of}
use Rattle.shape.proofs.Joining.{points_count, area_next}
use Rattle.shape.proofs.junction_areas.signed_area.Goals as goal

pub loop-i-init : goal.loop-i-init
unfolding area_to
loop-i-init c = record { sum = c.side_at-area.ensures; most = omega arith }

pub loop-i-preserved : goal.loop-i-preserved
loop-i-preserved c =
    record {
      sum = rw (area_next (points_of c.args.ring.now) c.loop-i.i (omega arith), ← c.loop-i.invariant.sum, ← c.side_at-area-in-loop-i.ensures);
      most = omega arith;
    }

pub returns : goal.returns
unfolding area_of
returns c =
    let ring = points_of c.args.ring.now in
    let k : c.loop-i.i - 1 ≡ length ring - 1 = omega (arith, points_count c.args.ring.now) in
    rw k at c.loop-i.invariant.sum
