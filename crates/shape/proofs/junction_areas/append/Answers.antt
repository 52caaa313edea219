-- `shape::junction_areas::append` meets its contract. Assumes nothing.
use Rattle.std.proofs.Common.{arith}
use Rattle.shape.specs.Outline.{point_from, extended}
use Rattle.shape.proofs.Joining.{extended_next}
use Rattle.shape.proofs.junction_areas.append.Goals as goal

pub loop-i-init : goal.loop-i-init
unfolding extended
loop-i-init c = record { holds = λ blank ring h. h; few = omega arith; some = λ l. absurd (omega arith) }

pub loop-i-preserved : goal.loop-i-preserved
unfolding point_from
loop-i-preserved c =
    let at = c.loop-i.invariant in
    record {
      holds = λ blank ring h. rw (extended_next ring c.args.back c.args.s.now c.loop-i.i, ← c.place.ensures.0, ← c.point_at-p.ensures)
          (c.add_point-h.ensures.holds blank _ (at.holds blank ring h));
      few = omega (arith, c.add_point-h.ensures.count, at.few);
      some = λ l. c.add_point-h.ensures.some;
    }
