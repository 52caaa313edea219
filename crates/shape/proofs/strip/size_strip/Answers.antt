-- `shape::strip::size_strip` meets its contract. Assumes nothing.
use Rattle.shape.specs.Strip.{lane_of, kept}
use Rattle.shape.proofs.Meshing.{grow}
use Rattle.shape.proofs.strip.size_strip.Goals as goal

pub returns : goal.returns
unfolding kept
returns c =
    let i = c.count_indices.ensures in
    let s = c.span_size.ensures in
    grow (lane_of c.args.lane) c.args.at c.count_indices.result c.span_size.result c.weld-course.ensures.course.1 c.weld-course.ensures.few
    (rw c.weld-course.ensures.course.0 at i.by_index) i.upper_bound s.0 s.1
