-- `shape::junction_areas::ring_in` meets its contract. Assumes nothing.
use Rattle.std.proofs.Common.{◌/◌, length, arith, length-take}
use Rattle.shape.specs.Outline.{whole_line}
use Rattle.shape.proofs.Joining.{sound_lists, solid_most, ring_part}
use Rattle.shape.proofs.junction_areas.ring_in.Goals as goal

pub overflow_sub-dropped : goal.overflow_sub-dropped
overflow_sub-dropped c =
    omega (arith, c.join-j.ensures.0.solids, solid_most c.args.boundary.segments.words.now (length c.args.boundary.segments.words.now / 2))

pub finish-requires : goal.finish-requires
finish-requires c =
    let s = sound_lists _ _ c.args.boundary.sound in
    simp length-take (omega (arith, c.join-j.ensures.1))

pub returns : goal.returns
returns c =
    let a = c.args in
    let j = c.join-j.ensures in
    c.finish.ensures a.boundary.segments.words.now a.boundary.points.now c.args.boundary.sound
    (ring_part {ring = (whole_line a.boundary.segments.words.now a.boundary.points.now).ring} j.0.holds (omega (arith, j.1, c.requires))) j.0.gap
    (omega (arith, j.0.solids))
