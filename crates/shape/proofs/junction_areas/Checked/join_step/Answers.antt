-- `shape::junction_areas::Checked::join_step` meets its contract. Assumes nothing.
use Rattle.std.proofs.Common.{refl, arith}
use Rattle.shape.proofs.Joining.{sound_lists, solid_most, join_next}
use Rattle.shape.proofs.junction_areas.Checked.join_step.Goals as goal

pub append-requires : goal.append-requires
append-requires c =
    let s = c.in-Some.ensures in
    let p = c.requires in
    (omega (arith, s.given.after, s.ends, p.1, p.2), s.given.some, omega (arith, s.given.after, s.ends, (sound_lists _ _ c.args.self.sound).small))

pub overflow_add-result : goal.overflow_add-result
overflow_add-result c = omega (arith, c.requires.0, c.requires.3, solid_most c.args.self.segments.words.now c.args.k)

pub returns : goal.returns
returns c =
    let a = c.args in
    let s = c.in-Some.ensures in (
      λ blank at. join_next a.self.segments.words.now a.self.points.now blank a.k at _ _ _ s.given.next s.given.here refl c.turn_at-t.ensures (c.append.ensures.holds blank _ at.holds),
      omega (arith, c.append.ensures.count, s.given.after, c.requires.2),
    )
