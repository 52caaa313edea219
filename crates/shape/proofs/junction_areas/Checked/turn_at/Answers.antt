-- `shape::junction_areas::Checked::turn_at` meets its contract. Assumes nothing.
use Rattle.std.proofs.Common.{refl}
use Rattle.shape.specs.Outline.{gap_at, origin}
use Rattle.shape.proofs.Joining.{none_begun, some_begun, turn_later_at}
use Rattle.shape.proofs.junction_areas.Checked.turn_at.Goals as goal

pub returns-in-None : goal.returns-in-None
unfolding gap_at
returns-in-None c = rw (none_begun c.in-None.is c.args.j.begun) (c.first_turns.ensures origin, refl)

pub returns-in-Some : goal.returns-in-Some
returns-in-Some c =
    let a = c.args in
    rw c.in-Some.is (turn_later_at a.self.segments.words.now a.self.points.now a.j.segments a.s.now _ a.j.gap.root _ _ c.requires.2
    (some_begun c.in-Some.is a.j.begun) c.turn_later.ensures)
