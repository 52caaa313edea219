-- `shape::junction_areas::Checked::next_solid` meets its contract: the segments passed are empty. Assumes nothing.
use Rattle.std.proofs.Common.{◌≡◌, length}
use Rattle.shape.specs.Outline.{solid}
use Rattle.shape.proofs.junction_areas.Checked.next_solid.Given as goal

abbrev pub invariant-loop-i : goal.invariant-loop-i
invariant-loop-i l = length (solid l.self.segments.words.now l.i) ≡ length (solid l.self.segments.words.now l.k)
