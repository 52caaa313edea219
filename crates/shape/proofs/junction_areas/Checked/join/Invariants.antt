-- `shape::junction_areas::Checked::join` meets its contract: after k turns the ring is that of the first k segments. Assumes nothing.
use Rattle.std.proofs.Common.{◌≤◌}
use Rattle.shape.specs.Lists.{last_end}
use Rattle.shape.specs.OutlineJoins.{Joins}
use Rattle.shape.proofs.junction_areas.Checked.join.Given as goal

abbrev pub invariant-loop-k : goal.invariant-loop-k
invariant-loop-k l = record {
  joins : Joins l.self.segments.words.now l.self.points.now l.initial.line l.line l.k l.j;
  count : l.j.ring.count ≤ last_end 2 0 l.self.segments.words.now l.k;
}
