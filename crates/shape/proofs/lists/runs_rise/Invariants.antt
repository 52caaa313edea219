-- `shape::lists::runs_rise` meets its contract. The loop's invariant: the runs of the first i spans rise. Assumes nothing.
use Rattle.std.proofs.Common.{◌≡◌}
use Rattle.shape.specs.Lists.{last_end}
use Rattle.shape.proofs.Rising.{Rises}
use Rattle.shape.proofs.lists.runs_rise.Given as goal

abbrev pub invariant-loop-i : goal.invariant-loop-i
invariant-loop-i l = (l.vertex ≡ last_end 5 1 l.spans l.i) × (l.index ≡ last_end 5 3 l.spans l.i) × Rises l.spans 1 l.i × Rises l.spans 3 l.i
