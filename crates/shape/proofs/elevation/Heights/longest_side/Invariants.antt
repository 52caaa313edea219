-- `shape::elevation::Heights::longest_side` meets its contract: so far every row was in order, or the pass stops. Assumes nothing.
use Rattle.std.proofs.Common.{length}
use Rattle.shape.proofs.Surveys.{Seen}
use Rattle.shape.proofs.elevation.Heights.longest_side.Given as goal

abbrev pub invariant-loop-k : goal.invariant-loop-k
invariant-loop-k l = Seen l.self.rows.now (length l.self.left.now) (length l.self.right.now) l.most l.last_left l.last_right l.k
