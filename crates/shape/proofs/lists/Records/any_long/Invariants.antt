-- `shape::lists::Records::any_long`: no run below k is one. Assumes nothing.
use Rattle.std.proofs.Common.{◌≡◌, false}
use Rattle.shape.specs.Gather.{any}
use Rattle.shape.specs.Lists.{run_long}
use Rattle.shape.proofs.lists.Records.any_long.Given as goal

abbrev pub invariant-loop-k : goal.invariant-loop-k
invariant-loop-k g l = any (run_long g.row.WIDTH l.a l.self.words.now l.limit) l.k ≡ false
