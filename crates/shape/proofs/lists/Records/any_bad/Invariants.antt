-- `shape::lists::Records::any_bad`: no run below k is one. Assumes nothing.
use Rattle.std.proofs.Common.{◌≡◌, false}
use Rattle.shape.specs.Gather.{any}
use Rattle.shape.specs.Lists.{run_bad}
use Rattle.shape.proofs.lists.Records.any_bad.Given as goal

abbrev pub invariant-loop-k : goal.invariant-loop-k
invariant-loop-k g l = any (run_bad g.row.WIDTH l.a l.self.words.now l.n) l.k ≡ false
