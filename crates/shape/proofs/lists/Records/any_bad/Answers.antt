-- `shape::lists::Records::any_bad` meets its contract: the run that is found is one of the list's. Assumes nothing.
use Rattle.std.proofs.Common.{◌/◌, length, sym, ◌∙◌, arith}
use Rattle.shape.specs.Lists.{run_bad}
use Rattle.shape.proofs.Laws.Gather.{any_some}
use Rattle.shape.proofs.lists.Records.any_bad.Goals as goal

pub returns-then-run_bad : goal.returns-then-run_bad
returns-then-run_bad g c =
    let ws = c.args.self.words.now in
    sym (any_some (run_bad g.row.WIDTH c.args.a ws c.args.n) c.loop-k.k (length ws / g.row.WIDTH) (omega arith) (sym c.run_bad.ensures ∙ c.if-run_bad.true))
