-- `shape::lists::Records::any_long` meets its contract: the run that is found is one of the list's. Assumes nothing.
use Rattle.std.proofs.Common.{◌/◌, length, sym, ◌∙◌, arith}
use Rattle.shape.specs.Lists.{run_long}
use Rattle.shape.proofs.Laws.Gather.{any_some}
use Rattle.shape.proofs.lists.Records.any_long.Goals as goal

pub returns-then-run_long : goal.returns-then-run_long
returns-then-run_long g c =
    let ws = c.args.self.words.now in
    sym (any_some (run_long g.row.WIDTH c.args.a ws c.args.limit) c.loop-k.k (length ws / g.row.WIDTH) (omega arith) (sym c.run_long.ensures ∙ c.if-run_long.true))
