-- `surface::file::past_greatest` meets its contract: no id of the first k records is past the greatest. Assumes nothing.
use Rattle.std.proofs.Common.{◌≡◌, ◌∙◌, ◌/◌, true, length, sym, arith}
use Rattle.shape.proofs.Laws.Gather.{any_some}
use Rattle.surface.specs.File.{past_at}
use Rattle.surface.specs.FileSteps.{whole_in, record_in}
use Rattle.surface.proofs.file.past_greatest.Goals as goal

pub returns-then-past_greatest : goal.returns-then-past_greatest
unfolding past_at whole_in record_in
returns-then-past_greatest c =
    let ws = c.args.held.now in
    let k = c.loop-k.k in
    let e : past_at ws k ≡ true = rw (← c.«record».ensures) (sym c.past_greatest.ensures ∙ c.if-past_greatest.true) in
    sym (any_some (past_at ws) k (length ws / 8) (omega arith) e)
