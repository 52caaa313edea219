-- `shape::ears::Triangle::is_blocked` meets its contract: the point that blocks is one of those left. Assumes nothing.
use Rattle.std.proofs.Common.{length, sym, ◌∙◌, arith}
use Rattle.shape.specs.Ears.{blocks_at}
use Rattle.shape.proofs.Laws.Gather.{any_some}
use Rattle.shape.proofs.ears.Triangle.is_blocked.Goals as goal

pub returns-then-is_blocked_by : goal.returns-then-is_blocked_by
returns-then-is_blocked_by c =
    let t = c.args.self in
    let left = t.left.numbers.now in
    sym (any_some (blocks_at t.left.ring.now left t.a t.b t.c) c.loop-p.p-index (length left) (omega arith) (sym c.is_blocked_by.ensures ∙ c.if-is_blocked_by.true))
