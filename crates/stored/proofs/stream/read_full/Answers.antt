-- What a read gives stands after what stood there.
use Rattle.std.proofs.Common.{rules}
use Rattle.stored.proofs.Reading.{read_more}
use Rattle.stored.proofs.stream.read_full.Goals as goal

pub loop-done-preserved : goal.loop-done-preserved
loop-done-preserved g c =
    (search rules, read_more _ _ _ _ _ _ _ _ c.loop-done.invariant.0 c.in-Ok.ensures.bound.0 c.loop-done.invariant.1 c.in-Ok.ensures.bytes.0)
