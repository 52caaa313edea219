-- `shape::memory::copy` meets its contract: one element more is copied. Assumes nothing.
use Rattle.std.proofs.Common.{arith}
use Rattle.shape.proofs.Laws.Memory.{copied_more}
use Rattle.shape.proofs.memory.copy.Goals as goal

pub loop-i-preserved : goal.loop-i-preserved
loop-i-preserved g c =
    copied_more c.args.xs.now c.args.out.now c.loop-i.out c.loop-i.i _ _ c.loop-i.invariant c.index-xs-i.is (omega arith) (omega arith)
