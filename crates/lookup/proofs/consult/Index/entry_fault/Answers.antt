-- `lookup::consult::Index::entry_fault` meets its contract: no entry before i is at fault. Assumes nothing.
use Rattle.std.proofs.Common.{◌≡◌, ◌-◌, arith}
use Rattle.lookup.proofs.Laws.Heads.{entry_none}
use Rattle.lookup.proofs.consult.Index.entry_fault.Goals as goal

pub loop-i-init : goal.loop-i-init
loop-i-init c = let z : c.args.run.start - c.args.run.start ≡ 0 = omega arith in rw z (entry_none _ _ _)
