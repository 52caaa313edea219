-- `lookup::consult::Index::entry_fault` meets its contract: no entry before i is at fault. Assumes nothing.
use Rattle.std.proofs.Common.{◌≡◌, ◌-◌}
use Rattle.shape.specs.Refusal.{fine}
use Rattle.lookup.specs.Consult.{entry_fault}
use Rattle.lookup.proofs.consult.Index.entry_fault.Given as goal

abbrev pub invariant-loop-i : goal.invariant-loop-i
invariant-loop-i l = entry_fault l.self.words.now l.self.count l.fn.run.start (l.i - l.fn.run.start) ≡ fine
