-- `lookup::frame::Axis::reach` meets its contract: each turn is a law of `proofs/Reach.antt`. Assumes nothing.
use Rattle.lookup.proofs.Reach.{Reached}
use Rattle.lookup.proofs.frame.Axis.reach.Given as goal

abbrev pub invariant-loop : goal.invariant-loop
invariant-loop l = Reached l.self.low l.self.cell l.self.count l.w l.x l.most
