-- `lookup::frame::Axis::reach_of` meets its contract: what is no wider than `width` is less wide than w. Assumes nothing.
use Rattle.rounding.proofs.Laws.Order.{T_of}
use Rattle.lookup.specs.Steps.{UpTo}
use Rattle.lookup.proofs.Reach.{reaches_all, reaches_wide}
use Rattle.lookup.proofs.frame.Axis.reach_of.Goals as goal

pub returns-then-width-w : goal.returns-then-width-w
returns-then-width-w c = let a = c.args in reaches_wide a.self.low a.self.cell a.self.count a.width _ c.reach.ensures (T_of c.if-width-w.true)

pub returns : goal.returns
returns c = let a = c.args in reaches_all a.self.low a.self.cell a.self.count (UpTo a.width) c.args.self.some
