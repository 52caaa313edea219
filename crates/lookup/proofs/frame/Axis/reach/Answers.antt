-- `lookup::frame::Axis::reach` meets its contract: each turn is a law of `proofs/Reach.antt`. Assumes nothing.
use Rattle.rounding.proofs.Laws.Order.{T_of}
use Rattle.lookup.specs.Steps.{Below}
use Rattle.lookup.proofs.Reach.{reached_first, reached_more, reached_same, reached_last, reaches_all}
use Rattle.lookup.proofs.frame.Axis.reach.Goals as goal
use Rattle.lookup.proofs.frame.Axis.reach.Goals.{then-most-here, else-most-here}

pub loop-init : goal.loop-init
loop-init c = reached_first _ _ _ _ c.requires c.args.self.some c.col-most.ensures

pub returns-then-self-here : goal.returns-then-self-here
returns-then-self-here c =
    reached_last _ _ _ _ c.requires c.args.self.some (T_of c.well_formed.1.0.1) c.loop.invariant c.col-here.ensures c.if-self-here.true

pub loop-preserved : goal.loop-preserved
loop-preserved c =
    let here = c.col-here.ensures in
    let there = c.col-there.ensures in
    elim c.if-most-here.branch [
      | then-most-here w ↦ reached_more _ _ _ _ c.requires c.args.self.some _ c.loop.invariant here there w.if-most-here.true w.most-is
      | else-most-here w ↦ reached_same _ _ _ _ c.requires c.args.self.some _ c.loop.invariant here there w.if-most-here.false w.most-is
    ]

pub returns : goal.returns
returns c = reaches_all _ _ _ (Below c.args.w) c.args.self.some
