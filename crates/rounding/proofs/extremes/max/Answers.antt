-- `rounding::extremes::max` meets its contract: of two numbers the larger, and beside a NaN the other. Assumes nothing.
use Rattle.rounding.specs.Extremes.{max_of, ge}
use Rattle.rounding.proofs.Choosing.{larger, after, not_larger}
use Rattle.rounding.proofs.extremes.max.Goals as goal
use Rattle.rounding.proofs.extremes.max.Goals.{then-lt, else-lt}

pub returns-then-ne : goal.returns-then-ne
unfolding max_of
returns-then-ne g c =
    elim c.if-lt.branch [
      | then-lt w ↦ larger g.met.T.Binary.compared c.args.x c.args.y c.lt.ensures w.if-lt.true
      | else-lt w ↦ after g.met.T.Binary.compared c.args.x c.args.y ge w.ne.ensures cc
    ]

pub returns-else-ne : goal.returns-else-ne
unfolding max_of
returns-else-ne g c =
    elim c.if-lt.branch [
      | then-lt w ↦ cc
      | else-lt w ↦ not_larger g.met.T.Binary.compared c.args.x c.args.y c.lt.ensures w.if-lt.false w.ne.ensures cc
    ]
