-- `rounding::extremes::min` meets its contract: of two numbers the smaller, and beside a NaN the other. Assumes nothing.
use lib.Ieee.{le}
use Rattle.rounding.specs.Extremes.{min_of}
use Rattle.rounding.proofs.Choosing.{smaller, after, not_smaller}
use Rattle.rounding.proofs.extremes.min.Goals as goal
use Rattle.rounding.proofs.extremes.min.Goals.{then-lt, else-lt}

pub returns-then-ne : goal.returns-then-ne
unfolding min_of
returns-then-ne g c =
    elim c.if-lt.branch [
      | then-lt w ↦ smaller g.met.T.Binary.compared c.args.x c.args.y c.lt.ensures w.if-lt.true
      | else-lt w ↦ after g.met.T.Binary.compared c.args.x c.args.y le w.ne.ensures cc
    ]

pub returns-else-ne : goal.returns-else-ne
unfolding min_of
returns-else-ne g c =
    elim c.if-lt.branch [
      | then-lt w ↦ cc
      | else-lt w ↦ not_smaller g.met.T.Binary.compared c.args.x c.args.y c.lt.ensures w.if-lt.false w.ne.ensures cc
    ]
