-- `rounding::extremes::clamp` meets its contract: raised to the one bound, then brought down to the other. Assumes nothing.
use Rattle.std.proofs.Common.{◌≡◌, ap, cond}
use lib.Ieee.{lt}
use Rattle.rounding.proofs.Ordered.{lt_test}
use Rattle.rounding.proofs.Choosing.{raised, unraised, brought_down, stays}
use Rattle.rounding.proofs.extremes.clamp.Goals as goal
use Rattle.rounding.proofs.extremes.clamp.Goals.{Joined-lt, then-lt, else-lt}

-- what is brought down is the number raised to the lower bound
made : (g : _) (c : Joined-lt g) → g.T.Binary.float c.if-lt.y ≡ cond (lt (g.T.Binary.float c.args.x) (g.T.Binary.float c.args.lo)) (g.T.Binary.float c.args.lo) (g.T.Binary.float c.args.x)
made g c =
    let o = g.met.T.Binary.compared in
    let a = c.args in
    let f = g.T.Binary.float in
    elim c.if-lt.branch [
      | then-lt w ↦ raised _ _ _ (lt_test o a.x a.lo c.lt.ensures w.if-lt.true) (ap f w.y-is)
      | else-lt w ↦ unraised _ _ _ (lt_test o a.x a.lo c.lt.ensures w.if-lt.false) (ap f w.y-is)
    ]

pub returns-then-lt-2 : goal.returns-then-lt-2
returns-then-lt-2 g c =
    let f = g.T.Binary.float in
    brought_down (f c.args.x) (f c.args.lo) (f c.args.hi) (f c.if-lt.y) (made g (goal.at.returns-then-lt-2 g c).Joined-lt) (lt_test g.met.T.Binary.compared c.args.hi c.if-lt.y c.lt-2.ensures c.if-lt-2.true)

pub returns-else-lt-2 : goal.returns-else-lt-2
returns-else-lt-2 g c =
    let f = g.T.Binary.float in
    stays (f c.args.x) (f c.args.lo) (f c.args.hi) (f c.if-lt.y) (made g (goal.at.returns-else-lt-2 g c).Joined-lt) (lt_test g.met.T.Binary.compared c.args.hi c.if-lt.y c.lt-2.ensures c.if-lt-2.false)
