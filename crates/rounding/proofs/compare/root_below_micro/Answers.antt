-- `rounding::compare::root_below_micro` meets its contract, by the law `root_below` at `reaches_micro`. Assumes nothing.
use Rattle.std.proofs.Common.{◌≡◌, not, ◌&&◌, T}
use lib.Ieee.{Float, binary32, fits, of_bits, le, lt}
use Rattle.rounding.specs.Root.{sqrt_of}
use Rattle.rounding.specs.Thresholds.{micro}
use Rattle.rounding.specs.Numbers.{nought}
use Rattle.rounding.proofs.Laws.Order.{T_of}
use Rattle.rounding.proofs.Laws.RootTest.{as_it_is, root_below, reached, missed}
use Rattle.rounding.proofs.Laws.Thresholds.{reaches_micro}
use Rattle.rounding.proofs.compare.root_below_micro.Goals as goal

fact : (x : Float) → T (fits binary32 x) → lt (sqrt_of binary32 x) micro ≡ le nought x && not (le (of_bits binary32 0x2b8c_bccb) x)
unfolding of_bits
fact x h = root_below binary32 (λ v. v) as_it_is micro (of_bits binary32 0x2b8c_bccb) (of_bits binary32 0x2b8c_bcca) tt x h reaches_micro

pub returns-then-x : goal.returns-then-x
returns-then-x c = reached (le nought c.args.x) (fact c.args.x (T_of c.well_formed.0.1)) c.if-x.true

pub returns : goal.returns
unfolding of_bits
returns c = missed (le nought c.args.x) (fact c.args.x (T_of c.well_formed.0.1)) c.if-x.false
