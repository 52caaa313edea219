-- `rounding::root::near_one` meets its contract. Assumes nothing.
use Rattle.std.proofs.Common.{◌+◌, ◌/◌, arith, lit≤}
use lib.Ieee.{binary32}
use Rattle.rounding.proofs.Fields.{result_no_nan}
use Rattle.rounding.proofs.RootTrial.{near}
use Rattle.rounding.proofs.root.near_one.Goals as goal

pub float_from_bits-result : goal.float_from_bits-result
float_from_bits-result c = result_no_nan binary32 ((c.args.b + 0x3f80_0000) / 2) (omega (arith, c.requires))

pub returns : goal.returns
returns c = (near binary32 c.args.b 0x1000 (lit≤ tt) (omega (arith, c.requires)) (omega (arith, c.requires))).value
