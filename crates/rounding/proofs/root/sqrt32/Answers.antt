-- `rounding::root::sqrt32` meets its contract. Assumes nothing.
use Rattle.std.proofs.Common.{ap, ◌∙◌}
use lib.Ieee.{binary32}
use lib.Ieee.Bits.{of_bits-to_bits}
use Rattle.rounding.specs.Root.{sqrt_of}
use Rattle.rounding.proofs.Laws.Order.{T_of}
use Rattle.rounding.proofs.Fields.{no_nan, nan_root, result_no_nan}
use Rattle.rounding.proofs.root.sqrt32.Goals as goal

pub returns-then-x : goal.returns-then-x
returns-then-x c = nan_root binary32 c.args.x c.if-x.true

pub float_to_bits-b : goal.float_to_bits-b
float_to_bits-b c = no_nan c.args.x c.if-x.false

pub float_from_bits-result : goal.float_from_bits-result
float_from_bits-result c = result_no_nan binary32 c.root_normal.result c.root_normal.ensures.finite

pub returns-then-head-lt255 : goal.returns-then-head-lt255
returns-then-head-lt255 c =
    c.root_normal.ensures.value ∙ ap (sqrt_of binary32) (of_bits-to_bits binary32 c.args.x (T_of c.well_formed.0.1))
