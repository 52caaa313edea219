-- `rounding::binary::F64Binary::is_number` meets its contract: a finite float lies between the infinities, and a NaN does not. Assumes nothing.
use lib.Ieee.{of_bits}
use Rattle.std.proofs.Common.{◌∙◌}
use Rattle.rounding.proofs.Choosing.{under_infinity, not_under_infinity}
use Rattle.rounding.proofs.binary.F64Binary.is_number.Goals as goal

pub returns-then-self : goal.returns-then-self
unfolding of_bits
returns-then-self c = under_infinity c.args.self c.if-self.true

pub returns-else-self : goal.returns-else-self
unfolding of_bits
returns-else-self c = c.if-self.false ∙ not_under_infinity c.args.self c.if-self.false
