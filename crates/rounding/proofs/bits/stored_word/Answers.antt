-- `rounding::bits::stored_word` meets its contract: any zero is 0, and the rest is `bits32`. Assumes nothing.
use Rattle.std.proofs.Common.{◌∙◌}
use lib.Ieee.{of_bits}
use Rattle.rounding.proofs.Words.{stored_zero, stored_other}
use Rattle.rounding.proofs.bits.stored_word.Goals as goal

pub returns-then-x : goal.returns-then-x
unfolding of_bits
returns-then-x c = stored_zero c.args.x c.if-x.true

pub returns-else-x : goal.returns-else-x
unfolding of_bits
returns-else-x c = c.bits32.ensures ∙ stored_other c.args.x c.if-x.false
