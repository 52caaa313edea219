-- `rounding::binary::size` meets its contract: the mask is of all bits but the sign. Assumes nothing.
use Rattle.rounding.proofs.Words.{masked}
use Rattle.rounding.proofs.binary.size.Goals as goal

pub returns-clause-value : goal.returns-clause-value
returns-clause-value g c = rw (c.bits.ensures.value, c.SIGN.ensures, g.met.T.Binary.laid_out.sign_is) (masked _ _)
