-- `rounding::extremes::abs` meets its contract: the bits without the sign are those of the size. Assumes nothing.
use Rattle.rounding.proofs.Ordered.{ne_test}
use Rattle.rounding.proofs.Choosing.{nan_size}
use Rattle.rounding.proofs.Special.{abs_is}
use Rattle.rounding.proofs.extremes.abs.Goals as goal

pub returns-then-ne : goal.returns-then-ne
returns-then-ne g c = nan_size _ (ne_test g.met.T.Binary.compared c.args.x c.args.x c.ne.ensures c.if-ne.true)

pub returns : goal.returns
returns g c = rw (c.of_bits.ensures, c.size.ensures.value) (abs_is _ _ c.size.ensures.held)
