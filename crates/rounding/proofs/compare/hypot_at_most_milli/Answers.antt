-- `rounding::compare::hypot_at_most_milli` meets its contract. Assumes nothing.
use lib.Ieee.{of_bits, le}
use Rattle.rounding.specs.Hypot.{squares_of}
use Rattle.rounding.specs.Numbers.{nought}
use Rattle.rounding.proofs.Laws.RootTest.{reached, missed}
use Rattle.rounding.proofs.Length.{at_most_milli}
use Rattle.rounding.proofs.compare.hypot_at_most_milli.Goals as goal

pub returns-then-n : goal.returns-then-n
returns-then-n c =
    reached (le nought (squares_of c.args.a c.args.b)) (at_most_milli c.args.a c.args.b) (rw c.squares-n.ensures at c.if-n.true)

pub returns : goal.returns
unfolding of_bits
returns c =
    rw c.squares-n.ensures (missed (le nought (squares_of c.args.a c.args.b)) (at_most_milli c.args.a c.args.b) (rw c.squares-n.ensures at c.if-n.false))
