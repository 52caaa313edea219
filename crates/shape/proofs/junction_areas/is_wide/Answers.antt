-- `shape::junction_areas::is_wide` meets its contract. Assumes nothing.
use Rattle.std.proofs.Common.{T, sym, subst}
use lib.Ieee.{of_bits}
use Rattle.shape.proofs.Reaching.{wide_up, wide_down}
use Rattle.shape.proofs.junction_areas.is_wide.Goals as goal

pub returns-then-x : goal.returns-then-x
unfolding of_bits
returns-then-x c = λ h. wide_up _ (subst T (sym c.if-x.true) tt)

pub returns-else-x : goal.returns-else-x
unfolding of_bits
returns-else-x c = λ h. wide_down _ (subst T (sym h) tt)
