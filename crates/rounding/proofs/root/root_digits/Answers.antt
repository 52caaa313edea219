-- `rounding::root::root_digits` meets its contract, at each of the two widths. Assumes nothing.
use Rattle.std.proofs.Common.{sym, ◌∙◌}
use Rattle.rounding.proofs.Halves.{narrow_root}
use Rattle.rounding.proofs.root.root_digits.Goals as goal

pub returns-then-DIGITS-eq24 : goal.returns-then-DIGITS-eq24
returns-then-DIGITS-eq24 g c = narrow_root _ _ _ (sym c.DIGITS.ensures ∙ c.if-DIGITS-eq24.true) c.root.ensures
