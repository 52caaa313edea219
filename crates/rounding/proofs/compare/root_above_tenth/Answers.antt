-- `rounding::compare::root_above_tenth` meets its contract, by the law `edge` at `passes_tenth`. Assumes nothing.
use Rattle.std.proofs.Common.{T, sym, subst}
use lib.Ieee.{binary32, of_bits, lt}
use Rattle.rounding.specs.Thresholds.{tenth}
use Rattle.rounding.proofs.Laws.RootTest.{as_it_is, above, edge}
use Rattle.rounding.proofs.Laws.Thresholds.{passes_tenth}
use Rattle.rounding.proofs.compare.root_above_tenth.Goals as goal

pub returns : goal.returns
returns c =
    sym
    (edge binary32 (λ v. lt tenth v) (above (λ v. v) as_it_is tenth) (of_bits binary32 0x3c23_d70c) (of_bits binary32 0x3c23_d70b) passes_tenth
    c.args.x (subst T (sym c.well_formed.0.1) tt))
