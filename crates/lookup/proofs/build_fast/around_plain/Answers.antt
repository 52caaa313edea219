-- `lookup::build_fast::around_plain` meets its contract. Assumes nothing.
use Rattle.std.proofs.Common.{◌∙◌}
use Rattle.lookup.proofs.Picking.{summed, box_inj, none_no_box}
use Rattle.lookup.proofs.build_fast.around_plain.Goals as goal

pub returns-then-both : goal.returns-then-both
returns-then-both c e h = none_no_box e h

pub returns : goal.returns
returns c e h = let n = summed _ _ c.if-both.false in box_inj _ e h ∙ c.compared-e.ensures n.0 n.1
