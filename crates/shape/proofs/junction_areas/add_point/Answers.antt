-- `shape::junction_areas::add_point` meets its contract. Assumes nothing.
use Rattle.std.proofs.Common.{sym, ◌∙◌}
use Rattle.shape.specs.Outline.{flat}
use Rattle.shape.proofs.Joining.{add_new, add_old, old_some}
use Rattle.shape.proofs.junction_areas.add_point.Goals as goal

pub returns-then-is_new-clause-holds : goal.returns-then-is_new-clause-holds
unfolding flat
returns-then-is_new-clause-holds c =
    λ blank ring h. add_new h c.args.p (sym (c.is_new.ensures ring h.end) ∙ c.if-is_new.true) c.put.ensures

pub returns-clause-holds : goal.returns-clause-holds
returns-clause-holds c = λ blank ring h. add_old h c.args.p (sym (c.is_new.ensures ring h.end) ∙ c.if-is_new.false)

pub returns-clause-some : goal.returns-clause-some
returns-clause-some c = old_some c.args.h.last c.args.p c.is_new.ensures c.if-is_new.false
