-- `shape::junction_areas::nearer` meets its contract. Assumes nothing.
use Rattle.std.proofs.Common.{T, sym, subst}
use Rattle.shape.proofs.Reaching.{not_nearer}
use Rattle.shape.proofs.junction_areas.nearer.Goals as goal

pub returns-then-b-a : goal.returns-then-b-a
returns-then-b-a c = not_nearer _ _ c.requires (subst T (sym c.if-b-a.true) tt)
