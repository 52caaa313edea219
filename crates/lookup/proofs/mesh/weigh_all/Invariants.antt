-- `lookup::mesh::weigh_all` meets its contract: where one of the first k least weights is too low, its triangle is not over the point. Assumes nothing.
use Rattle.std.proofs.Common.{◌≡◌, length}
use Rattle.lookup.specs.Sixteen.{AllLow}
use Rattle.lookup.proofs.mesh.weigh_all.Given as goal

abbrev pub invariant-loop-k : goal.invariant-loop-k
invariant-loop-k l = (length l.low ≡ length l.initial.low) × AllLow l.a l.b l.c l.x l.y l.low l.k
