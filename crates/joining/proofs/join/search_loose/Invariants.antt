-- `joining::join::search_loose`: no index before k is past the vertices. Assumes nothing.
use Rattle.std.proofs.Common.{◌≡◌, false}
use Rattle.shape.specs.Gather.{any}
use Rattle.shape.specs.Lists.{lists_of}
use Rattle.joining.specs.Join.{loose}
use Rattle.joining.proofs.join.search_loose.Given as goal

abbrev pub invariant-loop-k : goal.invariant-loop-k
invariant-loop-k l = any (loose (lists_of l.part)) l.k ≡ false
