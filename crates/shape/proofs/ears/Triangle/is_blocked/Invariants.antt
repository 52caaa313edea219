-- `shape::ears::Triangle::is_blocked`: no point before p blocks. Assumes nothing.
use Rattle.std.proofs.Common.{◌≡◌, false}
use Rattle.shape.specs.Gather.{any}
use Rattle.shape.specs.Ears.{blocks_at}
use Rattle.shape.proofs.ears.Triangle.is_blocked.Given as goal

abbrev pub invariant-loop-p : goal.invariant-loop-p
invariant-loop-p l = let t = l.self in any (blocks_at t.left.ring.now t.left.numbers.now t.a t.b t.c) l.p-index ≡ false
