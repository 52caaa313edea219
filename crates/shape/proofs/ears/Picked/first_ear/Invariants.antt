-- `shape::ears::Picked::first_ear`: no position before k has an ear. Assumes nothing.
use Rattle.std.proofs.Common.{◌≡◌, false}
use Rattle.shape.specs.Gather.{any}
use Rattle.shape.specs.Ears.{is_ear}
use Rattle.shape.proofs.ears.Picked.first_ear.Given as goal

abbrev pub invariant-loop-k : goal.invariant-loop-k
invariant-loop-k l = any (is_ear l.self.ring.now l.self.numbers.now) l.k ≡ false
