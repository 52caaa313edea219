-- `shape::ears::cut_all`: what is put, with the ears of the points left, is all. Assumes nothing.
use Rattle.std.proofs.Common.{◌-◌, ◌≤◌, min, length}
use Rattle.shape.proofs.Laws.Ears.{Cutting}
use Rattle.shape.proofs.ears.cut_all.Given as goal

abbrev pub invariant-loop-n : goal.invariant-loop-n
invariant-loop-n l =
    let points = length l.initial.left in
    Cutting l.ring l.initial.left l.left l.initial.ears l.ears points (l.n - 1) l.at × (min points 3 ≤ l.n - 1)
