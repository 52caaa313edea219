-- `shape::ears::count_up`: the numbers below i are put. Assumes nothing.
use Rattle.shape.specs.Memory.{Put}
use Rattle.shape.specs.Ears.{up_to}
use Rattle.shape.proofs.ears.count_up.Given as goal

abbrev pub invariant-loop-i : goal.invariant-loop-i
invariant-loop-i l = Put l.initial.numbers l.numbers 0 (up_to l.i) l.i
