-- `rounding::root::root_from` meets its contract. The first loop ends at an r whose square is at most n, and the second keeps that until one more is too much.
-- Assumes nothing.
use Rattle.std.proofs.Common.{◌-◌, ◌*◌, ◌^◌, ◌<◌, ◌≤◌}
use Rattle.rounding.proofs.root.root_from.Given as goal

abbrev pub invariant-loop-r : goal.invariant-loop-r
invariant-loop-r l = l.r < 2 ^ 28

abbrev pub decreases-loop-r : goal.decreases-loop-r
decreases-loop-r l = l.r

abbrev pub invariant-loop-r-2 : goal.invariant-loop-r-2
invariant-loop-r-2 l = l.r * l.r ≤ l.n

abbrev pub decreases-loop-r-2 : goal.decreases-loop-r-2
decreases-loop-r-2 l = 2 ^ 27 - l.r
