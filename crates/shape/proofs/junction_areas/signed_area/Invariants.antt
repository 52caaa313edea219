-- `shape::junction_areas::signed_area` meets its contract: after i turns the sum is that of the sides 0 to i - 1. Assumes nothing.
use Rattle.std.proofs.Common.{◌≡◌, ◌-◌, ◌≤◌}
use Rattle.shape.specs.Outline.{area_to}
use Rattle.shape.specs.OutlineSteps.{points_of}
use Rattle.shape.proofs.junction_areas.signed_area.Given as goal

abbrev pub invariant-loop-i : goal.invariant-loop-i
invariant-loop-i l = record { sum : l.area ≡ area_to (points_of l.ring) (l.i - 1); most : l.i - 1 ≤ l.n - 1 }
