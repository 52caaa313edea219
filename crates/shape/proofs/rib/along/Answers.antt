-- `shape::rib::along` meets its contract: next to unit length by the law `over_root`. Assumes nothing.
use Rattle.std.proofs.Common.{◌∙◌}
use lib.Ieee.{of_bits}
use Rattle.rounding.proofs.Laws.NearOne.{near_positive}
use Rattle.vector.proofs.Laws.{over_root}
use Rattle.shape.specs.Strip.{along_of}
use Rattle.shape.proofs.rib.along.Goals as goal

pub returns-in-Some : goal.returns-in-Some
unfolding along_of of_bits
returns-in-Some c =
    let p = near_positive _ c.in-Some.root (rw c.length_squared.ensures at c.in-Some.ensures) in
    rw (← c.vector_at.ensures, ← c.horizontal-t.ensures) (c.mul.ensures ∙ over_root c.horizontal-t.result _ c.in-Some.root p)
