-- `joining::join::first_loose` meets its contract: where the greatest is below the vertices, no index is past them. Assumes nothing.
use Rattle.std.proofs.Common.{arith}
use Rattle.shape.specs.Lists.{lists_of}
use Rattle.joining.proofs.Laws.Faults.{none_past}
use Rattle.joining.proofs.join.first_loose.Goals as goal

pub returns-then-greatest-points : goal.returns-then-greatest-points
returns-then-greatest-points c = none_past (lists_of c.args.part) (λ k h. omega (arith, c.greatest.ensures k h, c.points.ensures, c.if-greatest-points.true))
