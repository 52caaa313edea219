-- `vector::coords::Vector::normalize_or` meets its contract: next to unit length by the law `over_root`. Assumes nothing.
use Rattle.std.proofs.Common.{◌∙◌, subst}
use lib.Ieee.{Float, of_bits}
use Rattle.rounding.specs.Root.{PositiveRoot}
use Rattle.rounding.proofs.Laws.NearOne.{near_positive}
use Rattle.vector.proofs.Laws.{over_root}
use Rattle.vector.proofs.coords.Vector.normalize_or.Goals as goal

pub returns-in-Some : goal.returns-in-Some
unfolding of_bits
returns-in-Some c =
    let p = near_positive c.length_squared.result c.in-Some.root c.in-Some.ensures in
    c.mul.ensures ∙ over_root c.args.self c.args.fallback c.in-Some.root (subst (λ (x : Float). PositiveRoot x c.in-Some.root) c.length_squared.ensures p)
