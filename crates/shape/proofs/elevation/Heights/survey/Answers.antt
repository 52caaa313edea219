-- `shape::elevation::Heights::survey` meets its contract: lists that are not faulty keep the limits. Assumes nothing.
use Rattle.std.proofs.Common.{◌≡◌, length, Ok, arith}
use Rattle.shape.specs.Lists.{longer, uneven}
use Rattle.shape.specs.Elevation.{grid_check}
use Rattle.shape.proofs.Surveys.{found_widest, says_widest, limits}
use Rattle.shape.proofs.elevation.Heights.survey.Goals as goal

pub invariant_of-result : goal.invariant_of-result
unfolding longer uneven
invariant_of-result c =
    let h = c.args.self in
    let l = length h.left.now in
    let r = length h.right.now in
    let f : Ok c.in-Some.most ≡ grid_check h.rows.now l r = grind (arith, found_widest) in
    let e = says_widest h.rows.now l r c.in-Some.most f in
    record { limits = limits h.rows.now c.in-Some.most e.0.0 e.1 }
