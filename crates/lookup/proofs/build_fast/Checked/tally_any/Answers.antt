-- `lookup::build_fast::Checked::tally_any` meets its contract: one triangle more is tallied and measured in each turn, or passed over. Assumes nothing.
use Rattle.std.proofs.Common.{◌≡◌, refl, arith}
use Rattle.lookup.specs.Mesh.{triangles}
use Rattle.lookup.specs.Frame.{boxes_of, extent_of}
use Rattle.lookup.proofs.Tallies.{boxes_le, box_there, tally_passed, tally_next, sized_none, sized_passed, sized_nan, sized_next, sized_all}
use Rattle.lookup.proofs.build_fast.Checked.tally_any.Goals as goal

pub loop-t-init : goal.loop-t-init
unfolding boxes_of extent_of
loop-t-init c = (record { counts = refl; around = refl }, sized_none c.args.self.mesh.vertices.now c.args.self.mesh.indices.now)

pub loop-t-preserved-in_default : goal.loop-t-preserved-in_default
loop-t-preserved-in_default c =
    let l = c.loop-t.invariant in
    (tally_passed _ _ _ _ _ l.0 c.in_default.ensures, sized_passed _ _ _ _ _ _ l.1 c.in_default.ensures)

pub overflow_add-count : goal.overflow_add-count
overflow_add-count c =
    omega (arith, c.loop-t.invariant.0.counts, boxes_le c.args.self.mesh.vertices.now c.args.self.mesh.indices.now c.loop-t.t, c.loop-t-test, c.args.self.few)

pub loop-t-preserved-then-both : goal.loop-t-preserved-then-both
loop-t-preserved-then-both c =
    let l = c.loop-t.invariant in
    let b = box_there _ _ _ _ _ _ c.in-Some.ensures c.around.ensures c.grown-g.ensures in
    (tally_next _ _ _ _ _ l.0 _ _ b c.join.ensures, sized_nan _ _ _ _ _ _ l.1)

pub loop-t-preserved : goal.loop-t-preserved
loop-t-preserved c =
    let l = c.loop-t.invariant in
    let b = box_there _ _ _ _ _ _ c.in-Some.ensures c.around.ensures c.grown-g.ensures in
    (tally_next _ _ _ _ _ l.0 _ _ b c.join.ensures, sized_next _ _ _ _ _ _ l.1 _ b _ _ c.if-both.false c.upper-width.ensures c.upper-height.ensures)

pub returns : goal.returns
returns c =
    let l = c.loop-t in
    let e : l.t ≡ triangles c.args.self.mesh.indices.now = omega arith in
    sized_all _ _ _ _ _ _ _ _ l.invariant.0 l.invariant.1 e c.then_some.ensures
