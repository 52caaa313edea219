-- `lookup::build_fast::Checked::tally_on` meets its contract: one triangle more is tallied and measured in each turn, or passed over. Assumes nothing.
use Rattle.std.proofs.Common.{◌≡◌, arith}
use Rattle.lookup.specs.Mesh.{triangles}
use Rattle.lookup.proofs.Tallies.{measured_none, measured_passed, measured_nan, measured_next, measured_all}
use Rattle.lookup.proofs.Picking.{merged}
use Rattle.lookup.proofs.build_fast.Checked.tally_on.Goals as goal

pub loop-t-init : goal.loop-t-init
loop-t-init c = measured_none c.args.self.mesh.vertices.now c.args.self.mesh.indices.now c.args.first c.requires.sound.0

pub loop-t-preserved-in_default : goal.loop-t-preserved-in_default
loop-t-preserved-in_default c = measured_passed _ _ _ _ _ _ _ _ _ c.requires.sound.1 c.loop-t.invariant c.in_default.ensures

pub loop-t-preserved-then-both : goal.loop-t-preserved-then-both
loop-t-preserved-then-both c =
    let x = c.loop-t.invariant.sound in
    let y = c.requires.sound.0 in
    measured_nan _ _ _ _ _ _ _ _ _ c.requires.sound.1 c.loop-t.invariant _
    (record { least_x = c.lower-min_x.ensures.num x.least_x; most_x = y.most_x; least_y = c.lower-min_y.ensures.num x.least_y; most_y = y.most_y })

pub loop-t-preserved : goal.loop-t-preserved
loop-t-preserved c =
    let x = c.loop-t.invariant in
    measured_next _ _ _ _ _ _ _ _ _ c.requires.sound.1 x _ _ _ _ c.in-Some.ensures c.compared.ensures c.grown-g.ensures
    (merged _ _ _ _ _ _ x.sound c.lower-min_x.ensures c.lower-min_y.ensures c.upper-max_x.ensures c.upper-max_y.ensures) _ _ c.if-both.false
    c.upper-width.ensures c.upper-height.ensures

pub returns : goal.returns
returns c =
    let a = c.args in
    let e : c.loop-t.t ≡ triangles a.self.mesh.indices.now = omega arith in
    measured_all a.self.mesh.vertices.now a.self.mesh.indices.now a.first c.loop-t.t _ _ _ _ _ c.loop-t.invariant e c.requires.some c.then_some.ensures
