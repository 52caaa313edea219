-- `shape::junction::put_ears` meets its contract: the ears so far. Assumes nothing.
use Rattle.std.proofs.Common.{◌≡◌, ◌*◌, ◌/◌, length, refl, ◌∙◌, zero-add, arith}
use Rattle.shape.specs.Gather.{gather}
use Rattle.shape.specs.JunctionMesh.{raised_by, spacing_of, corner_coords, ear_cut, ears_mesh, sum_of, ear_vertices, vertex_count}
use Rattle.shape.proofs.Laws.Memory.{put_none, put_length, put_turn}
use Rattle.shape.proofs.Laws.JunctionMesh.{corners_nine, ears_length, sum_fits, vertices_of_ear}
use Rattle.shape.proofs.junction.put_ears.Goals.{After-ear_at-e}
use Rattle.shape.proofs.junction.put_ears.Goals as goal

-- the ear that is put is the next
ear : (c : After-ear_at-e) → c.ear_at-e.result ≡ ear_cut (spacing_of c.args.relief.grid) c.args.ears.ring.now c.args.ears.numbers.now c.loop-k.k
ear c = rw c.spacing-step.ensures at c.ear_at-e.ensures.0

pub loop-k-init : goal.loop-k-init
unfolding gather
loop-k-init c = record { vs = put_none _ _; ns = put_none _ _ }

pub put_split-at-requires : goal.put_split-at-requires
unfolding vertex_count
put_split-at-requires c =
    let a = c.args in
    let step = spacing_of a.relief.grid in
    let ring = a.ears.ring.now in
    let ears = a.ears.numbers.now in
    let l = c.loop-k in
    let h = sum_fits (ear_vertices step ring ears) l.k (length ears / 3) c.loop-k-test.true in
    let v = vertices_of_ear step ring ears l.k c.ear_at-e.result (ear (goal.at.put_split-at-requires c).After-ear_at-e) in
    let t : l.at ≡ 3 * sum_of (ear_vertices step ring ears) l.k =
    l.invariant.vs.ends ∙ zero-add _ ∙ ears_length corner_coords corners_nine (raised_by a.relief) step ring ears l.k
    in
    let m : vertex_count step ring ears ≡ sum_of (ear_vertices step ring ears) (length ears / 3) = refl in
    omega (arith, h, v, t, m, put_length l.invariant.vs, put_length l.invariant.ns, c.ear_at-e.ensures.1, c.requires)

pub loop-k-preserved : goal.loop-k-preserved
loop-k-preserved c =
    let v = c.loop-k.invariant in
    let e = ear (goal.at.loop-k-preserved c).After-ear_at-e in
    let x = c.put_split-at.ensures in
    record { vs = put_turn _ c.loop-k.k v.vs (rw e at x.vertices_put); ns = put_turn _ c.loop-k.k v.ns (rw e at x.normals_put) }

pub returns : goal.returns
unfolding ears_mesh
returns c =
    let l = c.loop-k in
    let e : l.k ≡ length c.args.ears.numbers.now / 3 = omega arith in
    record { vertices_put = rw e at l.invariant.vs; normals_put = rw e at l.invariant.ns }
