-- `shape::strip::put_ribs` meets its contract: so far k ribs and k segments are written. Assumes nothing.
use Rattle.std.proofs.Common.{◌≡◌, ◌+◌, ◌-◌, ◌/◌, length, refl, ap, ◌∙◌, arith}
use Rattle.shape.specs.declared.rib.Walk.{Walk}
use Rattle.shape.specs.Gather.{gather}
use Rattle.shape.specs.Strip.{lane_of, leg_in, six_of, indices_at, vertices_of, normals_of, indices_of}
use Rattle.shape.specs.MeshSteps.{walk_at}
use Rattle.shape.proofs.Laws.Gather.{gather_fits}
use Rattle.shape.proofs.Laws.Memory.{put_none, put_length, put_turn}
use Rattle.shape.proofs.Strips.{leg_next}
use Rattle.shape.proofs.strip.put_ribs.Goals as goal

pub walk_at-w-requires : goal.walk_at-w-requires
unfolding leg_in
walk_at-w-requires c = (omega arith, c.no_leg.ensures)

pub loop-i-init : goal.loop-i-init
unfolding gather
loop-i-init c =
    let a = c.args in
    record {
      k = 0;
      next = refl;
      vs = put_none a.vertices.now a.at.floats;
      ns = put_none a.normals.now a.at.floats;
      is = put_none a.indices.now a.at.index;
      here = c.walk_at-w.ensures;
      at_q = omega arith;
    }

pub walk_at-next-requires : goal.walk_at-next-requires
unfolding walk_at
walk_at-next-requires c =
    let i = c.loop-i.invariant in
    rw i.next (omega (arith, c.requires.room), ap (λ (x : Walk). x.out) i.here ∙ leg_next c.args.course.lane.points.now c.args.course.ks.now i.k (omega arith))

pub put_segment-j-requires : goal.put_segment-j-requires
unfolding indices_of walk_at
put_segment-j-requires c =
    let a = c.args in
    let l = lane_of a.course.lane in
    let i = c.loop-i.invariant in
    let before : c.loop-i.i - 1 ≡ i.k = omega arith in
    rw (before, ap (λ (x : Walk). x.rib) i.here, ap (λ (x : Walk). x.rib) (rw i.next at c.walk_at-next.ensures)) (omega (
      arith,
      c.requires.room,
      c.requires.ks_in_bounds,
      put_length i.is,
      i.is.ends,
      gather_fits (indices_at (a.at.floats / 3) l a.course.ks.now) i.k (length a.course.ks.now - 1) (omega arith),
    ))

pub loop-i-preserved : goal.loop-i-preserved
unfolding walk_at six_of
loop-i-preserved c =
    let a = c.args in
    let l = lane_of a.course.lane in
    let i = c.loop-i.invariant in
    let here = ap (λ (x : Walk). x.rib) i.here in
    let next = rw i.next at c.walk_at-next.ensures in
    let before : c.loop-i.i - 1 ≡ i.k = omega arith in
    let did = c.put_rib-q.ensures in
    record {
      k = i.k + 1;
      next = omega arith;
      vs = put_turn _ i.k i.vs (rw here at did.vertices_put);
      ns = put_turn _ i.k i.ns (rw here at did.normals_put);
      is = put_turn _ i.k i.is (rw (before, here, ap (λ (x : Walk). x.rib) next) at c.put_segment-j.ensures);
      here = next;
      at_q = omega (arith, did.vertices_put.ends, i.at_q);
    }

pub returns : goal.returns
unfolding vertices_of normals_of indices_of walk_at
returns c =
    let a = c.args in
    let l = lane_of a.course.lane in
    let i = c.loop-i.invariant in
    let here = ap (λ (x : Walk). x.rib) i.here in
    let e : i.k + 1 ≡ length a.course.ks.now = omega (arith, c.requires.room, c.loop-i.auto) in
    let f : i.k ≡ length a.course.ks.now - 1 = omega arith in
    let vs = put_turn _ i.k i.vs (rw here at c.put_rib.ensures.vertices_put) in
    let ns = put_turn _ i.k i.ns (rw here at c.put_rib.ensures.normals_put) in
    (rw e at vs, rw e at ns, rw f at i.is)
