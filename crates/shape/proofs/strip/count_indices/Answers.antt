-- `shape::strip::count_indices` meets its contract: so far the indices of the first k segments are counted. Assumes nothing.
use Rattle.std.proofs.Common.{◌≡◌, ◌+◌, ◌-◌, ◌*◌, length, refl, ap, ◌∙◌, arith, length-append}
use Rattle.shape.specs.declared.rib.Walk.{Walk}
use Rattle.shape.specs.Gather.{gather}
use Rattle.shape.specs.Strip.{lane_of, leg_in, indices_at, indices_of}
use Rattle.shape.specs.MeshSteps.{walk_at}
use Rattle.shape.proofs.Laws.Gather.{gather_next}
use Rattle.shape.proofs.Strips.{leg_next}
use Rattle.shape.proofs.strip.count_indices.Goals as goal

pub walk_at-w-requires : goal.walk_at-w-requires
unfolding leg_in
walk_at-w-requires c = (omega arith, c.no_leg.ensures)

pub loop-i-init : goal.loop-i-init
unfolding gather
loop-i-init c = record { k = 0; next = refl; sum = λ v. refl; here = c.walk_at-w.ensures; most = omega arith; few = omega arith }

pub walk_at-next-requires : goal.walk_at-next-requires
unfolding walk_at
walk_at-next-requires c =
    let i = c.loop-i.invariant in
    rw i.next (omega arith, ap (λ (x : Walk). x.out) i.here ∙ leg_next c.args.course.lane.points.now c.args.course.ks.now i.k (omega arith))

pub loop-i-preserved : goal.loop-i-preserved
unfolding walk_at
loop-i-preserved c =
    let a = c.args in
    let l = lane_of a.course.lane in
    let i = c.loop-i.invariant in
    let next = rw i.next at c.walk_at-next.ensures in
    record {
      k = i.k + 1;
      next = omega arith;
      sum = λ v. rw (
        gather_next (indices_at v l a.course.ks.now) i.k,
        length-append,
        ← (i.sum v),
        ← (ap (λ (x : Walk). x.rib) i.here),
        ← (ap (λ (x : Walk). x.rib) next),
        ← (c.count_segment-q.ensures.0 (v + 2 * i.k)),
      );
      here = next;
      most = omega arith;
      few = omega (arith, c.count_segment-q.ensures.1);
    }

pub returns-clause-by_index : goal.returns-clause-by_index
unfolding indices_of
returns-clause-by_index c =
    let i = c.loop-i.invariant in
    let e : i.k ≡ length c.args.course.ks.now - 1 = omega (arith, i.most) in
    λ v. rw (← e) (i.sum v)
