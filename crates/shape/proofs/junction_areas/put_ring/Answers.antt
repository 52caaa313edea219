-- `shape::junction_areas::put_ring` meets its contract. Assumes nothing.
use Rattle.std.proofs.Common.{◌≡◌, ◌+◌, ◌*◌, length, arith}
use Rattle.shape.specs.Gather.{gather}
use Rattle.shape.specs.Outline.{place_from, flat, reversed_at, reversed}
use Rattle.shape.specs.OutlineSteps.{points_of}
use Rattle.shape.proofs.Laws.Memory.{put_none, put_then}
use Rattle.shape.proofs.Joining.{points_count, points_at, reversed_next}
use Rattle.shape.proofs.junction_areas.put_ring.Goals as goal

pub loop-i-init : goal.loop-i-init
unfolding gather flat
loop-i-init c = put_none _ 0

pub loop-i-preserved : goal.loop-i-preserved
unfolding reversed_at flat
loop-i-preserved c =
    let a = c.args in
    let ring = points_of a.ring.now in
    let n = points_count a.ring.now in
    let e : c.put.result ≡ 3 * (c.loop-i.i + 1) = omega (arith, c.put.ensures.ends) in
    rw (reversed_next a.back ring c.loop-i.i, ← e) (put_then c.loop-i.invariant
    (rw (c.point_at-p.ensures, c.place.ensures.0, ← n, points_at a.ring.now (place_from a.back (length ring) c.loop-i.i)) at c.put.ensures))

pub returns : goal.returns
unfolding reversed
returns c = let k : c.loop-i.i ≡ length (points_of c.args.ring.now) = omega (arith, points_count c.args.ring.now) in rw k at c.loop-i.invariant.memory
