-- `shape::junction_areas::finish` meets its contract. Assumes nothing.
use Rattle.std.proofs.Common.{◌≡◌, ap, arith, length-take, rules, Err}
use lib.Ieee.{Float, lt}
use Rattle.vector.specs.Single.{0f}
use Rattle.shape.specs.Outline.{whole_line, ring_of, turned_of}
use Rattle.shape.specs.Refusal.{found, number_of, place_of}
use Rattle.shape.proofs.Joining.{open_part, widest_is, short_told, room, ring_made}
use Rattle.shape.proofs.junction_areas.finish.Goals as goal

pub returns-in_err-refuse_if : goal.returns-in_err-refuse_if
unfolding ring_of number_of place_of
returns-in_err-refuse_if c =
    let h : c.from_residual.result ≡ Err c.in_err-refuse_if.field-0.0 = search rules in
    λ ws xs e r g d. rw h (short_told ws xs c.args.out.now _ c.open_count-count.result e (rw r at c.open_count-count.ensures.0) c.in_err-refuse_if.ensures)

pub put_ring-requires : goal.put_ring-requires
unfolding found number_of place_of
put_ring-requires c = let r = room c.args.out.now c.open_count-count.result c.in_ok-refuse_if.ensures in simp length-take (omega arith)

pub returns : goal.returns
unfolding ring_of turned_of found number_of place_of
returns c =
    λ ws xs e r g d.
    let a = c.args in
    let n = c.open_count-count.ensures.0 in
    let part = rw r at (open_part a.ring.now _ n) in
    let t = ap (λ (x : Float). lt x 0f) (rw part at c.signed_area-turned.ensures) in
    ring_made ws xs a.out.now _ c.open_count-count.result a.dropped c.max-widest.result _ e (rw r at n) (room a.out.now _ c.in_ok-refuse_if.ensures) d
    (widest_is (whole_line ws xs) a.ring.now a.gap _ _ _ _ r g c.max-widest.ensures c.reach.ensures
    c.final_point.ensures c.first_point.ensures) t
    (rw part at c.put_ring.ensures)
