-- `shape::strip::put_strip` meets its contract. Assumes nothing.
use Rattle.std.proofs.Common.{◌≡◌, ℕ, Bool, false, ◌==◌, length, sym, ap, ◌∙◌, arith, true≢false, eq-eqb, eqb-true}
use Rattle.shape.specs.Strip.{lane_of, kept}
use Rattle.shape.proofs.Meshing.{ribs_room, indices_room, span_room, wrote, wrote_none}
use Rattle.shape.proofs.strip.put_strip.Goals as goal

-- there are some
some : {n : ℕ} {b : Bool} → b ≡ (n == 0) → b ≡ false → n ≡ 0 → ⊥
some e f z = true≢false (sym (eq-eqb _ 0 z) ∙ sym e ∙ f)

pub returns-then-is_empty : goal.returns-then-is_empty
unfolding kept
returns-then-is_empty c =
    let e = c.weld-course.ensures.course.1 in
    wrote_none (lane_of c.args.lane) (sym (ap length e) ∙ eqb-true _ 0 (sym c.is_empty.ensures ∙ c.if-is_empty.true))

pub put_ribs-to-requires : goal.put_ribs-to-requires
unfolding kept
put_ribs-to-requires c =
    let e = c.weld-course.ensures.course in
    let room = ribs_room c.requires.room e.1 in
    let s = some c.is_empty.ensures c.if-is_empty.false in
    rw e.0 (record { room = (omega (arith, s), room.0, room.1, room.2); ks_in_bounds = indices_room c.requires.room e.1 })

pub put_span-word-requires : goal.put_span-word-requires
unfolding kept
put_span-word-requires c =
    let e = c.weld-course.ensures.course in
    let to = rw e.0 at c.put_ribs-to.ensures in
    let r = c.put_ribs-to.result in
    span_room c.requires.room e.1 c.args.id r.floats r.index (some c.is_empty.ensures c.if-is_empty.false) c.requires.points_len_bound.1 to.0.ends to.2.ends

pub returns : goal.returns
unfolding kept
returns c =
    let e = c.weld-course.ensures.course in
    let to = rw e.0 at c.put_ribs-to.ensures in
    let r = c.put_ribs-to.result in
    wrote (lane_of c.args.lane) c.args.at e.1 c.args.id r.floats r.index c.put_span-word.result (some c.is_empty.ensures c.if-is_empty.false)
    to.0 to.1 to.2 c.put_span-word.ensures
