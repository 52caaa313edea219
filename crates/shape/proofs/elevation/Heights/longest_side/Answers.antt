-- `shape::elevation::Heights::longest_side` meets its contract: so far every row was in order, or the pass stops. Assumes nothing.
use Rattle.std.proofs.Common.{◌≡◌, length, arith}
use Rattle.shape.specs.Elevation.{row_count}
use Rattle.shape.proofs.Surveys.{seen_start, seen_next, odd_left, odd_right, seen_all, seen_odd}
use Rattle.shape.proofs.elevation.Heights.longest_side.Goals.{then-not-in_order-via-then-not-in_order, then-not-in_order-via-else-not-in_order+then-not-in_order-2}
use Rattle.shape.proofs.elevation.Heights.longest_side.Goals as goal

pub loop-k-init : goal.loop-k-init
loop-k-init c = seen_start _ _ _

pub returns-then-not-in_order : goal.returns-then-not-in_order
returns-then-not-in_order c =
    let h = c.args.self in
    let l = length h.left.now in
    let r = length h.right.now in
    let m = row_count h.rows.now in
    let seen = c.loop-k.invariant in
    let here = c.row-here.ensures in
    seen_odd h.rows.now l r
    (elim c.then-not-in_order.branch [
      | then-not-in_order-via-then-not-in_order w ↦
          odd_left h.rows.now l r seen here m (omega arith) c.in_order.ensures w.if-not-in_order.true
      | then-not-in_order-via-else-not-in_order+then-not-in_order-2 w ↦
          odd_right h.rows.now l r seen here m (omega arith) w.in_order-else-not-in_order.ensures w.if-not-in_order-2.true
    ])

pub loop-k-preserved : goal.loop-k-preserved
loop-k-preserved c =
    seen_next _ _ _ c.loop-k.invariant c.row-here.ensures c.in_order.ensures c.if-not-in_order.false
    c.in_order-else-not-in_order.ensures c.if-not-in_order-2.false (cc)

pub returns : goal.returns
returns c =
    let h = c.args.self in
    let e : c.loop-k.k ≡ row_count h.rows.now = omega arith in
    seen_all h.rows.now (length h.left.now) (length h.right.now) (rw e at c.loop-k.invariant)
