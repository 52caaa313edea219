-- `joining::join::put_moved` meets its contract: one number more stands there. Assumes nothing.
use Rattle.std.proofs.Common.{◌≡◌, ◌≤◌, length, take_all, arith}
use Rattle.shape.proofs.Laws.Memory.{put_element}
use Rattle.joining.specs.Join.{indices_up}
use Rattle.joining.proofs.Laws.Moved.{indices_length, indices_at}
use Rattle.joining.proofs.join.put_moved.Goals as goal

pub loop-k-preserved : goal.loop-k-preserved
loop-k-preserved c =
    let a = c.args in
    let k = c.loop-k.k in
    let h = c.loop-k-test.true in
    rw (indices_at a.up a.xs.now k h) at (put_element (indices_up a.up a.xs.now) a.out.now c.loop-k.out a.at k 0 (rw (indices_length a.up a.xs.now) h) c.loop-k.invariant)

pub returns : goal.returns
returns c =
    let a = c.args in
    let e : c.loop-k.k ≡ length a.xs.now = omega arith in
    let h : length (indices_up a.up a.xs.now) ≤ c.loop-k.k = omega (arith, indices_length a.up a.xs.now) in
    rw (take_all c.loop-k.k (indices_up a.up a.xs.now) h, e) at c.loop-k.invariant
