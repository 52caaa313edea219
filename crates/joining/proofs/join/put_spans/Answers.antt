-- `joining::join::put_spans` meets its contract: one span more stands there. Assumes nothing.
use Rattle.std.proofs.Common.{◌≡◌, ◌+◌, ◌*◌, ◌/◌, length, add-zero, arith}
use Rattle.shape.specs.Gather.{gather}
use Rattle.shape.specs.Lists.{word_of}
use Rattle.shape.proofs.Laws.Memory.{put_none, put_turn, put_over}
use Rattle.joining.specs.Join.{span_up, spans_up}
use Rattle.joining.proofs.join.put_spans.Goals as goal

pub loop-k-init : goal.loop-k-init
unfolding gather
loop-k-init c = rw (add-zero c.args.at) (put_none c.args.out.now c.args.at)

pub loop-k-preserved : goal.loop-k-preserved
unfolding span_up word_of
loop-k-preserved c =
    let a = c.args in
    let k = c.loop-k.k in
    put_turn (span_up a.v a.i a.spans.now) k c.loop-k.invariant
    (put_over c.loop-k.out (a.at + 5 * k) _ (rw (add-zero (5 * k)) c.copy_from_slice.ensures.after) (omega arith) (omega arith) (omega arith))

pub returns : goal.returns
unfolding spans_up
returns c =
    let e : c.loop-k.k ≡ length c.args.spans.now / 5 = omega arith in
    rw e at c.loop-k.invariant
