-- `surface::sentence::digits_at` meets its contract. Assumes nothing.
use Rattle.std.proofs.Common.{◌∙◌, arith}
use Rattle.surface.proofs.Walking.{digit_on, digit_off, digit_over}
use Rattle.surface.proofs.sentence.digits_at.Goals as goal

pub loop-end-preserved : goal.loop-end-preserved
loop-end-preserved c =
    let l = c.loop-end in
    (l.invariant.0 ∙ digit_on c.args.text.now c.args.at l.end l.value l.invariant.1 c.loop-end-test.true c.in-Some.more c.in-Some.ensures, omega arith, omega arith)

pub returns-in_default : goal.returns-in_default
returns-in_default c =
    let l = c.loop-end in
    let off = digit_off c.args.text.now c.args.at l.end l.value l.invariant.1 c.loop-end-test.true c.in_default.ensures in
    record { read = l.invariant.0 ∙ off; from = l.invariant.1; within = l.invariant.2 }

pub returns : goal.returns
returns c =
    let l = c.loop-end in
    let over = digit_over c.args.text.now c.args.at l.end l.value c.loop-end-test.false in
    record { read = l.invariant.0 ∙ over; from = l.invariant.1; within = l.invariant.2 }
