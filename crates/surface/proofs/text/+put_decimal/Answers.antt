-- `surface::text::put_decimal` meets its contract. Assumes nothing.
use Rattle.std.proofs.Common.{◌/◌, ◌<◌, arith}
use Rattle.shape.proofs.Laws.Memory.{put_length}
use Rattle.surface.proofs.Laws.Text.{decimal_one, decimal_more, digits_one}
use Rattle.surface.proofs.Texts.{digits_last}
use Rattle.surface.proofs.text.+put_decimal.Goals as goal

pub put-requires : goal.put-requires
put-requires t c = omega (arith, decimal_one c.args.n c.if-n-lt10.true)

pub returns-then-n-lt10 : goal.returns-then-n-lt10
returns-then-n-lt10 t c = λ k h. rw (← (digits_one k c.args.n c.if-n-lt10.true)) c.put.ensures

pub put_decimal-next-requires : goal.put_decimal-next-requires
put_decimal-next-requires t c =
    let e = decimal_more c.args.n c.if-n-lt10.false (omega arith) in
    (omega arith, omega (arith, e))

pub put-requires-2 : goal.put-requires-2
put-requires-2 t c =
    let n = c.args.n in
    let b : n / 10 < 10000000000 = omega arith in
    let p = c.put_decimal-next.ensures 9 b in
    let e = decimal_more n c.if-n-lt10.false (omega arith) in
    omega (arith, e, p.ends, put_length p)

pub returns : goal.returns
returns t c = digits_last _ _ _ _ _ _ c.args.n c.if-n-lt10.false c.put_decimal-next.ensures c.put-2.ensures
