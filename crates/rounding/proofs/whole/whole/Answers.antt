-- `rounding::whole::whole` meets its contract: each case is a law of `proofs/Special.antt`. Assumes nothing.
use Rattle.std.proofs.Common.{◌*◌, ◌<◌, Bool, false, ◌∙◌, arith}
use lib.Ieee.{hid, ones}
use Rattle.rounding.proofs.Ordered.{ne_test}
use Rattle.rounding.proofs.Sign.{nan_whole}
use Rattle.rounding.proofs.Special.{whole_past, signed_room, signed_word, fits_word}
use Rattle.rounding.proofs.whole.whole.Goals as goal

pub returns-then-ne : goal.returns-then-ne
returns-then-ne g c = nan_whole _ _ _ (ne_test g.met.T.Binary.compared c.args.x c.args.x c.ne.ensures c.if-ne.true)

pub returns-then-size-INFINITY : goal.returns-then-size-INFINITY
returns-then-size-INFINITY g c =
    let s = c.size-size.ensures in
    whole_past _ _ s.held _ (rw (s.value, c.INFINITY.ensures, g.met.T.Binary.laid_out.infinity_is) at c.if-size-INFINITY.true)

pub overflow_add-sign : goal.overflow_add-sign
overflow_add-sign g c =
    let f = g.T.Binary.format in
    let x = g.T.Binary.float c.args.x in
    let r = signed_room f x c.size-size.ensures.held c.whole_bits.result (c.whole_bits.ensures false).finite in
    let w = fits_word f in
    rw (c.bits.ensures.value, c.SIGN.ensures, g.met.T.Binary.laid_out.sign_is) (omega arith)

pub returns : goal.returns
returns g c =
    let f = g.T.Binary.format in
    let o = g.met.T.Binary.laid_out in
    let s = c.size-size.ensures in
    let w = c.way_by in
    let l : c.size-size.result < ones f * hid f = omega (arith, o.infinity_is) in
    c.of_bits.ensures
    ∙ rw (c.bits.ensures.value, c.SIGN.ensures, o.sign_is)
    (signed_word f _ s.held c.args.plus c.args.minus w.result c.whole_bits.result (rw s.value at l) (rw (c.bits.ensures.value, c.SIGN.ensures, o.sign_is) at w.ensures)
    (λ (g : Bool). rw s.value at (c.whole_bits.ensures g)))
