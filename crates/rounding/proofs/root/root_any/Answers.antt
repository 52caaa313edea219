-- `rounding::root::root_any` meets its contract: each case is a law of `proofs/Special.antt`. Assumes nothing.
use Rattle.std.proofs.Common.{◌*◌, ◌<◌, ◌≤◌, sym, ◌∙◌, arith}
use lib.Ieee.{to_bits, hid, ones}
use Rattle.rounding.proofs.Special.{nan_past, same_rooted, minus_rooted, bits_rooted}
use Rattle.rounding.proofs.root.root_any.Goals as goal
use Rattle.rounding.proofs.root.root_any.Goals.{else-b-gt0-via-then-b-gt0+else-b-INFINITY, else-b-gt0-via-else-b-gt0}

pub returns-then-b-INFINITY : goal.returns-then-b-INFINITY
returns-then-b-INFINITY g c =
    let b = c.bits-b.ensures in
    c.of_bits.ensures ∙ bits_rooted _ _ b.held _ (rw b.value at c.root_bits.ensures)

pub returns-then-b-SIGN : goal.returns-then-b-SIGN
returns-then-b-SIGN g c =
    let o = g.met.T.Binary.laid_out in
    let f = g.T.Binary.format in
    let b = c.bits-b.ensures in
    let x = g.T.Binary.float c.args.x in
    let past : 0 < to_bits f x → ones f * hid f ≤ to_bits f x = λ p. elim c.else-b-gt0.branch [
      | else-b-gt0-via-then-b-gt0+else-b-INFINITY w ↦ omega (arith, b.value, w.INFINITY.ensures, o.infinity_is, w.if-b-INFINITY.false)
      | else-b-gt0-via-else-b-gt0 w ↦ omega (arith, b.value, w.if-b-gt0.false)
    ] in
    same_rooted f x b.held (omega (arith, b.value, c.SIGN.ensures, o.sign_is)) past

pub returns : goal.returns
returns g c =
    let o = g.met.T.Binary.laid_out in
    let f = g.T.Binary.format in
    let b = c.bits-b.ensures in
    c.of_bits-2.ensures ∙ rw (c.INFINITY-2.ensures, o.infinity_is) (nan_past f)
    ∙ sym (minus_rooted f _ b.held (omega (arith, b.value, c.SIGN.ensures, o.sign_is)))
