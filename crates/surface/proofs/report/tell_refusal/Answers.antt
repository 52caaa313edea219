-- `surface::report::tell_refusal` meets its contract, by the room that there is. Assumes nothing.
use Rattle.std.specs.Prelude.{◌≡◌, Err, length}
use Rattle.std.proofs.Common.{◌∙◌, ap, rules, arith}
use Rattle.shape.specs.Refusal.{found, refuse}
use Rattle.surface.proofs.Reporting.{says_short, says_whole}
use Rattle.surface.proofs.report.tell_refusal.Goals as goal

pub returns-in_err-refuse_if : goal.returns-in_err-refuse_if
unfolding found refuse
returns-in_err-refuse_if c =
    let t = rw (c.number.ensures.0, c.place.ensures) at c.refused-line.ensures in
    let h : c.from_residual.result ≡ Err c.in_err-refuse_if.field-0.0 = search rules in
    says_short c.args.text.now (c.length-size.ensures.0 ∙ ap length t) h (grind arith) c.in_err-refuse_if.ensures

pub put-requires : goal.put-requires
unfolding found refuse
put-requires c = grind arith

pub returns : goal.returns
unfolding found refuse
returns c =
    let t = rw (c.number.ensures.0, c.place.ensures) at c.refused-line.ensures in
    says_whole c.args.text.now (c.length-size.ensures.0 ∙ ap length t) (grind arith) (rw t at c.put.ensures)
