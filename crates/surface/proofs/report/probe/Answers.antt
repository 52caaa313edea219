-- `surface::report::probe` meets its contract: there is always room. Assumes nothing.
use Rattle.std.specs.Prelude.{◌≡◌, ◌≤◌, length}
use Rattle.std.proofs.Common.{◌∙◌, arith}
use Rattle.surface.specs.Report.{report_of}
use Rattle.surface.proofs.Reporting.{printed_is, printed_text}
use Rattle.surface.proofs.report.probe.Goals as goal

pub returns : goal.returns
returns c =
    let room : 204834 ≤ length c.args.text.now = omega (arith, c.told-text) in
    let z = printed_is c.args.bytes.now c.args.text.now room c.report.ensures.result_value in
    let n : c.unwrap_or.result ≡ length (report_of c.args.bytes.now) = c.unwrap_or.ensures ∙ rw z in
    record { value = n; text_after = rw n (printed_text c.args.bytes.now c.args.text.now room c.report.ensures.text_after) }
