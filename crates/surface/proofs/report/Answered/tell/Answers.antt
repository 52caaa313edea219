-- `surface::report::Answered::tell` meets its contract, by the room that there is. Assumes nothing.
use Rattle.std.specs.Prelude.{◌≡◌, ◌+◌, Err, length}
use Rattle.std.proofs.Common.{◌∙◌, ap, refl, rules, arith}
use Rattle.shape.specs.Refusal.{found, refuse}
use Rattle.surface.specs.File.{words_of}
use Rattle.surface.specs.Held.{count_kind}
use Rattle.surface.specs.Report.{lines_of}
use Rattle.surface.proofs.Laws.Report.{lines_few}
use Rattle.surface.proofs.Telling.{asked_are, text_size}
use Rattle.surface.proofs.Reporting.{says_short, says_whole}
use Rattle.surface.proofs.report.Answered.tell.Goals as goal
use Rattle.surface.proofs.report.Answered.tell.Goals.{After-length}

pub overflow_add-wanted : goal.overflow_add-wanted
overflow_add-wanted c =
    let ws = words_of c.args.self.surface.bytes.now in
    omega (arith, c.tally-totals.ensures.lengths, lines_few ws (count_kind ws 3), asked_are c.args.self.asked, c.length.ensures.1)

-- the length of the text
size : (c : After-length) → c.tally-totals.result.size + c.length.result ≡ length (lines_of (words_of c.args.self.surface.bytes.now))
size c = text_size (words_of c.args.self.surface.bytes.now) c.tally-totals.ensures (asked_are c.args.self.asked) (c.length.ensures.0 ∙ ap length c.asked-last.ensures) refl

pub returns-in_err-refuse_if : goal.returns-in_err-refuse_if
unfolding found refuse
returns-in_err-refuse_if c =
    let h : c.from_residual.result ≡ Err c.in_err-refuse_if.field-0.0 = search rules in
    says_short c.args.text.now (size (goal.at.returns-in_err-refuse_if c).After-length) h (grind arith) c.in_err-refuse_if.ensures

pub put_lines-requires : goal.put_lines-requires
unfolding found refuse
put_lines-requires c =
    record { found_value = c.tally-totals.ensures.answers; bytes_in_bounds = rw (← size (goal.at.put_lines-requires c).After-length) (grind arith) }

pub returns : goal.returns
unfolding found refuse
returns c =
    says_whole c.args.text.now (size (goal.at.returns c).After-length) (grind arith) c.put_lines.ensures
