-- `surface::report::report` meets its contract: what was said of the file picks the text. Assumes nothing.
use Rattle.surface.proofs.Reporting.{file_place, file_refused, file_sound, file_text, says_same, reported}
use Rattle.surface.proofs.report.report.Goals as goal

pub tell_refusal-requires : goal.tell_refusal-requires
tell_refusal-requires c =
    file_place c.args.bytes.now c.file_fault.ensures c.in-Err.is

pub returns-in-Err : goal.returns-in-Err
returns-in-Err c =
    let bs = c.args.bytes.now in
    let r = reported bs c.args.text.now (says_same (file_refused bs c.file_fault.ensures c.in-Err.is) c.tell_refusal.ensures) in
    record { result_value = r.0; text_after = r.1 }

pub new-requires : goal.new-requires
new-requires c =
    file_sound c.args.bytes.now c.file_fault.ensures c.in-Ok.is

pub returns-in-Ok : goal.returns-in-Ok
returns-in-Ok c =
    let bs = c.args.bytes.now in
    let r = reported bs c.args.text.now (says_same (file_text bs c.file_fault.ensures c.in-Ok.is) (rw c.new.ensures at c.tell_surface.ensures)) in
    record { result_value = r.0; text_after = r.1 }
