-- `surface::report::Unpacked::tell_answers` meets its contract: the call is taken, and leaves the records. Assumes nothing.
use native.Mathlib.Omega.{arith}
use Rattle.surface.specs.Lent.{words_in}
use Rattle.surface.specs.ReportSteps.{Asked}
use Rattle.surface.proofs.Telling.{asked_length}
use Rattle.surface.proofs.Reporting.{never_turned_back, Looked, looked}
use Rattle.surface.proofs.report.Unpacked.tell_answers.Goals as goal
use Rattle.surface.proofs.report.Unpacked.tell_answers.Goals.{In_ok-n}

-- what the call leaves
left : (c : In_ok-n) → Looked (words_in c.args.self.surface) c.in_ok-n.n c.tops.new.answers
left c =
    let a = c.args.self in
    looked _ a.surface.few a.meshed a.pointed c.requires.index_value c.requires.bytes_value _ c.tops.ensures.result_value c.in_ok-n.was c.tops.ensures.answers_after

pub overflow_mul-records : goal.overflow_mul-records
overflow_mul-records c = omega (arith, (left (goal.at.overflow_mul-records c).In_ok-n).most)

pub slice_bounds-records-end : goal.slice_bounds-records-end
slice_bounds-records-end c = (left (goal.at.slice_bounds-records-end c).In_ok-n).fits

pub slice_bounds-answered-end : goal.slice_bounds-answered-end
slice_bounds-answered-end c = (left (goal.at.slice_bounds-answered-end c).In_ok-n).part

pub invariant_of-answered : goal.invariant_of-answered
invariant_of-answered c =
    let s : Asked _ _ _ = record { few = c.args.self.surface.few; sized = c.args.self.surface.sized; records = (left (goal.at.invariant_of-answered c).In_ok-n).records } in
    record { asked = s; whole = asked_length s }

pub returns-in_err-n : goal.returns-in_err-n
returns-in_err-n c =
    let a = c.args.self in
    absurd (never_turned_back _ a.surface.few a.meshed a.pointed c.requires.index_value c.requires.bytes_value _ c.tops.ensures.result_value c.in_err-n.was)
