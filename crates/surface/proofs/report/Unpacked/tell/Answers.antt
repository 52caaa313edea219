-- `surface::report::Unpacked::tell` meets its contract: what building answered picks the text. Assumes nothing.
use Rattle.surface.specs.Lent.{words_in}
use Rattle.surface.proofs.Reporting.{Built, built_refused, built_words, built, place_small, says_same}
use Rattle.surface.proofs.report.Unpacked.tell.Goals as goal
use Rattle.surface.proofs.report.Unpacked.tell.Goals.{In-Ok}

pub tell_refusal-requires : goal.tell_refusal-requires
tell_refusal-requires c = place_small _ c.args.self.surface.few c.args.self.meshed _ c.build.ensures.result_value c.in-Err.is

-- what the build leaves
left : (c : In-Ok) → Built (words_in c.args.self.surface) c.in-Ok.n c.build.new.index
left c = built _ c.args.self.surface.few c.args.self.meshed _ c.build.ensures.result_value c.in-Ok.is c.build.ensures.index_after

pub slice_bounds-index-end : goal.slice_bounds-index-end
slice_bounds-index-end c = (left (goal.at.slice_bounds-index-end c).In-Ok).fits

pub slice_bounds-tell_answers-end : goal.slice_bounds-tell_answers-end
slice_bounds-tell_answers-end c = (left (goal.at.slice_bounds-tell_answers-end c).In-Ok).part

pub tell_answers-requires : goal.tell_answers-requires
tell_answers-requires c =
    let z = left (goal.at.tell_answers-requires c).In-Ok in
    record { index_value = z.is; bytes_value = z.taken_so }

pub returns-in-Err : goal.returns-in-Err
returns-in-Err c =
    says_same (built_refused _ c.args.self.surface.few c.args.self.meshed _ c.build.ensures.result_value c.in-Err.is) c.tell_refusal.ensures

pub returns-in-Ok : goal.returns-in-Ok
returns-in-Ok c =
    says_same (built_words _ c.args.self.surface.few c.args.self.meshed _ c.build.ensures.result_value c.in-Ok.is) c.tell_answers.ensures
