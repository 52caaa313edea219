-- `surface::report::Answered::line_at` meets its contract: the record tells the line. Assumes nothing.
use Rattle.std.specs.Prelude.{◌≡◌, [], ◌/◌, ◌<◌, length, get_or}
use Rattle.std.proofs.Common.{refl, arith}
use Rattle.lookup.specs.Batch.{record_words}
use Rattle.surface.specs.File.{words_of}
use Rattle.surface.specs.ReportSteps.{record_in}
use Rattle.surface.proofs.Telling.{record_is, tells_none, tells_found}
use Rattle.surface.proofs.report.Answered.line_at.Goals as goal
use Rattle.surface.proofs.report.Answered.line_at.Goals.{After-as_chunks}

-- the record that is read is that of the question
read : (c : After-as_chunks) → get_or c.as_chunks.result.0.now c.args.k [] ≡ record_in (words_of c.args.self.surface.bytes.now) c.args.k
read c =
    let a = c.args in
    let l : a.k < length a.self.records.now / record_words = omega (arith, a.self.whole, c.requires) in
    rw c.as_chunks.ensures.front (record_is a.self.asked c.requires _ l)

pub returns-then-found-eq0 : goal.returns-then-found-eq0
returns-then-found-eq0 c = tells_none _ _ (read (goal.at.returns-then-found-eq0 c).After-as_chunks) c.if-found-eq0.true

pub returns : goal.returns
returns c =
    tells_found _ _ (read (goal.at.returns c).After-as_chunks) _ c.if-found-eq0.false c.from_bits32-4.ensures c.from_bits32.ensures c.from_bits32-2.ensures c.from_bits32-3.ensures refl
    c.lane_of-lane.ensures
