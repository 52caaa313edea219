-- `surface::report::Answered::tally` meets its contract: so far the lines of the first k questions are counted. Assumes nothing.
use Rattle.std.proofs.Common.{◌≡◌, length}
use Rattle.shape.specs.Gather.{gather}
use Rattle.surface.specs.File.{words_of}
use Rattle.surface.specs.Held.{how_many}
use Rattle.surface.specs.Report.{line_at, answered_at}
use Rattle.surface.proofs.report.Answered.tally.Given as goal

abbrev pub invariant-loop-k : goal.invariant-loop-k
invariant-loop-k l =
    let ws = words_of l.self.surface.bytes.now in
    (l.totals.size ≡ length (gather (line_at ws) l.k)) × (l.totals.found ≡ how_many (answered_at ws) l.k)
