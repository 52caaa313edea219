-- `surface::file::first_bad` meets its contract: no record before the one looked at is bad. Assumes nothing.
use Rattle.surface.specs.Kind.{number_before}
use Rattle.surface.specs.FileSteps.{record_in}
use Rattle.surface.proofs.Laws.Records.{Passed}
use Rattle.surface.proofs.file.first_bad.Given as goal

abbrev pub invariant-loop-k : goal.invariant-loop-k
invariant-loop-k g l =
    Passed g.R.Records.form (record_in g.R.Records.form (g.R.Records.bytes l.records) (g.R.Records.held l.records)) (number_before l.last) l.k
