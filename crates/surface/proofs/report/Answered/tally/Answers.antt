-- `surface::report::Answered::tally` meets its contract: so far the lines of the first k questions are counted. Assumes nothing.
use Rattle.std.proofs.Common.{◌≡◌, refl, arith}
use Rattle.shape.specs.Gather.{gather}
use Rattle.surface.specs.File.{words_of}
use Rattle.surface.specs.Held.{how_many, count_kind}
use Rattle.surface.specs.Report.{answered_at}
use Rattle.surface.proofs.Laws.Held.{how_many_le}
use Rattle.surface.proofs.Laws.Report.{lines_few}
use Rattle.surface.proofs.Telling.{asked_are, next_size, next_found}
use Rattle.surface.proofs.report.Answered.tally.Goals as goal

pub loop-k-init : goal.loop-k-init
unfolding gather how_many
loop-k-init c = (refl, refl)

pub counted-totals-requires : goal.counted-totals-requires
counted-totals-requires c =
    let ws = words_of c.args.self.surface.bytes.now in
    let l = c.loop-k in
    (omega arith, omega (arith, lines_few ws l.k), omega (arith, how_many_le (answered_at ws) l.k))

pub loop-k-preserved : goal.loop-k-preserved
loop-k-preserved c =
    let ws = words_of c.args.self.surface.bytes.now in
    let l = c.loop-k in
    let t = c.line_at.ensures in
    let e = c.counted-totals.ensures in
    (next_size ws l.k t _ _ l.invariant.0 e.0, next_found ws l.k t _ _ l.invariant.1 e.1)

pub returns : goal.returns
returns c =
    let l = c.loop-k in
    let e : l.k ≡ count_kind (words_of c.args.self.surface.bytes.now) 3 = omega (arith, asked_are c.args.self.asked) in
    record { lengths = rw e at l.invariant.0; answers = rw e at l.invariant.1 }
