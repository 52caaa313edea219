-- `lookup::lane::Spans::half` meets its contract: the end of the span in the middle picks the half. Assumes nothing.
use Rattle.std.proofs.Common.{refl}
use Rattle.lookup.proofs.Search.{half}
use Rattle.lookup.proofs.lane.Spans.half.Goals as goal

pub returns-clause-halved_again : goal.returns-clause-halved_again
returns-clause-halved_again c =
    let a = c.args in
    half a.self.words.now a.i _ a.p.low a.p.size _ c.moved.result a.self.rise c.requires c.if-p-lt2.false refl
    c.moved.ensures
