-- `joining::join::Parts::put_spans` meets its contract: the first part's are copied, and the second's moved up behind them. Assumes nothing.
use Rattle.std.proofs.Common.{refl, ◌∙◌, arith, length-take-le}
use Rattle.shape.specs.Lists.{lists_of}
use Rattle.shape.proofs.Laws.Memory.{copied}
use Rattle.joining.proofs.Putting.{front_put}
use Rattle.joining.proofs.Joining.{spans_fit, spans_put}
use Rattle.joining.proofs.join.Parts.put_spans.Goals as goal

pub put_spans-requires-clause-fits : goal.put_spans-requires-clause-fits
put_spans-requires-clause-fits c =
    let s = c.args.self in
    rw c.points-v.ensures (spans_fit (lists_of s.first) (lists_of s.second) s.sound)

pub returns : goal.returns
returns c =
    let s = c.args.self in
    let first = c.copy-v.ensures in
    spans_put (lists_of s.first) (lists_of s.second)
    (front_put c.args.out.now (first.out_after ∙ copied _ _ _ first.value (length-take-le _ _ (omega arith))) refl (omega arith))
    (rw c.points-v.ensures at c.put_spans.ensures)
