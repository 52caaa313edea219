-- `surface::sentence::put_sentence` meets its contract. Assumes nothing.
use Rattle.std.proofs.Common.{◌≡◌, rules}
use Rattle.shape.specs.Verdict.{empty, out_of_range, verdict_of}
use Rattle.surface.specs.Sentence.{fill, sentence_of}
use Rattle.surface.proofs.Laws.Sentence.{sentence_few}
use Rattle.surface.proofs.sentence.put_sentence.Goals as goal

pub put-requires-in-Err-IndexOutOfRange : goal.put-requires-in-Err-IndexOutOfRange
unfolding sentence_of
put-requires-in-Err-IndexOutOfRange c =
    let r = c.in-Err-IndexOutOfRange in
    rw c.told-line (sentence_few (out_of_range r.t r.i r.n))

pub returns-in-Ok : goal.returns-in-Ok
unfolding verdict_of sentence_of fill
returns-in-Ok c = rw c.in-Ok.is c.put.ensures

pub returns-in-Err-Empty : goal.returns-in-Err-Empty
unfolding verdict_of sentence_of fill
returns-in-Err-Empty c =
    let e : verdict_of c.args.verdict ≡ empty = search rules in
    rw e c.put-in-Err-Empty.ensures

pub returns-in-Err-IndexOutOfRange : goal.returns-in-Err-IndexOutOfRange
unfolding verdict_of sentence_of
returns-in-Err-IndexOutOfRange c =
    let r = c.in-Err-IndexOutOfRange in
    let e : verdict_of c.args.verdict ≡ out_of_range r.t r.i r.n = search rules in
    rw e c.put-in-Err-IndexOutOfRange.ensures
