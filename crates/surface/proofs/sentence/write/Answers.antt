-- `surface::sentence::write` meets its contract. Assumes nothing.
use Rattle.std.proofs.Common.{◌≡◌, ◌≤◌, rules, length, take, sym, arith, length-take-le}
use Rattle.shape.specs.Verdict.{verdict_of}
use Rattle.shape.specs.Refusal.{found, refuse, judge, taken}
use Rattle.shape.proofs.Laws.Memory.{put_front, put_length}
use Rattle.surface.specs.File.{copy_of}
use Rattle.surface.specs.Sentence.{sentence_answer, sentence_of}
use Rattle.surface.proofs.Copies.{leaves_put}
use Rattle.surface.proofs.Laws.Sentence.{sentence_few}
use Rattle.surface.proofs.sentence.write.Goals as goal

pub slice_bounds-put-end : goal.slice_bounds-put-end
slice_bounds-put-end c =
    let p = c.put_sentence-n.ensures in
    sym (length-take-le c.put_sentence-n.result c.put_sentence-n.new.line (omega (arith, p.ends, put_length p, sentence_few (verdict_of c.args.verdict))))

pub returns-clause-text_after : goal.returns-clause-text_after
unfolding found refuse judge copy_of sentence_answer
returns-clause-text_after c =
    let v = verdict_of c.args.verdict in
    let p = c.put_sentence-n.ensures in
    let m : c.put_sentence-n.result ≤ 84 = omega (arith, p.ends, sentence_few v) in
    let f : take c.put_sentence-n.result c.put_sentence-n.new.line ≡ sentence_of v = put_front p (omega (arith, m)) in
    let t : taken c.put_sentence-n.result ≡ sentence_answer v (length c.args.text.now) = search rules in
    leaves_put t (grind (arith, p.ends)) (rw f at c.put.ensures)
