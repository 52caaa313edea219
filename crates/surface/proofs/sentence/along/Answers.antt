-- `surface::sentence::along` meets its contract. Assumes nothing.
use Rattle.std.proofs.Common.{◌∙◌, arith}
use Rattle.surface.proofs.Walking.{word_turn}
use Rattle.surface.proofs.sentence.along.Goals as goal

pub loop-k-preserved : goal.loop-k-preserved
loop-k-preserved c = (λ t. c.loop-k.invariant.0 t ∙ word_turn t c.args.text.now c.args.word.now c.args.at c.loop-k.k c.loop-k-test.true c.if-text-at.false c.if-text-at-2.false, omega arith)
