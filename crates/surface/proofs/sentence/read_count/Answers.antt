-- `surface::sentence::read_count` meets its contract. Assumes nothing.
use Rattle.surface.specs.SentenceSteps.{then_on}
use Rattle.surface.proofs.Walking.{not_counted}
use Rattle.surface.proofs.sentence.read_count.Goals as goal

pub returns-then-count-at-clause-walked : goal.returns-then-count-at-clause-walked
unfolding then_on
returns-then-count-at-clause-walked c = λ t. not_counted t c.args.text.now c.args.at _ _ c.digits_at-count.ensures c.if-count-at.true
