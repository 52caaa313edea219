-- A zero less is left, since one is put.
use Rattle.std.proofs.Common.{◌≡◌, ◌∙◌, suc, ◌+◌, ◌-◌, subst, replicate, arith}
use Rattle.stored.specs.Answers.{put_all, shown}
use Rattle.stored.proofs.answer.Answer.zeros.Goals as goal

pub loop-preserved : goal.loop-preserved
loop-preserved c =
    let e : c.args.n - c.loop.counter ≡ suc (c.args.n - (c.loop.counter + 1)) = omega arith in
    let h = subst (λ k. put_all (shown c.loop.self) (replicate k 0) ≡ put_all (shown c.args.self.now) (replicate c.args.n 0)) e c.loop.invariant.0 in
    (rw c.word.ensures.0 h, c.word.ensures.1 ∙ c.loop.invariant.1)
