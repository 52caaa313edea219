-- What is left to put gives what all would have given.
use Rattle.std.proofs.Common.{◌≡◌, ◌-◌, replicate}
use Rattle.stored.specs.Answers.{put_all, shown}
use Rattle.stored.proofs.answer.Answer.zeros.Given as goal

abbrev pub invariant-loop : goal.invariant-loop
invariant-loop l =
    (put_all (shown l.self) (replicate (l.n - l.counter) 0) ≡ put_all (shown l.initial.self) (replicate l.n 0))
    × (l.self.made.ghost_name ≡ l.initial.self.made.ghost_name)
