-- What is left to put gives what all would have given.
use Rattle.std.proofs.Common.{◌≡◌, drop}
use Rattle.stored.specs.Answers.{put_all, shown}
use Rattle.stored.proofs.answer.Answer.words.Given as goal

abbrev pub invariant-loop-x : goal.invariant-loop-x
invariant-loop-x l =
    (put_all (shown l.self) (drop l.x-index l.xs) ≡ put_all (shown l.initial.self) l.xs) × (l.self.made.ghost_name ≡ l.initial.self.made.ghost_name)
