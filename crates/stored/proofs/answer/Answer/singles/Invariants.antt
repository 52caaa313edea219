-- What is left to put gives what all would have given.
use Rattle.std.proofs.Common.{◌≡◌, drop, map}
use Rattle.stored.specs.Answers.{put_all, shown, word_of}
use Rattle.stored.proofs.answer.Answer.singles.Given as goal

abbrev pub invariant-loop-x : goal.invariant-loop-x
invariant-loop-x l =
    (put_all (shown l.self) (map word_of (drop l.x-index l.xs)) ≡ put_all (shown l.initial.self) (map word_of l.xs))
    × (l.self.made.ghost_name ≡ l.initial.self.made.ghost_name)
