-- A word is read for each element, and these are what is to come.
use Rattle.std.proofs.Common.{◌≡◌, ◌+◌, ◌%◌, ◌^◌, ◌∷◌, length, take}
use Rattle.stored.specs.Input.{Gives, ahead}
use Rattle.stored.proofs.stream.Words.list.Given as goal

abbrev pub invariant-loop-x : goal.invariant-loop-x
invariant-loop-x g l =
    (l.self.read ≡ (l.initial.self.read + l.x-index) % 2 ^ 64)
    × Gives (ahead g.R.Read.remaining l.fn.self) (ahead g.R.Read.remaining l.self) (length l.list ∷ take l.x-index l.list)
