-- What the loop of `surface::sentence::along` keeps: the word's first k bytes are passed. Assumes nothing.
use Rattle.std.specs.Prelude.{◌≡◌, ◌+◌, ◌≤◌, List, length, drop}
use Rattle.surface.specs.Sentence.{Part, bytes}
use Rattle.surface.specs.SentenceSteps.{walk_at}
use Rattle.surface.proofs.sentence.along.Given as goal

abbrev pub invariant-loop-k : goal.invariant-loop-k
invariant-loop-k l = ((t : List Part) → walk_at l.at (bytes l.word t) l.text ≡ walk_at (l.at + l.k) (bytes (drop l.k l.word) t) l.text) × (l.at + l.k ≤ length l.text)
