-- What the loop of `surface::sentence::digits_at` keeps: the digits up to `end` are read. Assumes nothing.
use Rattle.std.specs.Prelude.{◌≡◌, ◌-◌, ◌≤◌, length, drop}
use Rattle.surface.specs.Sentence.{read_from, read_count}
use Rattle.surface.proofs.sentence.digits_at.Given as goal

abbrev pub invariant-loop-end : goal.invariant-loop-end
invariant-loop-end l = (read_count (drop l.at l.text) ≡ read_from (drop l.end l.text) (l.end - l.at) l.value) × (l.at ≤ l.end) × (l.end ≤ length l.text)

abbrev pub decreases-loop-end : goal.decreases-loop-end
decreases-loop-end l = length l.text - l.end
