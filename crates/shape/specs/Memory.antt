-- What a step leaves in lent memory. Definitions only. Assumes nothing.
use Rattle.std.specs.Prelude.{◌≡◌, ℕ, ◌+◌, List, length}
use Rattle.std.proofs.lemmas.List.Edits.{sets}

-- xs stand in the memory from `at`, and `next` is where they end; the rest is as before
pub record Put {A : Type 0} (before after : List A) (at : ℕ) (xs : List A) (next : ℕ) : Type 0 where
  pub memory : after ≡ sets before at xs
  pub ends : next ≡ at + length xs
