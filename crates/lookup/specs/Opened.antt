-- What looking at an index's first words finds. Definitions only. Assumes nothing.
use Rattle.std.specs.Prelude.{◌≡◌, ℕ, List, Float, Option, Some, None, Result, Ok, Err}
use Rattle.shape.specs.Refusal.{fine, fault, taken, number_of, place_of}
use Rattle.shape.specs.declared.refusal.Refusal.{Refusal}
use Rattle.lookup.specs.Consult.{head_fault, nowhere, consult_of}
use Rattle.lookup.specs.Steps.{Ready}
use Rattle.lookup.specs.declared.consult.Index.{Index}

-- what `open` tells holds for every point
unfoldable pub Opens : List ℕ → ℕ → Result (Option Index) Refusal → Type 0
unfolding number_of place_of
Opens ws count (Ok (Some i)) = (i.words.now ≡ ws) × (i.count ≡ count) × Ready ws count i.grid.frame i.entries
Opens ws count (Ok None) = (head_fault ws count ≡ fine) × ((x y : Float) → taken nowhere ≡ consult_of ws count x y)
Opens ws count (Err r) = head_fault ws count ≡ fault (number_of r) (place_of r)
