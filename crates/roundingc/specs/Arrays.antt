-- The roots of a list, written to the start of another. Definitions only. Assumes nothing.
use Rattle.std.specs.Prelude.{ℕ, List, ◌++◌, map, Float, take, drop}
use Rattle.std.specs.Float.{Format}
use Rattle.rounding.specs.Root.{sqrt_of}

-- `out` with h of the first n of `xs` for its own first n
unfoldable pub mapped : {A : Type 0} → (A → A) → ℕ → List A → List A → List A
mapped h n xs out = map h (take n xs) ++ drop n out

-- with the roots
abbrev pub rooted : Format → ℕ → List Float → List Float → List Float
rooted f = mapped (sqrt_of f)
