-- A fold over a sequence of numbers that passes over those that do not count. Definitions only. Assumes nothing.
use Rattle.std.specs.Prelude.{ℕ, zero, suc, Bool, cond, List, [], ◌∷◌}
use Rattle.shape.specs.Gather.{gather}

-- the first n numbers of a sequence folded by a step from a start; those of which the test does not hold are passed over
unfoldable pub fold_of : {B : Type 0} → (ℕ → Bool) → (B → ℕ → B) → B → (ℕ → ℕ) → ℕ → B
fold_of counts step start seq zero = start
fold_of counts step start seq (suc i) = cond (counts (seq i)) (step (fold_of counts step start seq i) (seq i)) (fold_of counts step start seq i)

-- those of the first n numbers that count, in order
unfoldable pub counted_of : (ℕ → Bool) → (ℕ → ℕ) → ℕ → List ℕ
unfolding gather
counted_of counts seq n = gather (λ i. cond (counts (seq i)) (seq i ∷ []) []) n
