-- What the functions of `sentence` hand to each other: a walk along a template, taken up at a place. Definitions only. Assumes nothing.
use Rattle.std.specs.Prelude.{ℕ, ◌+◌, ◌-◌, ◌*◌, ◌≤◌, ◌≡◌, cond, List, [], ◌∷◌, ◌++◌, length, drop, Option, Some, None, Result, Ok, Err}
use Rattle.surface.specs.declared.sentence.OneCount.{OneCount}
use Rattle.surface.specs.declared.sentence.ThreeCounts.{ThreeCounts}
use Rattle.surface.specs.Sentence.{Part, count, bytes, goes_on, read_count, Walk, walk}

-- ---- templates

abbrev pub one_count : OneCount → List Part
one_count t = bytes t.first.now (count ∷ bytes t.last.now [])

abbrev pub three_counts : ThreeCounts → List Part
three_counts t = bytes t.first.now (count ∷ bytes t.second.now (count ∷ bytes t.third.now (count ∷ bytes t.last.now [])))

-- ---- walks

-- the counts of a walk to the end, or how far it came
unfoldable pub outcome : Walk → Result (List ℕ) ℕ
outcome w = cond w.ends (Ok w.counts) (Err w.far)

-- a walk that begins k bytes on
abbrev pub shift : ℕ → Walk → Walk
shift k w = record { far = k + w.far; counts = w.counts; ends = w.ends }

-- what comes of the bytes from a place on, along the rest of a template
unfoldable pub walk_at : ℕ → List Part → List ℕ → Result (List ℕ) ℕ
unfolding walk outcome
walk_at at t bs = outcome (shift at (walk t (drop at bs)))

-- what comes of a step, and of those after it
unfoldable pub then_on : {A B : Type 0} → Result A ℕ → (A → Result B ℕ) → Result B ℕ
then_on (Ok a) f = f a
then_on (Err far) f = Err far

-- with counts that were read before
unfoldable pub behind : List ℕ → Result (List ℕ) ℕ → Result (List ℕ) ℕ
behind ns (Ok ms) = Ok (ns ++ ms)
behind ns (Err far) = Err far

-- a count with a digit more, if the byte goes on so
unfoldable pub digit_more : ℕ → ℕ → ℕ → Option ℕ
unfolding goes_on
digit_more used value b = cond (goes_on used value b) (Some (10 * value + (b - 48))) None

-- a count is read from a place up to another, and no digit of it is left
pub record Counts (bs : List ℕ) (at end value : ℕ) : Type 0 where
  pub read : read_count (drop at bs) ≡ record { used = end - at; value = value }
  pub from : at ≤ end
  pub within : end ≤ length bs
