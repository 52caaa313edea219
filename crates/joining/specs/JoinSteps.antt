-- Steps on the way to the joined mesh, which only the contracts of private functions cite. Definitions only. Assumes nothing.
use Rattle.std.specs.Prelude.{ℕ, ◌+◌, ◌^◌, ◌<◌, List, length, slice_index}
use Rattle.shape.specs.Lists.{span_words, word_of}

-- moved up by `up`, every word still is one
abbrev pub Movable : ℕ → List ℕ → Type 0
Movable up is = (k : ℕ) → k < length is → up + slice_index is k < 2 ^ 32

-- so are the words of span k, whose runs are moved up by v and by i
pub record SpanMovable (v i : ℕ) (ss : List ℕ) (k : ℕ) : Type 0 where
  pub first : v + word_of span_words ss k 1 < 2 ^ 32
  pub last : v + word_of span_words ss k 2 < 2 ^ 32
  pub from : i + word_of span_words ss k 3 < 2 ^ 32
  pub to : i + word_of span_words ss k 4 < 2 ^ 32
