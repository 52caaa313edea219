-- What an answer's memory holds, and what putting words changes of it. Assumes nothing.
use Rattle.std.specs.Prelude.{◌≡◌, ℕ, ◌+◌, ◌/◌, ◌%◌, ◌^◌, List, [], ◌∷◌, slice_set, Float, to_bits}
use Rattle.std.specs.Float.{binary32}
use Rattle.vector.specs.declared.coords.Point.{Point}
use Rattle.vector.specs.declared.coords.Vector.{Vector}
use Rattle.stored.specs.declared.answer.Answer.{Answer}

-- the memory, and how many words were put
abbrev pub shown : Answer → List ℕ × ℕ
shown a = (a.made.now, a.count)

-- one word more: it is lost where the memory has no place for it, and counted, in 64 bits
abbrev pub put_word : List ℕ × ℕ → ℕ → List ℕ × ℕ
put_word p w = (slice_set p.0 p.1 w, (p.1 + 1) % 2 ^ 64)

-- words, one after the other
abbrev pub put_all : List ℕ × ℕ → List ℕ → List ℕ × ℕ
put_all p [] = p
put_all p (w ∷ ws) = put_all (put_word p w) ws

-- the words are put, into the same memory
abbrev pub Puts : Answer → Answer → List ℕ → Type 0
Puts before after ws = (shown after ≡ put_all (shown before) ws) × (after.made.ghost_name ≡ before.made.ghost_name)

-- the halves of a word of 64 bits, the low one first
abbrev pub halves : ℕ → List ℕ
halves w = w % 2 ^ 32 ∷ w / 2 ^ 32 ∷ []

abbrev pub word_of : Float → ℕ
word_of x = to_bits binary32 x

abbrev pub point_words : Point → List ℕ
point_words p = word_of p.x ∷ word_of p.y ∷ word_of p.z ∷ []

abbrev pub vector_words : Vector → List ℕ
vector_words v = word_of v.x ∷ word_of v.y ∷ word_of v.z ∷ []
