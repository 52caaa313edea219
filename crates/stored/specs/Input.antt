-- The words of an input are its bytes by fours. Assumes nothing.
use Rattle.std.specs.Prelude.{◌≡◌, ℕ, ◌+◌, ◌*◌, ◌≤◌, List, [], ◌∷◌, length, take, drop, Option}
use Rattle.std.specs.Io.KnownBytes.{Consumes, prepend_known}
use Rattle.stored.specs.Words.{four_bytes}
use Rattle.stored.specs.declared.stream.Words.{Words}

-- the bytes in the buffer that are not handed out
abbrev pub unread : {R : Type 0} → Words R → List ℕ
unread w = drop (4 * w.at) (take (4 * w.held + w.spare) w.buffer)

-- the bytes to come: these, and those that the input has left, where they are known
abbrev pub ahead : {R : Type 0} → (R → Option (List ℕ)) → Words R → Option (List ℕ)
ahead remaining w = prepend_known (unread w) (remaining w.input)

-- the bytes are those of the words, four to a word
abbrev pub AreWords : List ℕ → List ℕ → Type 0
AreWords bs [] = bs ≡ []
AreWords bs (w ∷ ws) = (4 ≤ length bs) × (four_bytes bs 0 ≡ w) × AreWords (drop 4 bs) ws

-- the bytes to come lose those of the words
abbrev pub Gives : Option (List ℕ) → Option (List ℕ) → List ℕ → Type 0
Gives before after ws = (bs : List ℕ) × AreWords bs ws × Consumes before after bs
