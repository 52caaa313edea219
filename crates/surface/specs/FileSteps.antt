-- What the steps of `read` and `write` promise each other. Definitions only. Assumes nothing.
use Rattle.std.specs.Prelude.{Bool, cond, List, ℕ, ◌/◌, ltb, length, Option}
use Rattle.std.specs.Bool.{then_some}
use Rattle.shape.specs.Gather.{least}
use Rattle.surface.specs.File.{Form, File, Held, kind_of, bad_record, parts, held_record, file_record}

-- the kind of a sound record, and 0 of a bad one
unfoldable pub sound_kind : Form → List ℕ → ℕ → ℕ
unfolding bad_record
sound_kind form r last = cond (bad_record form r last) 0 (kind_of r)

-- a surface is lent as a file's bytes or as held words, by its form; nothing is read in the other's place.
-- How many records it has, how many of them are whole, and record k
unfoldable pub count_in : Form → List ℕ → List ℕ → ℕ
unfolding parts
count_in File bytes held = parts 32 (length bytes)
count_in Held bytes held = parts 8 (length held)

unfoldable pub whole_in : Form → List ℕ → List ℕ → ℕ
whole_in File bytes held = length bytes / 32
whole_in Held bytes held = length held / 8

unfoldable pub record_in : Form → List ℕ → List ℕ → ℕ → List ℕ
unfolding file_record held_record
record_in File bytes held k = file_record bytes k
record_in Held bytes held k = held_record held k

-- the first number below n that the test holds of, if there is one
unfoldable pub first_of : (ℕ → Bool) → ℕ → Option ℕ
unfolding least
first_of test n = then_some (ltb (least test n) n) (least test n)
