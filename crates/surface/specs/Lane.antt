-- Document 02, "Lane 0 is a lane": the lane of a triangle, by its record in a file and by its record as it is held. Definitions only. Assumes nothing.
use Rattle.std.specs.Prelude.{Bool, false, cond, not, ◌&&◌, ◌||◌, List, ℕ, ◌+◌, ◌-◌, ltb, eqb, get_or, set, Option, Some, None}

-- the words of a triangle's record that tell it
abbrev pub lane_word : ℕ
lane_word = 4

abbrev pub named_word : ℕ
named_word = 7

-- a record with these two words
unfoldable pub with_pair : ℕ → ℕ → List ℕ → List ℕ
with_pair lane named r = set (set r lane_word lane) named_word named

-- ---- in a file

-- "word 4 of a triangle record becomes the id plus one, 0 remaining for none"
unfoldable pub lane_of_word : ℕ → Option ℕ
lane_of_word w = cond (eqb w 0) None (Some (w - 1))

abbrev pub lane_of_file : List ℕ → Option ℕ
lane_of_file r = lane_of_word (get_or r lane_word 0)

-- the record with this lane; word 7 is spare there
unfoldable pub in_file : Option ℕ → List ℕ → List ℕ
unfolding with_pair
in_file None r = with_pair 0 0 r
in_file (Some id) r = with_pair (id + 1) 0 r

-- "so ids run to 4,294,967,294"
abbrev pub greatest_id : ℕ
greatest_id = 4294967294

unfoldable pub past_greatest : Option ℕ → Bool
past_greatest None = false
past_greatest (Some id) = ltb greatest_id id

-- ---- held

-- "a held triangle keeps its id itself in word 4, with 1 in word 7"
unfoldable pub lane_of_held : List ℕ → Option ℕ
lane_of_held r = cond (eqb (get_or r named_word 0) 1) (Some (get_or r lane_word 0)) None

-- the record with this lane: "or 0 in both for none"
unfoldable pub in_held : Option ℕ → List ℕ → List ℕ
unfolding with_pair
in_held None r = with_pair 0 0 r
in_held (Some id) r = with_pair id 1 r

-- "any other pair is a bad record"
unfoldable pub bad_pair : List ℕ → Bool
bad_pair r = not (eqb (get_or r named_word 0) 1 || (eqb (get_or r lane_word 0) 0 && eqb (get_or r named_word 0) 0))
