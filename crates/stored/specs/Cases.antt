-- A case as it is read: its next word or list, and the case that is left. Assumes nothing.
use Rattle.std.specs.Prelude.{◌≡◌, ℕ, ◌+◌, ◌*◌, ◌%◌, ◌^◌, ◌<◌, ◌==◌, ◌&&◌, ◌||◌, nat_le, Bool, cond, List, length, slice_get, Some, Float, from_bits}
use Rattle.std.specs.Float.{binary32, binary64}
use Rattle.vector.specs.declared.coords.Point.{Point}
use Rattle.vector.specs.declared.coords.Vector.{Vector}
use Rattle.stored.specs.Words.{get_word}
use Rattle.stored.specs.declared.lent.Case.{Case}
use Rattle.stored.specs.declared.lent.Given.{Given}

-- the next word, and 0 past the last
abbrev pub next_word : Case → ℕ
next_word c = get_word c.words.now c.at

-- n words further on; places are counted in 64 bits
abbrev pub past : Case → ℕ → Case
past c n = record c { at = (c.at + n) % 2 ^ 64 }

-- what is left past one word, two and three
abbrev pub left1 : Case → Case
left1 c = past c 1

abbrev pub left2 : Case → Case
left2 c = left1 (left1 c)

abbrev pub left3 : Case → Case
left3 c = left1 (left2 c)

-- are all words read, and none past the last?
abbrev pub IsRead : Case → Type 0
IsRead c = c.at ≡ length c.words.now

abbrev pub next_single : Case → Float
next_single c = from_bits binary32 (next_word c)

-- a double's low word comes first
abbrev pub next_double : Case → Float
next_double c = from_bits binary64 (next_word (left1 c) * 2 ^ 32 + next_word c)

abbrev pub next_point : Case → Point
next_point c = record { x = next_single c; y = next_single (left1 c); z = next_single (left2 c) }

abbrev pub next_vector : Case → Vector
next_vector c = record { x = next_single c; y = next_single (left1 c); z = next_single (left2 c) }

-- word k of a list: those that are given of it over and over, and 0 where none is
abbrev pub given_word : Given → ℕ → ℕ
given_word g k = cond (g.count == 0) 0 (get_word g.words.now ((g.from + k % g.count) % 2 ^ 64))

abbrev pub given_single : Given → ℕ → Float
given_single g i = from_bits binary32 (given_word g i)

-- a double of a list takes two of its words, the low one first
abbrev pub given_double : Given → ℕ → Float
given_double g i =
    let k = (i + i) % 2 ^ 64 in from_bits binary64 (given_word g ((k + 1) % 2 ^ 64) * 2 ^ 32 + given_word g k)

-- a list next in a case: its length, how many words are given of it, and these
abbrev pub list_length : Case → ℕ
list_length c = next_word c

abbrev pub list_count : Case → ℕ
list_count c = next_word (left1 c)

-- the next list has a place in memory of `room` elements, and a whole element of it is given if it has any
abbrev pub list_fits : ℕ → ℕ → Case → Bool
list_fits room words c = nat_le (list_length c) room && (list_length c == 0 || nat_le words (list_count c))

-- these are the elements of the next list
abbrev pub IsNextList : {T : Type 0} → (Given → ℕ → T) → Case → List T → Type 0
IsNextList element c xs =
    let g : Given = record { words = c.words; from = (left2 c).at; count = list_count c } in
    (length xs ≡ list_length c) × ((k : ℕ) → k < list_length c → slice_get xs k ≡ Some (element g k))

-- the case past its next list
abbrev pub past_list : Case → Case
past_list c = past (left2 c) (list_count c)
