-- Document 01, "Surface file and `probe`": the lines that `probe` prints, as lists of bytes in ASCII. Every line ends in a line feed.
-- Definitions only. Assumes nothing.
use Prim.Native.Char.{code}
use Rattle.std.specs.Prelude.{ℕ, zero, suc, ◌+◌, ◌/◌, ◌%◌, ◌^◌, cond, List, [], ◌∷◌, ◌++◌, ltb, Float, Option, Some, None}
use Prim.Native.String.{String, [] as ended, ◌∷◌ as ◌then◌}
use Rattle.rounding.specs.Stored.{stored_of}
use Rattle.vector.specs.declared.coords.Vector.{Vector}

-- the bytes of a text
abbrev pub ascii : String → List ℕ
ascii ended = []
ascii (c then s) = code c ∷ ascii s

-- ---- numbers

-- "0" to "9"
abbrev pub digit : ℕ → ℕ
digit d = 48 + d

-- the decimal digits of a number below 10 ^ (k + 1), with no leading zero
unfoldable pub digits_of : ℕ → ℕ → List ℕ
digits_of zero n = digit n ∷ []
digits_of (suc k) n = cond (ltb n 10) (digit n ∷ []) (digits_of k (n / 10) ++ digit (n % 10) ∷ [])

-- every number here is of 32 bits, so that ten digits are enough
abbrev pub decimal : ℕ → List ℕ
decimal n = digits_of 9 n

-- "0" to "9", then "a" to "f"
unfoldable pub hex_digit : ℕ → ℕ
hex_digit d = cond (ltb d 10) (48 + d) (87 + d)

-- a 32-bit word in hexadecimal: eight digits in lower case
unfoldable pub hexadecimal : ℕ → List ℕ
unfolding hex_digit
hexadecimal w =
    hex_digit (w / 16 ^ 7)
    ∷ hex_digit (w / 16 ^ 6 % 16)
    ∷ hex_digit (w / 16 ^ 5 % 16)
    ∷ hex_digit (w / 16 ^ 4 % 16)
    ∷ hex_digit (w / 16 ^ 3 % 16)
    ∷ hex_digit (w / 16 ^ 2 % 16)
    ∷ hex_digit (w / 16 % 16)
    ∷ hex_digit (w % 16)
    ∷ []

-- ---- a word and what comes after it

-- a number
abbrev pub numbered : String → ℕ → List ℕ
numbered s n = ascii s ++ decimal n

-- "floats are bits in hexadecimal, stored as in the index": a NaN is 7fc00000, any zero 0
abbrev pub floated : String → Float → List ℕ
floated s x = ascii s ++ hexadecimal (stored_of x)

-- a normal
unfoldable pub normal_text : Vector → List ℕ
unfolding hexadecimal stored_of
normal_text n = floated " normal " n.x ++ floated " " n.y ++ floated " " n.z

-- a lane's id, "`lane -` for none"
unfoldable pub lane_text : Option ℕ → List ℕ
unfolding digits_of
lane_text None = ascii " lane -"
lane_text (Some id) = numbered " lane " id

-- ---- lines

-- the answer to question k: height, normal, triangle and the lane's id
unfoldable pub found_line : ℕ → Float → Vector → ℕ → Option ℕ → List ℕ
unfolding digits_of hexadecimal stored_of normal_text lane_text
found_line k height normal triangle lane =
    numbered "at " k
    ++ floated " height " height
    ++ normal_text normal
    ++ numbered " triangle " triangle
    ++ lane_text lane
    ++ ascii "\n"

unfoldable pub none_line : ℕ → List ℕ
unfolding digits_of
none_line k = numbered "at " k ++ ascii " none\n"

-- the last line: how many questions there are, and how many of them are answered
unfoldable pub asked_line : ℕ → ℕ → List ℕ
unfolding digits_of
asked_line asked found = numbered "asked " asked ++ numbered " found " found ++ ascii "\n"

unfoldable pub refused_line : ℕ → ℕ → List ℕ
unfolding digits_of
refused_line number place = numbered "refused " number ++ numbered " at " place ++ ascii "\n"
