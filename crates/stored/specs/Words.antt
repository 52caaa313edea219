-- Lists of words as the contracts read them: total, and 0 past the end. Assumes nothing.
use Rattle.std.specs.Prelude.{ℕ, ◌+◌, ◌*◌, ◌/◌, cond, List, length, nat_lt, slice_index}

-- word i of a list
abbrev pub get_word : List ℕ → ℕ → ℕ
get_word xs i = slice_index xs i

-- the word of four bytes from byte k on, the low byte first
unfoldable pub four_bytes : List ℕ → ℕ → ℕ
four_bytes bs k =
    (slice_index bs k + slice_index bs (k + 1) * 256) + (slice_index bs (k + 2) + slice_index bs (k + 3) * 256) * 65536

-- word i of the bytes
unfoldable pub word_at : List ℕ → ℕ → ℕ
word_at bs i = cond (nat_lt i (length bs / 4)) (four_bytes bs (i * 4)) 0
