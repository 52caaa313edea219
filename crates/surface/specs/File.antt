-- Document 01, "Surface file and `probe`" and the refusals 1, 5 and 3 of it, with document 02, "Lane 0 is a lane": the records of a file's bytes and
-- of held words, how they are turned into each other, and what `read` and `write` answer. Bytes are numbers below 256, words numbers below 2 ^ 32.
-- Definitions only. Assumes nothing.
use Rattle.std.specs.Prelude.{Bool, true, false, cond, not, ◌&&◌, ◌||◌, List, [], ◌∷◌, ℕ, zero, suc, ◌+◌, ◌-◌, ◌*◌, ◌/◌, ◌%◌, ltb, eqb, length, get_or, take, drop}
use Rattle.shape.specs.Gather.{gather, any, least}
use Rattle.shape.specs.Refusal.{Fault, fine, refuse, Answer, taken, judge}
use Rattle.surface.specs.Lane.{lane_of_word, lane_of_file, in_file, greatest_id, past_greatest, lane_of_held, in_held, bad_pair}

-- the form that a surface is in: the bytes of a file, or words as they are held
pub data Form : Type 0 where
  File Held : Form

-- ---- bytes and words, "little-endian": the low byte first

-- word k of bytes
unfoldable pub word_at : List ℕ → ℕ → ℕ
word_at bs k = get_or bs (4 * k) 0 + 256 * (get_or bs (4 * k + 1) 0 + 256 * (get_or bs (4 * k + 2) 0 + 256 * get_or bs (4 * k + 3) 0))

-- all whole words of them
unfoldable pub decode : List ℕ → List ℕ
unfolding word_at gather
decode bs = gather (λ k. word_at bs k ∷ []) (length bs / 4)

-- the four bytes of a word
unfoldable pub four_bytes : ℕ → List ℕ
four_bytes w = w % 256 ∷ w / 256 % 256 ∷ w / 65536 % 256 ∷ w / 16777216 % 256 ∷ []

-- the bytes of words, one after another
unfoldable pub encode : List ℕ → List ℕ
unfolding four_bytes gather
encode ws = gather (λ k. four_bytes (get_or ws k 0)) (length ws)

-- ---- a record, as its words: "records of 32 bytes, no header: eight little-endian 32-bit words"

-- "word 0 is the kind": 1 vertex, 2 triangle, 3 question
abbrev pub kind_of : List ℕ → ℕ
kind_of r = get_or r 0 0

abbrev pub vertex_kind : ℕ
vertex_kind = 1

abbrev pub triangle_kind : ℕ
triangle_kind = 2

abbrev pub question_kind : ℕ
question_kind = 3

-- what is said of a vertex, of a triangle and of a question
unfoldable pub by_kind : {A : Type 0} → ℕ → A → A → A → A
by_kind kind vertex triangle question = cond (eqb kind vertex_kind) vertex (cond (eqb kind triangle_kind) triangle question)

-- words 0 to 7 of each kind: a vertex has its place in 1 to 3 and its normal in 4 to 6, a triangle its vertices in 1 to 3 and its lane in 4, and held
-- in 7 too, "which is no spare word there"; a question has its x and y in 1 and 2; "other words are 0"
abbrev used : Bool
used = false

abbrev idle : Bool
idle = true

-- spare in a file, used where it is held
unfoldable pub in_file_alone : Form → Bool
in_file_alone File = idle
in_file_alone Held = used

unfoldable pub spares : Form → ℕ → List Bool
unfolding by_kind in_file_alone
spares form kind =
    by_kind kind
    -- 0      1      2      3      4      5      6      7
    (used ∷ used ∷ used ∷ used ∷ used ∷ used ∷ used ∷ idle ∷ [])
    (used ∷ used ∷ used ∷ used ∷ used ∷ idle ∷ idle ∷ in_file_alone form ∷ [])
    (used ∷ used ∷ used ∷ idle ∷ idle ∷ idle ∷ idle ∷ idle ∷ [])

unfoldable pub spare : Form → ℕ → ℕ → Bool
unfolding spares
spare form kind j = get_or (spares form kind) j false

-- word j of a record is spare and not 0
unfoldable pub spare_used : Form → List ℕ → ℕ → Bool
unfolding spare
spare_used form r j = spare form (kind_of r) j && not (eqb (get_or r j 0) 0)

-- a held triangle's pair of words that tells neither a lane nor none; each word 4 of a file tells one or the other
unfoldable pub bad_lane : Form → List ℕ → Bool
unfolding by_kind bad_pair
bad_lane File r = false
bad_lane Held r = by_kind (kind_of r) false (bad_pair r) false

-- "bad record", after a record of kind `last`: a part record, an unknown kind, a falling kind, a nonzero spare word, or a bad pair
unfoldable pub bad_record : Form → List ℕ → ℕ → Bool
unfolding spare_used any bad_lane
bad_record form r last =
    ltb (length r) 8
    || (eqb (kind_of r) 0 || (ltb 3 (kind_of r) || (ltb (kind_of r) last || (any (spare_used form r) 8 || bad_lane form r))))

-- ---- records one after another, of which record k is `at k`

-- the kind of the record before, and 0 before the first
unfoldable pub kind_before : (ℕ → List ℕ) → ℕ → ℕ
kind_before at zero = 0
kind_before at (suc k) = kind_of (at k)

unfoldable pub bad_at : Form → (ℕ → List ℕ) → ℕ → Bool
unfolding bad_record kind_before
bad_at form at k = bad_record form (at k) (kind_before at k)

-- refused with this number where the test holds of one of n: the first of them is the place
unfoldable pub refuse_first : (ℕ → Bool) → ℕ → ℕ → Fault → Fault
unfolding refuse least
refuse_first test n number after = refuse (ltb (least test n) n) number (least test n) after

-- what n records are refused for, in order: "surface file 2,048 records, a part one counted", and the first bad one
unfoldable pub surface_fault : Form → ℕ → (ℕ → List ℕ) → Fault
unfolding refuse refuse_first bad_at
surface_fault form n at =
    refuse (ltb 2048 n) 1 2048
    (refuse_first (bad_at form at) n 5
    fine)

-- how many of u elements there are in n, "a last part record counts"
unfoldable pub parts : ℕ → ℕ → ℕ
parts u n = (n + (u - 1)) / u

-- record k of held words, which are in 8s, and of a file, whose bytes are in 32s; the last may be a part one, and is then short of 8 words
unfoldable pub held_record : List ℕ → ℕ → List ℕ
held_record ws k = take 8 (drop (8 * k) ws)

unfoldable pub file_record : List ℕ → ℕ → List ℕ
unfolding decode
file_record bs k = decode (take 32 (drop (32 * k) bs))

unfoldable pub held_fault : List ℕ → Fault
unfolding surface_fault parts held_record
held_fault ws = surface_fault Held (parts 8 (length ws)) (held_record ws)

unfoldable pub file_fault : List ℕ → Fault
unfolding surface_fault parts file_record
file_fault bs = surface_fault File (parts 32 (length bs)) (file_record bs)

-- ---- the codec of each kind: a vertex and a question are held as they stand in the file, and so is a triangle but for the words of its lane

-- a record of the file, as it is held
unfoldable pub held_of : ℕ → List ℕ → List ℕ
unfolding by_kind lane_of_word in_held
held_of kind r = by_kind kind r (in_held (lane_of_file r) r) r

-- a held record, as it stands in the file
unfoldable pub file_of : ℕ → List ℕ → List ℕ
unfolding by_kind lane_of_held in_file
file_of kind r = by_kind kind r (in_file (lane_of_held r) r) r

-- record k of a file as it is held, and record k of held words as it stands in the file
unfoldable pub held_at : List ℕ → ℕ → List ℕ
unfolding file_record held_of
held_at bs k = held_of (kind_of (file_record bs k)) (file_record bs k)

unfoldable pub file_at : List ℕ → ℕ → List ℕ
unfolding held_record file_of
file_at ws k = file_of (kind_of (held_record ws k)) (held_record ws k)

-- the words held of a file's bytes, and the file's bytes of held words
unfoldable pub words_of : List ℕ → List ℕ
unfolding gather held_at parts
words_of bs = gather (held_at bs) (parts 32 (length bs))

unfoldable pub bytes_of : List ℕ → List ℕ
unfolding gather file_at encode parts
bytes_of ws = gather (λ k. encode (file_at ws k)) (parts 8 (length ws))

-- "an id above that range is oversize when a file is written, as a result": what whole held records are refused for then
unfoldable pub past_at : List ℕ → ℕ → Bool
unfolding held_record by_kind lane_of_held past_greatest
past_at ws k = let r = held_record ws k in by_kind (kind_of r) false (past_greatest (lane_of_held r)) false

unfoldable pub id_fault : List ℕ → Fault
unfolding refuse any past_at
id_fault ws = refuse (any (past_at ws) (length ws / 8)) 1 greatest_id fine

-- ---- the calls

-- all of a result, where there is room for that many of its elements: how many they are
unfoldable pub copy_of : List ℕ → ℕ → Answer ℕ
unfolding refuse judge
copy_of result room = judge (refuse (ltb room (length result)) 3 (length result) fine) (taken (length result))

-- `read` gives the words of a file, `write` the bytes of held words
unfoldable pub read_of : List ℕ → ℕ → Answer ℕ
unfolding file_fault words_of copy_of judge
read_of bs room = judge (file_fault bs) (copy_of (words_of bs) room)

unfoldable pub write_of : List ℕ → ℕ → Answer ℕ
unfolding held_fault id_fault bytes_of copy_of judge
write_of ws room = judge (held_fault ws) (judge (id_fault ws) (copy_of (bytes_of ws) room))
