-- Small cases of the surface file's definitions, computed: document 01's sample, and what is wrong with it when it is damaged. Assumes nothing.
use Rattle.std.specs.Prelude.{◌≡◌, refl, List, [], ◌∷◌, ◌++◌, ℕ, set, take, Some}
use Rattle.shape.specs.Refusal.{fine, fault, taken, refused}
use Rattle.surface.specs.File.{encode, words_of, bytes_of, held_fault, file_fault, read_of, write_of}
use Rattle.surface.specs.Held.{indices_in, lane_in}

-- vertices (0,0,2) (4,0,2) (4,4,2) (0,4,2) with normals (0,0,1), triangles 0 1 2 and 0 2 3 of lane 5, questions (3,1) (9,9)
abbrev vertex : ℕ → ℕ → List ℕ
vertex x y = 1 ∷ x ∷ y ∷ 0x4000_0000 ∷ 0 ∷ 0 ∷ 0x3f80_0000 ∷ 0 ∷ []

-- a triangle as it is held, with words 4 and 7
abbrev of_lane : ℕ → ℕ → ℕ → ℕ → ℕ → List ℕ
of_lane a b c lane named = 2 ∷ a ∷ b ∷ c ∷ lane ∷ 0 ∷ 0 ∷ named ∷ []

abbrev triangle : ℕ → ℕ → ℕ → List ℕ
triangle a b c = of_lane a b c 5 1

abbrev question : ℕ → ℕ → List ℕ
question x y = 3 ∷ x ∷ y ∷ 0 ∷ 0 ∷ 0 ∷ 0 ∷ 0 ∷ []

abbrev sample : List ℕ
sample =
    vertex 0 0 ++ vertex 0x4080_0000 0 ++ vertex 0x4080_0000 0x4080_0000 ++ vertex 0 0x4080_0000 ++ triangle 0 1 2 ++ triangle 0 2 3
    ++ question 0x4040_0000 0x3f80_0000 ++ question 0x4110_0000 0x4110_0000

sound : held_fault sample ≡ fine
unfolding held_fault
sound = refl

-- "lane 5", and the corners in a row
lanes : lane_in sample 1 ≡ Some 5
unfolding lane_in
lanes = refl

corners : indices_in sample ≡ 0 ∷ 1 ∷ 2 ∷ 0 ∷ 2 ∷ 3 ∷ []
unfolding indices_in
corners = refl

-- the low byte first
bytes : bytes_of (0x3f80_0001 ∷ []) ≡ 1 ∷ 0 ∷ 0x80 ∷ 0x3f ∷ []
unfolding bytes_of
bytes = refl

back : words_of (1 ∷ 0 ∷ 0x80 ∷ 0x3f ∷ 7 ∷ []) ≡ 0x3f80_0001 ∷ []
unfolding words_of
back = refl

-- "a triangle of lane 5 has 6 there", and held it has 5 with 1 in word 7; lane 0 has 1 there; none has 0, and 0 in both
abbrev in_file : ℕ → List ℕ
in_file word = of_lane 0 1 2 word 0

held_triangle : words_of (encode (in_file 6)) ≡ of_lane 0 1 2 5 1
unfolding words_of encode
held_triangle = refl

written_triangle : bytes_of (of_lane 0 1 2 5 1) ≡ encode (in_file 6)
unfolding bytes_of
written_triangle = refl

held_first_lane : words_of (encode (in_file 1)) ≡ of_lane 0 1 2 0 1
unfolding words_of encode
held_first_lane = refl

written_first_lane : bytes_of (of_lane 0 1 2 0 1) ≡ encode (in_file 1)
unfolding bytes_of
written_first_lane = refl

held_none : words_of (encode (in_file 0)) ≡ of_lane 0 1 2 0 0
unfolding words_of encode
held_none = refl

written_none : bytes_of (of_lane 0 1 2 0 0) ≡ encode (in_file 0)
unfolding bytes_of
written_none = refl

-- all words of a file are taken
taken_greatest : read_of (encode (in_file 0xffff_ffff)) 8 ≡ taken 8
unfolding read_of encode
taken_greatest = refl

-- "ids run to 4,294,967,294", and one above that is oversize when a file is written, before a short output
held_greatest : words_of (encode (in_file 0xffff_ffff)) ≡ of_lane 0 1 2 0xffff_fffe 1
unfolding words_of encode
held_greatest = refl

oversize : write_of (of_lane 0 1 2 0xffff_ffff 1) 0 ≡ refused 1 4294967294
unfolding write_of
oversize = refl

greatest : write_of (of_lane 0 1 2 0xffff_fffe 1) 31 ≡ refused 3 32
unfolding write_of
greatest = refl

-- after every bad record
bad_first : write_of (of_lane 0 1 2 0xffff_ffff 1 ++ of_lane 0 1 2 9 3) 0 ≡ refused 5 1
unfolding write_of
bad_first = refl

-- "any other pair is a bad record"
pairs :
    (held_fault (of_lane 0 1 2 9 3) ≡ fault 5 0)
    × (held_fault (of_lane 0 1 2 9 0) ≡ fault 5 0)
    × (held_fault (of_lane 0 1 2 0 2) ≡ fault 5 0)
    × (held_fault (of_lane 0 1 2 0 0xffff_ffff) ≡ fault 5 0)
    × (held_fault (of_lane 0 1 2 0xffff_ffff 1) ≡ fine)
unfolding held_fault
pairs = (refl, refl, refl, refl, refl)

-- word 7 is spare in a file
last_of_file : file_fault (encode (of_lane 0 1 2 6 1)) ≡ fault 5 0
unfolding file_fault encode
last_of_file = refl

-- a spare word of record 3, of record 4 and of record 6; a kind that falls, and one that is unknown; a last part record
spare_of_vertex : held_fault (set sample 31 1) ≡ fault 5 3
unfolding held_fault
spare_of_vertex = refl

spare_of_triangle : held_fault (set sample 37 1) ≡ fault 5 4
unfolding held_fault
spare_of_triangle = refl

spare_of_question : held_fault (set sample 51 1) ≡ fault 5 6
unfolding held_fault
spare_of_question = refl

falling : held_fault (question 0 0 ++ triangle 0 1 2) ≡ fault 5 1
unfolding held_fault
falling = refl

unknown : held_fault (set sample 8 4) ≡ fault 5 1
unfolding held_fault
unknown = refl

part : held_fault (take 63 sample) ≡ fault 5 7
unfolding held_fault
part = refl

-- an empty file, one byte, and a file of one question: its eight words want room for eight
empty : read_of [] 0 ≡ taken 0
unfolding read_of
empty = refl

one_byte : read_of (0 ∷ []) 8 ≡ refused 5 0
unfolding read_of
one_byte = refl

short : read_of (bytes_of (question 0 0)) 7 ≡ refused 3 8
unfolding read_of bytes_of
short = refl

room : read_of (bytes_of (question 0 0)) 8 ≡ taken 8
unfolding read_of bytes_of
room = refl
