-- Computed cases of the printed text: document 01's lines, numbers at their ends, and files without a mesh. Assumes nothing.
use Rattle.std.specs.Prelude.{◌≡◌, refl, [], ◌∷◌, Some, None}
use Rattle.std.specs.Float.Ieee as Ieee
use Rattle.rounding.specs.Stored.{stored_of}
use Rattle.vector.specs.declared.coords.Vector.{Vector}
use Rattle.vector.specs.Single.{single}
use Rattle.shape.specs.Lists.{mesh_fault}
use Rattle.lookup.specs.Frame.{extent_of}
use Rattle.lookup.specs.Index.{no_words, words_over, index_words, index_room, answer_to}
use Rattle.surface.specs.Text.{ascii, digits_of, decimal, hexadecimal, hex_digit, floated, normal_text, lane_text, found_line, none_line, asked_line, refused_line}
use Rattle.surface.specs.Report.{report_of}

up : Vector
up = record { x = single 0; y = single 0; z = single 0x3f80_0000 }

found : found_line 0 (single 0x4000_0000) up 0 (Some 5) ≡ ascii "at 0 height 40000000 normal 00000000 00000000 3f800000 triangle 0 lane 5\n"
unfolding up found_line normal_text lane_text digits_of hexadecimal hex_digit stored_of Ieee.of_bits Ieee.to_bits Ieee.eq
found = refl

none : none_line 1 ≡ ascii "at 1 none\n"
unfolding none_line digits_of
none = refl

asked : asked_line 2 1 ≡ ascii "asked 2 found 1\n"
unfolding asked_line digits_of
asked = refl

refused : refused_line 5 3 ≡ ascii "refused 5 at 3\n"
unfolding refused_line digits_of
refused = refl

no_lane : lane_text None ≡ ascii " lane -"
unfolding lane_text
no_lane = refl

first_lane : lane_text (Some 0) ≡ ascii " lane 0"
unfolding lane_text digits_of
first_lane = refl

last_lane : lane_text (Some 4294967294) ≡ ascii " lane 4294967294"
unfolding lane_text digits_of
last_lane = refl

largest : decimal 4294967295 ≡ ascii "4294967295"
unfolding digits_of
largest = refl

ten : decimal 10 ≡ ascii "10"
unfolding digits_of
ten = refl

letters : hexadecimal 0x89ab_cdef ≡ ascii "89abcdef"
unfolding hexadecimal hex_digit
letters = refl

-- a NaN of any payload, and a zero of any sign
not_a_number : floated "" (single 0xffd1_2345) ≡ ascii "7fc00000"
unfolding hexadecimal hex_digit stored_of Ieee.of_bits Ieee.to_bits Ieee.eq
not_a_number = refl

minus_zero : floated "" (single 0x8000_0000) ≡ ascii "00000000"
unfolding hexadecimal hex_digit stored_of Ieee.of_bits Ieee.to_bits Ieee.eq
minus_zero = refl

-- "empty input prints `asked 0 found 0`"
empty : report_of [] ≡ ascii "asked 0 found 0\n"
unfolding report_of mesh_fault answer_to index_room index_words words_over extent_of no_words
empty = refl

-- a part record
part : report_of (1 ∷ []) ≡ ascii "refused 5 at 0\n"
unfolding report_of
part = refl
