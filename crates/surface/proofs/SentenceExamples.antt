-- Computed cases of sentences and of their reading. Assumes nothing.
use Rattle.std.specs.Prelude.{◌≡◌, [], length, refl}
use Rattle.shape.specs.Refusal.{taken, refused, refuse, judge, leaves}
use Rattle.shape.specs.Verdict.{sound, empty, non_finite, out_of_range, degenerate}
use Rattle.surface.specs.File.{copy_of}
use Rattle.surface.specs.Text.{ascii, digits_of}
use Rattle.surface.specs.Sentence.{fill, sentence_of, counts_of, too_large, sentence_answer, goes_on, read_from, walk, chosen, read_sentence}

-- ---- writing

writes_sound : sentence_of sound ≡ ascii "mesh is sound."
unfolding sentence_of fill digits_of
writes_sound = refl

writes_empty : sentence_of empty ≡ ascii "mesh has no triangles."
unfolding sentence_of fill digits_of
writes_empty = refl

writes_greatest : sentence_of (non_finite 4294967295) ≡ ascii "vertex 4294967295 is not finite."
unfolding sentence_of fill digits_of
writes_greatest = refl

writes_area : sentence_of (degenerate 10) ≡ ascii "triangle 10 has no area."
unfolding sentence_of fill digits_of
writes_area = refl

-- no plural rule
writes_one : sentence_of (out_of_range 1 2 1) ≡ ascii "triangle 1 indexes vertex 2, past the 1 vertices present."
unfolding sentence_of fill digits_of
writes_one = refl

longest : length (sentence_of (out_of_range 4294967295 4294967295 4294967295)) ≡ 84
unfolding sentence_of fill digits_of
longest = refl

fits : sentence_answer (out_of_range 1 2 1) 57 ≡ taken 57
unfolding sentence_answer copy_of judge refuse too_large counts_of sentence_of fill digits_of
fits = refl

short : sentence_answer (out_of_range 1 2 1) 56 ≡ refused 3 57
unfolding sentence_answer copy_of judge refuse too_large counts_of sentence_of fill digits_of
short = refl

-- a count past 4,294,967,295, before a short output
past : sentence_answer (non_finite 4294967296) 0 ≡ refused 1 4294967295
unfolding sentence_answer copy_of judge refuse too_large counts_of sentence_of fill digits_of
past = refl

past_last : sentence_answer (out_of_range 0 0 4294967296) 90 ≡ refused 1 4294967295
unfolding sentence_answer copy_of judge refuse too_large counts_of sentence_of fill digits_of
past_last = refl

stays : leaves (sentence_answer sound 13) (sentence_of sound) (ascii "0123456789abc") ≡ ascii "0123456789abc"
unfolding leaves sentence_answer copy_of judge refuse too_large counts_of sentence_of fill digits_of
stays = refl

stays_behind : leaves (sentence_answer sound 16) (sentence_of sound) (ascii "0123456789abcdef") ≡ ascii "mesh is sound.ef"
unfolding leaves sentence_answer copy_of judge refuse too_large counts_of sentence_of fill digits_of
stays_behind = refl

-- ---- reading

reads_sound : read_sentence (ascii "mesh is sound.") ≡ taken sound
unfolding read_sentence walk chosen read_from goes_on
reads_sound = refl

reads_empty : read_sentence (ascii "mesh has no triangles.") ≡ taken empty
unfolding read_sentence walk chosen read_from goes_on
reads_empty = refl

reads_vertex : read_sentence (ascii "vertex 0 is not finite.") ≡ taken (non_finite 0)
unfolding read_sentence walk chosen read_from goes_on
reads_vertex = refl

reads_greatest : read_sentence (ascii "vertex 4294967295 is not finite.") ≡ taken (non_finite 4294967295)
unfolding read_sentence walk chosen read_from goes_on
reads_greatest = refl

reads_range : read_sentence (ascii "triangle 3 indexes vertex 7, past the 4 vertices present.") ≡ taken (out_of_range 3 7 4)
unfolding read_sentence walk chosen read_from goes_on
reads_range = refl

reads_area : read_sentence (ascii "triangle 3 has no area.") ≡ taken (degenerate 3)
unfolding read_sentence walk chosen read_from goes_on
reads_area = refl

-- ---- refusing

no_bytes : read_sentence [] ≡ refused 6 0
unfolding read_sentence walk chosen read_from goes_on
no_bytes = refl

no_stop : read_sentence (ascii "mesh is sound") ≡ refused 6 13
unfolding read_sentence walk chosen read_from goes_on
no_stop = refl

after_stop : read_sentence (ascii "mesh is sound. ") ≡ refused 6 14
unfolding read_sentence walk chosen read_from goes_on
after_stop = refl

part_mesh : read_sentence (ascii "mesh h") ≡ refused 6 6
unfolding read_sentence walk chosen read_from goes_on
part_mesh = refl

neither_mesh : read_sentence (ascii "mesh x") ≡ refused 6 5
unfolding read_sentence walk chosen read_from goes_on
neither_mesh = refl

part_vertex : read_sentence (ascii "vertex") ≡ refused 6 6
unfolding read_sentence walk chosen read_from goes_on
part_vertex = refl

leading_zero : read_sentence (ascii "vertex 00 is not finite.") ≡ refused 6 8
unfolding read_sentence walk chosen read_from goes_on
leading_zero = refl

no_count : read_sentence (ascii "vertex  is not finite.") ≡ refused 6 7
unfolding read_sentence walk chosen read_from goes_on
no_count = refl

two_ways : read_sentence (ascii "triangle 3 x") ≡ refused 6 11
unfolding read_sentence walk chosen read_from goes_on
two_ways = refl

-- the tenth 9 makes the count too large, and is itself the place
too_large_a_count : read_sentence (ascii "triangle 9999999999 has no area.") ≡ refused 6 18
unfolding read_sentence walk chosen read_from goes_on
too_large_a_count = refl

one_too_large : read_sentence (ascii "vertex 4294967296 is not finite.") ≡ refused 6 16
unfolding read_sentence walk chosen read_from goes_on
one_too_large = refl
