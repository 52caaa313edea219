-- Document 02, "The verdict as a sentence": a verdict on a mesh written as a sentence, and its reading. One template for each kind of verdict serves both
-- ways. Definitions only. Assumes nothing.
use Prim.Native.String.{String}
use Rattle.std.specs.Prelude.{ℕ, suc, ◌+◌, ◌-◌, ◌*◌, ◌<◌, max, Bool, true, false, cond, ◌&&◌, ◌||◌, List, [], ◌∷◌, ◌++◌, nat_lt, nat_le, ◌==◌, get_or, drop}
use Rattle.shape.specs.Refusal.{fine, refuse, Answer, taken, refused, judge}
use Rattle.shape.specs.Verdict.{Validity, sound, empty, non_finite, out_of_range, degenerate}
use Rattle.surface.specs.File.{copy_of}
use Rattle.surface.specs.Text.{ascii, digits_of, decimal}

-- ---- templates

-- a template is a list of bytes that stand as they are, and of places for counts
pub data Part : Type 0 where
  byte : ℕ → Part
  count : Part

-- bytes, and what comes after them
abbrev pub bytes : List ℕ → List Part → List Part
bytes [] after = after
bytes (b ∷ bs) after = byte b ∷ bytes bs after

abbrev pub text : String → List Part → List Part
text s after = bytes (ascii s) after

-- the texts of `MeshError` with a full stop, and that of a sound mesh
abbrev pub sound_text : List Part
sound_text = text "mesh is sound." []

abbrev pub empty_text : List Part
empty_text = text "mesh has no triangles." []

abbrev pub non_finite_text : List Part
non_finite_text = text "vertex " (count ∷ text " is not finite." [])

abbrev pub out_of_range_text : List Part
out_of_range_text = text "triangle " (count ∷ text " indexes vertex " (count ∷ text ", past the " (count ∷ text " vertices present." [])))

abbrev pub degenerate_text : List Part
degenerate_text = text "triangle " (count ∷ text " has no area." [])

-- ---- writing

-- the template with its counts, one after another
unfoldable pub fill : List Part → List ℕ → List ℕ
unfolding digits_of
fill [] ns = []
fill (byte b ∷ t) ns = b ∷ fill t ns
fill (count ∷ t) [] = fill t []
fill (count ∷ t) (n ∷ ns) = decimal n ++ fill t ns

unfoldable pub sentence_of : Validity → List ℕ
unfolding fill
sentence_of sound = fill sound_text []
sentence_of empty = fill empty_text []
sentence_of (non_finite v) = fill non_finite_text (v ∷ [])
sentence_of (out_of_range t i n) = fill out_of_range_text (t ∷ i ∷ n ∷ [])
sentence_of (degenerate t) = fill degenerate_text (t ∷ [])

unfoldable pub counts_of : Validity → List ℕ
counts_of sound = []
counts_of empty = []
counts_of (non_finite v) = v ∷ []
counts_of (out_of_range t i n) = t ∷ i ∷ n ∷ []
counts_of (degenerate t) = t ∷ []

-- a count past 4,294,967,295 has no sentence
unfoldable pub too_large : List ℕ → Bool
too_large [] = false
too_large (n ∷ ns) = nat_lt 4294967295 n || too_large ns

-- what writing answers where there is so much room: 1 for such a count, as a result, and then 3
unfoldable pub sentence_answer : Validity → ℕ → Answer ℕ
unfolding too_large counts_of sentence_of refuse judge copy_of
sentence_answer v room = judge (refuse (too_large (counts_of v)) 1 4294967295 fine) (copy_of (sentence_of v) room)

-- ---- reading a count

-- what was read: how many digits, and their value
pub record Count : Type 0 where
  pub used : ℕ
  pub value : ℕ

abbrev pub is_digit : ℕ → Bool
is_digit b = nat_le 48 b && nat_lt b 58

-- Does the byte b go on, after `used` digits of a value? It is a digit, no leading 0 stands before it, and the count stays below 2^32.
unfoldable pub goes_on : ℕ → ℕ → ℕ → Bool
goes_on used value b = is_digit b && ((used == 0 || nat_lt 0 value) && nat_lt (10 * value + (b - 48)) 4294967296)

-- the longest count at the front, after `used` digits of a value
unfoldable pub read_from : List ℕ → ℕ → ℕ → Count
unfolding goes_on
read_from [] used value = record { used = used; value = value }
read_from (b ∷ bs) used value = cond (goes_on used value b) (read_from bs (suc used) (10 * value + (b - 48))) (record { used = used; value = value })

abbrev pub read_count : List ℕ → Count
read_count bs = read_from bs 0 0

-- ---- reading

-- how far bytes go along a template, with which counts, and whether they end it
pub record Walk : Type 0 where
  pub far : ℕ
  pub counts : List ℕ
  pub ends : Bool

abbrev pub stop : Walk
stop = record { far = 0; counts = []; ends = false }

abbrev pub past_byte : Walk → Walk
past_byte w = record { far = suc w.far; counts = w.counts; ends = w.ends }

abbrev pub past_count : Count → Walk → Walk
past_count c w = record { far = c.used + w.far; counts = c.value ∷ w.counts; ends = w.ends }

unfoldable pub walk : List Part → List ℕ → Walk
unfolding read_from
walk [] [] = record { far = 0; counts = []; ends = true }
walk [] (b ∷ bs) = stop
walk (byte c ∷ t) [] = stop
walk (byte c ∷ t) (b ∷ bs) = cond (b == c) (past_byte (walk t bs)) stop
walk (count ∷ t) bs = cond ((read_count bs).used == 0) stop (past_count (read_count bs) (walk t (drop (read_count bs).used bs)))

-- of the walks along the five templates: the verdict of the one that the bytes end, else 6 with the greatest distance
unfoldable pub chosen : Walk → Walk → Walk → Walk → Walk → Answer Validity
chosen s e v r d =
    cond s.ends (taken sound)
    (cond e.ends (taken empty)
    (cond v.ends (taken (non_finite (get_or v.counts 0 0)))
    (cond r.ends (taken (out_of_range (get_or r.counts 0 0) (get_or r.counts 1 0) (get_or r.counts 2 0)))
    (cond d.ends (taken (degenerate (get_or d.counts 0 0)))
    (refused 6 (max s.far (max e.far (max v.far (max r.far d.far)))))))))

unfoldable pub read_sentence : List ℕ → Answer Validity
unfolding walk chosen
read_sentence bs = chosen (walk sound_text bs) (walk empty_text bs) (walk non_finite_text bs) (walk out_of_range_text bs) (walk degenerate_text bs)

-- ---- what the laws speak of

-- every count is below 2^32
abbrev pub Small : List ℕ → Type 0
Small [] = Unit
Small (n ∷ ns) = (n < 4294967296) × Small ns

abbrev pub Counted : Validity → Type 0
unfolding counts_of
Counted v = Small (counts_of v)
