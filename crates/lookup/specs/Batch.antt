-- The indexed lookup at many points in one call: point by point the answer of the single call, as words. Definitions only. Assumes nothing.
use Rattle.std.specs.Prelude.{ℕ, ◌+◌, ◌-◌, ◌*◌, ◌/◌, cond, List, [], ◌∷◌, ◌++◌, length, replicate, nat_lt, slice_index_or, Float, Option, Some, None}
use Rattle.std.specs.Float.{nan, binary32}
use Rattle.std.specs.Float.Ieee.{to_bits}
use Rattle.shape.specs.Gather.{gather}
use Rattle.shape.specs.Lists.{Mesh, uneven}
use Rattle.shape.specs.Refusal.{fine, refuse, Answer, taken, refused, judge}
use Rattle.lookup.specs.Mesh.{triangles}
use Rattle.lookup.specs.Consult.{head_fault}
use Rattle.lookup.specs.Sampler.{Sample, hit, miss, top_fault, top_of}

-- ---- the record of a point's answer

-- how many words it has
abbrev pub record_words : ℕ
record_words = 8

-- words, and then zeros up to the width
unfoldable pub padded : List ℕ → List ℕ
padded ws = ws ++ replicate (record_words - length ws) 0

-- whether there is a lane, and its id
unfoldable pub lane_there : Option ℕ → ℕ
lane_there (Some id) = 1
lane_there None = 0

unfoldable pub lane_id : Option ℕ → ℕ
lane_id (Some id) = id
lane_id None = 0

-- found: 1, height, normal, triangle, whether there is a lane, lane; none: zeros; refused: 2, number, place. Floats by their bits, a NaN's as 7fc00000
unfoldable pub record_of : Answer Sample → List ℕ
unfolding to_bits lane_there lane_id padded
record_of (taken (hit h n t d)) =
    padded
    (1
    ∷ to_bits binary32 h
    ∷ to_bits binary32 n.x
    ∷ to_bits binary32 n.y
    ∷ to_bits binary32 n.z
    ∷ t
    ∷ lane_there d.lane
    ∷ lane_id d.lane
    ∷ [])
record_of (taken miss) = padded []
record_of (refused number place) = padded (2 ∷ number ∷ place ∷ [])

-- ---- the call: points are list 5, pairs x, y

abbrev pub points_in : List Float → ℕ
points_in ps = length ps / 2

-- the single call's answer at point k
unfoldable pub record_at : Mesh → List ℕ → List Float → ℕ → List ℕ
unfolding record_of top_of
record_at m ws ps k = record_of (top_of m ws (slice_index_or ps (2 * k) nan) (slice_index_or ps (2 * k + 1) nan))

-- the records of all points, one after another
unfoldable pub records_of : Mesh → List ℕ → List Float → List ℕ
unfolding gather record_at
records_of m ws ps = gather (record_at m ws ps) (points_in ps)

-- the last that is judged is an output without room for a record a point; else how many points there are
unfoldable pub count_answer : List Float → ℕ → Answer ℕ
unfolding judge refuse
count_answer ps room = judge (refuse (nat_lt room (record_words * points_in ps)) 3 (record_words * points_in ps) fine) (taken (points_in ps))

-- the answer for an output of `room` words. What is wrong with the whole call is judged in the table's order: 1 and 2 of the lists, a point without its y, the
-- index's first words, the room
unfoldable pub tops_of : Mesh → List ℕ → List Float → ℕ → Answer ℕ
unfolding judge top_fault refuse uneven head_fault count_answer
tops_of m ws ps room =
    judge (top_fault m ws)
    (judge (refuse (uneven 2 ps) 2 5 fine)
    (judge (head_fault ws (triangles m.indices)) (count_answer ps room)))

-- a number as a word of 32 bits, one past the greatest cut to it
unfoldable pub word_for : ℕ → ℕ
word_for n = cond (nat_lt n 0x1_0000_0000) n 0xffff_ffff
