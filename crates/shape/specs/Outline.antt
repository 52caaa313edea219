-- Document 01, "Junction outline": boundary segments joined to a ring. Definitions only. Assumes nothing.
use Rattle.std.specs.Prelude.{◌≡◌, ℕ, zero, suc, ◌+◌, ◌-◌, ◌*◌, ◌/◌, Bool, true, false, cond, ◌&&◌, List, [], ◌∷◌, ◌++◌, length, get_or, take, ◌==◌, nat_lt, slice_index, slice_index_or, Float, Result}
use Rattle.std.specs.Float.Ieee.{lt, le}
use Rattle.rounding.specs.Hypot.{hypot_of}
use Rattle.rounding.specs.Extremes.{min_of, max_of}
use Rattle.rounding.specs.Thresholds.{milli, tenth}
use Rattle.vector.specs.Single.{◌⊕◌, ◌⊖◌, ◌⊗◌, single, 0f}
use Rattle.vector.specs.declared.coords.Point.{Point}
use Rattle.shape.specs.declared.junction_areas.Outline.{Outline}
use Rattle.shape.specs.Gather.{gather, any}
use Rattle.shape.specs.declared.refusal.Refusal.{Refusal}
use Rattle.shape.specs.Refusal.{Fault, fine, refuse, or_else, Answer, taken, judge, leaves, told}
use Rattle.shape.specs.Lists.{max_segments, max_boundary_points, longer, uneven, point_at, start_of, end_of, run_bad, run_of}

-- ---- distances, in x and y

unfoldable pub reach_of : Point → Point → Float
unfolding hypot_of
reach_of p q = hypot_of (p.x ⊖ q.x) (p.y ⊖ q.y)

-- the greatest single
abbrev pub greatest : Float
greatest = single 0x7f7f_ffff

-- how near p lies to one of the places a and b; a distance that is a NaN or infinite counts as the greatest single
unfoldable pub nearness_of : Point → Point → Point → Float
unfolding reach_of min_of
nearness_of p a b = min_of (min_of greatest (reach_of p a)) (reach_of p b)

-- ---- the segments: each a run of the list of points

-- place i of n from the front, or from the back
unfoldable pub place_from : Bool → ℕ → ℕ → ℕ
place_from back n i = cond back (n - suc i) i

-- point i of a segment, from its start, or from its end where it is reversed
unfoldable pub point_from : Bool → List Float → ℕ → Point
unfolding point_at place_from
point_from back s i = point_at s (place_from back (length s / 3) i)

abbrev pub first_of : List Float → Point
first_of s = point_at s 0

abbrev pub final_of : List Float → Point
final_of s = point_at s (length s / 3 - 1)

-- segment k's number, if the segment is not empty; the numbers of those among the first m that are not
unfoldable pub solid_at : List ℕ → ℕ → List ℕ
solid_at ws k = cond (nat_lt (start_of 2 0 ws k) (end_of 2 0 ws k)) (k ∷ []) []

unfoldable pub solid : List ℕ → ℕ → List ℕ
unfolding gather solid_at
solid ws m = gather (solid_at ws) m

-- how many are not empty, and how many are dropped
abbrev pub solids : List ℕ → ℕ
solids ws = length (solid ws (length ws / 2))

abbrev pub dropped_of : List ℕ → ℕ
dropped_of ws = length ws / 2 - solids ws

-- segment k of all, and segment i of those that are not empty
unfoldable pub segment_of : List ℕ → List Float → ℕ → List Float
unfolding run_of
segment_of ws xs k = run_of 3 xs (start_of 2 0 ws k) (end_of 2 0 ws k)

unfoldable pub segment_at : List ℕ → List Float → ℕ → List Float
unfolding segment_of solid
segment_at ws xs i = segment_of ws xs (slice_index (solid ws (length ws / 2)) i)

-- ---- the ring

unfoldable pub origin : Point
origin = record { x = 0f; y = 0f; z = 0f }

-- its first and its last point; the origin where there is none
abbrev pub head_of : List Point → Point
head_of ring = slice_index_or ring 0 origin

abbrev pub last_of : List Point → Point
last_of ring = slice_index_or ring (length ring - 1) origin

-- a point is added if it is more than 1e-3 (0x3a83126f) from the last, or if it is the first of all
unfoldable pub is_new : List Point → Point → Bool
unfolding reach_of origin lt
is_new [] p = true
is_new (q ∷ ring) p = lt milli (reach_of p (last_of (q ∷ ring)))

unfoldable pub added : List Point → Point → List Point
unfolding is_new
added ring p = cond (is_new ring p) (ring ++ p ∷ []) ring

-- the ring after the first n points of a segment
unfoldable pub extended : List Point → Bool → List Float → ℕ → List Point
unfolding added point_from
extended ring back s zero = ring
extended ring back s (suc n) = added (extended ring back s n) (point_from back s n)

-- "The first is reversed if its start is strictly nearer the second's ends": s is the first and t the second
unfoldable pub turns_first : List Float → List Float → Bool
unfolding nearness_of point_at lt
turns_first s t = lt (nearness_of (first_of s) (first_of t) (final_of t)) (nearness_of (final_of s) (first_of t) (final_of t))

-- "later ones if their end is strictly nearer the ring's end"
unfoldable pub turns_later : Point → List Float → Bool
unfolding reach_of point_at lt
turns_later end s = lt (reach_of end (final_of s)) (reach_of end (first_of s))

-- whether segment i of those that are not empty is reversed, where the ring before it ends at `end`
unfoldable pub turns_at : List ℕ → List Float → ℕ → Point → Bool
unfolding turns_first turns_later segment_at
turns_at ws xs zero end = cond (nat_lt 1 (solids ws)) (turns_first (segment_at ws xs 0) (segment_at ws xs 1)) false
turns_at ws xs (suc i) end = turns_later end (segment_at ws xs (suc i))

-- the greatest gap up to the start of that segment as turned, where `gap` is the greatest before
unfoldable pub gap_at : List ℕ → List Float → ℕ → Point → Float → Float
unfolding turns_at point_from reach_of max_of segment_at
gap_at ws xs zero end gap = gap
gap_at ws xs (suc i) end gap = max_of gap (reach_of end (point_from (turns_at ws xs (suc i) end) (segment_at ws xs (suc i)) 0))

-- the ring of the first n segments that are not empty, and the greatest gap between them
pub record Line : Type 0 where
  pub ring : List Point
  pub gap : Float

unfoldable pub joined : List ℕ → List Float → ℕ → Line
unfolding extended turns_at gap_at segment_at
joined ws xs zero = record { ring = []; gap = 0f }
joined ws xs (suc i) =
    let l = joined ws xs i in
    let s = segment_at ws xs i in
    let end = last_of l.ring in
    record { ring = extended l.ring (turns_at ws xs i end) s (length s / 3); gap = gap_at ws xs i end l.gap }

-- the greatest gap, from the last point to the first included. With no points both are the origin, and it is 0.
unfoldable pub widest : Line → Float
unfolding reach_of max_of origin
widest l = max_of l.gap (reach_of (last_of l.ring) (head_of l.ring))

-- "One closing point within 1e-3 of the first goes"
unfoldable pub closing : List Point → Bool
unfolding reach_of origin le
closing ring = nat_lt 1 (length ring) && le (reach_of (head_of ring) (last_of ring)) milli

unfoldable pub closed_up : List Point → List Point
unfolding closing
closed_up ring = cond (closing ring) (take (length ring - 1) ring) ring

-- ---- its area: the sum of a.x b.y - b.x a.y over its sides from a to b, twice the area

-- the place after i on a ring of n: the first after the last
unfoldable pub next_on : ℕ → ℕ → ℕ
next_on n i = cond (i + 1 == n) 0 (i + 1)

unfoldable pub side_at : List Point → ℕ → Float
unfolding origin next_on
side_at ring i =
    let a = get_or ring i origin in
    let b = get_or ring (next_on (length ring) i) origin in
    a.x ⊗ b.y ⊖ b.x ⊗ a.y

-- the sides 0 to n
unfoldable pub area_to : List Point → ℕ → Float
unfolding side_at
area_to ring zero = side_at ring 0
area_to ring (suc n) = area_to ring n ⊕ side_at ring (suc n)

unfoldable pub area_of : List Point → Float
unfolding area_to
area_of ring = area_to ring (length ring - 1)

-- ---- the answer, and what is written

abbrev pub whole_line : List ℕ → List Float → Line
whole_line ws xs = joined ws xs (solids ws)

unfoldable pub ring_of : List ℕ → List Float → List Point
unfolding closed_up joined
ring_of ws xs = closed_up (whole_line ws xs).ring

-- "A ring of area below 0 is reversed"
unfoldable pub turned_of : List Point → Bool
unfolding area_of lt
turned_of ring = lt (area_of ring) 0f

-- the points of a ring from the front, or from the back
unfoldable pub reversed_at : Bool → List Point → ℕ → List Point
unfolding place_from origin
reversed_at back ring i = slice_index_or ring (place_from back (length ring) i) origin ∷ []

unfoldable pub reversed : Bool → List Point → List Point
unfolding gather reversed_at
reversed back ring = gather (reversed_at back ring) (length ring)

-- the coordinates of a list of points
unfoldable pub flat : List Point → List Float
flat [] = []
flat (p ∷ ps) = p.x ∷ p.y ∷ p.z ∷ flat ps

unfoldable pub result_of : List ℕ → List Float → List Float
unfolding flat reversed turned_of ring_of
result_of ws xs = flat (reversed (turned_of (ring_of ws xs)) (ring_of ws xs))

-- "closed (gap at most 0.1)" (0x3dcccccd)
unfoldable pub outline_of : List ℕ → List Float → Outline
unfolding ring_of widest turned_of le solid
outline_of ws xs =
    record {
      count = length (ring_of ws xs);
      dropped = dropped_of ws;
      gap = widest (whole_line ws xs);
      closed = le (widest (whole_line ws xs)) tenth;
      turned = turned_of (ring_of ws xs);
    }

-- ---- when it is turned back: segments are list 0 and points are list 1

unfoldable pub outline_limits : List ℕ → List Float → Fault
unfolding refuse longer
outline_limits ws xs = refuse (longer 2 max_segments ws) 1 max_segments (refuse (longer 3 max_boundary_points xs) 1 max_boundary_points fine)

unfoldable pub outline_ragged : List ℕ → List Float → Fault
unfolding refuse uneven any run_bad
outline_ragged ws xs =
    refuse (uneven 2 ws) 2 0
    (refuse (any (run_bad 2 0 ws (length xs / 3)) (length ws / 2)) 2 0
    (refuse (uneven 3 xs) 2 1 fine))

unfoldable pub outline_fault : List ℕ → List Float → Fault
unfolding or_else outline_limits outline_ragged
outline_fault ws xs = or_else (outline_limits ws xs) (outline_ragged ws xs)

-- an output of `room` floats is short
unfoldable pub short_fault : List ℕ → List Float → ℕ → Fault
unfolding refuse ring_of
short_fault ws xs room = refuse (nat_lt room (3 * length (ring_of ws xs))) 3 (3 * length (ring_of ws xs)) fine

unfoldable pub outline_answer : List ℕ → List Float → ℕ → Answer Outline
unfolding judge outline_fault short_fault outline_of
outline_answer ws xs room = judge (outline_fault ws xs) (judge (short_fault ws xs room) (taken (outline_of ws xs)))

-- the promise of the call: its answer, and what it leaves in the output that held `before`
pub record Outlines (ws : List ℕ) (xs before after : List Float) (answer : Result Outline Refusal) : Type 0 where
  pub given : told answer ≡ outline_answer ws xs (length before)
  pub memory : after ≡ leaves (outline_answer ws xs (length before)) (result_of ws xs) before
