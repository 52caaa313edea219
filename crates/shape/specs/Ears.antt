-- Document 01, "Junction triangles": the ears of a ring in plan, and the call that cuts them. Definitions only. Assumes nothing.
use Rattle.std.specs.Prelude.{ℕ, zero, suc, ◌+◌, ◌-◌, ◌/◌, ◌%◌, Bool, cond, not, ◌&&◌, List, [], ◌∷◌, ◌++◌, length, take, drop, ◌==◌, nat_lt, slice_index, Float}
use Rattle.std.specs.Float.Ieee.{le, lt}
use Rattle.vector.specs.Single.{◌⊖◌, ◌⊗◌, 0f}
use Rattle.vector.specs.declared.coords.Point.{Point}
use Rattle.shape.specs.Gather.{gather, any, least}
use Rattle.shape.specs.Lists.{max_ring, point_at, longer, uneven}
use Rattle.shape.specs.Refusal.{Fault, fine, refuse, Answer, taken, judge}

-- ---- in plan

-- twice the area of the triangle o a b, above zero where it runs counter-clockwise
unfoldable pub cross : Point → Point → Point → Float
cross o a b = (a.x ⊖ o.x) ⊗ (b.y ⊖ o.y) ⊖ (a.y ⊖ o.y) ⊗ (b.x ⊖ o.x)

-- p is in the triangle a b c or on its border
unfoldable pub inside : Point → Point → Point → Point → Bool
unfolding cross le
inside a b c p = le 0f (cross a b p) && (le 0f (cross b c p) && le 0f (cross c a p))

-- ---- the points left, a list of their numbers in the ring

-- the positions before and after k, the list closed to a ring
abbrev pub before : ℕ → ℕ → ℕ
before n k = (k + n - 1) % n

abbrev pub after : ℕ → ℕ → ℕ
after n k = (k + 1) % n

-- the number at a position
abbrev pub at : List ℕ → ℕ → ℕ
at left k = slice_index left k

-- the points a b c turn left
unfoldable pub turns_left : List Float → ℕ → ℕ → ℕ → Bool
unfolding cross lt
turns_left ring a b c = lt 0f (cross (point_at ring a) (point_at ring b) (point_at ring c))

-- point p is in the triangle of the points a b c, and is none of them
unfoldable pub blocks : List Float → ℕ → ℕ → ℕ → ℕ → Bool
unfolding inside point_at
blocks ring a b c p =
    (not (p == a) && (not (p == b) && not (p == c)))
    && inside (point_at ring a) (point_at ring b) (point_at ring c) (point_at ring p)

abbrev pub blocks_at : List Float → List ℕ → ℕ → ℕ → ℕ → ℕ → Bool
blocks_at ring left a b c m = blocks ring a b c (at left m)

-- the points a b c turn left, and no other point left is in their triangle
unfoldable pub ear_of : List Float → List ℕ → ℕ → ℕ → ℕ → Bool
unfolding turns_left blocks any
ear_of ring left a b c = turns_left ring a b c && not (any (blocks_at ring left a b c) (length left))

-- a position and its two neighbours are an ear
unfoldable pub is_ear : List Float → List ℕ → ℕ → Bool
unfolding ear_of
is_ear ring left k = ear_of ring left (at left (before (length left) k)) (at left k) (at left (after (length left) k))

-- the first ear by position; as many as there are positions where there is none
unfoldable pub first_ear : List Float → List ℕ → ℕ
unfolding is_ear least
first_ear ring left = least (is_ear ring left) (length left)

-- ---- cutting

-- the ear at a position: three numbers
unfoldable pub ear_at : List ℕ → ℕ → List ℕ
ear_at left k = at left (before (length left) k) ∷ at left k ∷ at left (after (length left) k) ∷ []

-- the points left without that at a position
unfoldable pub without : List ℕ → ℕ → List ℕ
without left k = take k left ++ drop (suc k) left

-- the last three, if they turn left
unfoldable pub last_ear : List Float → List ℕ → List ℕ
unfolding turns_left
last_ear ring left =
    cond (length left == 3 && turns_left ring (at left 0) (at left 1) (at left 2)) (at left 0 ∷ at left 1 ∷ at left 2 ∷ []) []

-- the ears of the points left, of which there are `more` above three: the first is cut, then those of the rest; with no ear, cutting stops
unfoldable pub cut_ears : List Float → ℕ → List ℕ → List ℕ
unfolding first_ear ear_at without last_ear
cut_ears ring zero left = last_ear ring left
cut_ears ring (suc more) left =
    let k = first_ear ring left in
    cond (nat_lt k (length left)) (ear_at left k ++ cut_ears ring more (without left k)) []

-- the numbers below n, in order
unfoldable pub up_to : ℕ → List ℕ
unfolding gather
up_to n = gather (λ i. i ∷ []) n

-- the ears of a ring, three numbers each
unfoldable pub ears_of : List Float → List ℕ
unfolding cut_ears up_to
ears_of ring = cut_ears ring (length ring / 3 - 3) (up_to (length ring / 3))

-- ---- the call

-- the ring is list 0, with a limit of 1,024 points
unfoldable pub ring_fault : List Float → Fault
unfolding refuse longer uneven
ring_fault ring = refuse (longer 3 max_ring ring) 1 max_ring (refuse (uneven 3 ring) 2 0 fine)

-- with room for that many numbers: how many ears
unfoldable pub ears_answer : List Float → ℕ → Answer ℕ
unfolding ring_fault refuse judge
ears_answer ring room =
    judge (ring_fault ring) (judge (refuse (nat_lt room (length (ears_of ring))) 3 (length (ears_of ring)) fine) (taken (length (ears_of ring) / 3)))
