-- Document 01, "Verdict on a mesh". Order: no indices; first non-finite vertex; then by triple, a bad index before no area. A short last triple with a bad
-- index reports the index, else no area. Definitions only. Assumes nothing.
use Rattle.std.specs.Prelude.{◌≡◌, ℕ, ◌+◌, ◌*◌, ◌/◌, ◌<◌, Bool, true, false, cond, not, List, length, get_or, ◌==◌, nat_le, nat_lt, slice_index_or, Float, Result, Ok, Err}
use Rattle.std.specs.Float.{nan}
use Rattle.std.specs.Float.Ieee.Scale.{finite}
use Rattle.vector.specs.Coords.{point_finite}
use Rattle.shape.specs.declared.refusal.Refusal.{Refusal}
use Rattle.shape.specs.declared.validate.Flaw.{Flaw}
use Rattle.shape.specs.declared.validate.Flaw.TheVariants.{Past, Flat}
use Rattle.shape.specs.declared.validate.MeshError.{MeshError}
use Rattle.shape.specs.declared.validate.MeshError.TheVariants.{Empty, NonFiniteVertex, IndexOutOfRange, DegenerateTriangle}
use Rattle.shape.specs.Gather.{least}
use Rattle.shape.specs.Refusal.{Answer, taken, refused, number_of, place_of}
use Rattle.shape.specs.Lists.{point_at}
use Rattle.shape.specs.Strip.{no_area}

-- a vertex with a NaN or an infinity
unfoldable pub unsound : List Float → ℕ → Bool
unfolding point_finite point_at
unsound vs i = not (point_finite (point_at vs i))

-- the first n numbers of a list are finite
abbrev pub FiniteBelow : List Float → ℕ → Type 0
FiniteBelow xs n = (k : ℕ) → k < n → finite (slice_index_or xs k nan) ≡ true

-- a triangle of three vertices: it repeats one, or has no area
unfoldable pub flat_or : List Float → ℕ → ℕ → ℕ → Result Unit Flaw
unfolding no_area point_at
flat_or vs a b c =
    cond (a == b) (Err Flat)
    (cond (b == c) (Err Flat)
    (cond (a == c) (Err Flat) (cond (no_area (point_at vs a) (point_at vs b) (point_at vs c)) (Err Flat) (Ok tt))))

-- the corner at a place of the indices, of n vertices: there may be no index, and it may be past them
unfoldable pub corner_of : List ℕ → ℕ → ℕ → Result ℕ Flaw
corner_of is at n = cond (nat_le (length is) at) (Err Flat) (cond (nat_le n (get_or is at 0)) (Err (Past (get_or is at 0))) (Ok (get_or is at 0)))

-- triangle t: the first index that is past the vertices; then a triangle with fewer than three corners
unfoldable pub finding_of : List Float → List ℕ → ℕ → Result Unit Flaw
unfolding flat_or
finding_of vs is t =
    let n = length vs / 3 in
    let a = get_or is (3 * t) 0 in
    let b = get_or is (3 * t + 1) 0 in
    let c = get_or is (3 * t + 2) 0 in
    cond (nat_le n a) (Err (Past a))
    (cond (nat_le (length is) (3 * t + 1)) (Err Flat)
    (cond (nat_le n b) (Err (Past b))
    (cond (nat_le (length is) (3 * t + 2)) (Err Flat)
    (cond (nat_le n c) (Err (Past c)) (flat_or vs a b c)))))

unfoldable pub is_faulty : Result Unit Flaw → Bool
is_faulty (Ok _) = false
is_faulty (Err _) = true

unfoldable pub faulty_at : List Float → List ℕ → ℕ → Bool
unfolding is_faulty finding_of
faulty_at vs is t = is_faulty (finding_of vs is t)

-- how many triangles there are, a short last one counted
abbrev pub triples_of : List ℕ → ℕ
triples_of is = (length is + 2) / 3

-- the verdict with its counts
pub data Validity : Type 0 where
  sound empty : Validity
  non_finite : (vertex : ℕ) → Validity
  out_of_range : (triangle index vertices : ℕ) → Validity
  degenerate : (triangle : ℕ) → Validity

unfoldable pub tell : ℕ → ℕ → Result Unit Flaw → Validity
tell n t (Err (Past i)) = out_of_range t i n
tell n t (Err Flat) = degenerate t
tell n t (Ok none) = sound

unfoldable pub of_triangles : List Float → List ℕ → Validity
unfolding least tell faulty_at
of_triangles vs is =
    let t = least (faulty_at vs is) (triples_of is) in
    cond (nat_lt t (triples_of is)) (tell (length vs / 3) t (finding_of vs is t)) sound

unfoldable pub validity_of : List Float → List ℕ → Validity
unfolding least unsound of_triangles
validity_of vs is =
    let v = least (unsound vs) (length vs / 3) in
    cond (length is == 0) empty (cond (nat_lt v (length vs / 3)) (non_finite v) (of_triangles vs is))

-- what is wrong, or nothing
unfoldable pub verdict_of : Result Unit MeshError → Validity
verdict_of (Ok none) = sound
verdict_of (Err Empty) = empty
verdict_of (Err (NonFiniteVertex v)) = non_finite v
verdict_of (Err (IndexOutOfRange t i n)) = out_of_range t i n
verdict_of (Err (DegenerateTriangle t)) = degenerate t

unfoldable pub read_verdict : Result (Result Unit MeshError) Refusal → Answer Validity
unfolding number_of place_of verdict_of
read_verdict (Ok v) = taken (verdict_of v)
read_verdict (Err r) = refused (number_of r) (place_of r)
