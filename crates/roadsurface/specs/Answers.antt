-- What an exported function says of the inner call's answer: the code that it returns, and what it leaves in each number that it is lent. Definitions
-- only. Assumes nothing.
use Rattle.std.specs.Prelude.{ℕ, ◌+◌, ◌*◌, ◌^◌, Bool, cond, not, ◌&&◌, nat_lt, ◌==◌, List, [], Float, Option, Some, None}
use Rattle.shape.specs.Refusal.{Fault, fine, refuse, Answer, taken, refused, judge}
use Rattle.shape.specs.declared.elevation.ElevationGrid.{ElevationGrid}
use Rattle.shape.specs.Elevation.{Spot}
use Rattle.shape.specs.Lists.{Mesh}
use Rattle.shape.specs.Outline.{result_of}
use Rattle.shape.specs.Verdict.{Validity, sound, empty, non_finite, out_of_range, degenerate}
use Rattle.surface.specs.Sentence.{sentence_of, sentence_answer}
use Rattle.lookup.specs.Plain.{answer_of}
use Rattle.lookup.specs.Sampler.{Sample}
use Rattle.lookup.specs.Batch.{word_for}
use Rattle.lookup.specs.Record.{plain_sample}

-- ---- the code and the numbers. A count or a place past 32 bits is told as ffffffff (`word_for`)

unfoldable pub code_for : ℕ → ℕ → ℕ
unfolding word_for
code_for number place = number * 2 ^ 32 + word_for place

-- the code of a refusal's number and place; of a call that is taken, its count
unfoldable pub code_of : {A : Type 0} → (A → ℕ) → Answer A → ℕ
unfolding word_for code_for
code_of count (taken a) = word_for (count a)
code_of count (refused number place) = code_for number place

-- what is left in a number that held `before`: what a call that is taken puts there; of a refused call, what stood there
unfoldable pub left_in : {A B : Type 0} → (A → B → B) → Answer A → B → B
left_in put (taken a) before = put a before
left_in put (refused number place) before = before

-- a test as a number
abbrev pub bit_of : Bool → ℕ
bit_of b = cond b 1 0

-- ---- a height in an elevation grid: 1 found or 0 none, and the height, which none leaves as it was

unfoldable pub found_in : Spot → ℕ
found_in (Some z) = 1
found_in None = 0

unfoldable pub height_put : Spot → Float → Float
height_put (Some z) before = z
height_put None before = before

-- ---- the verdict on a mesh: its kind; the vertex or the triangle; the index that is past the vertices, and how many these are

unfoldable pub kind_of : Validity → ℕ
kind_of sound = 0
kind_of empty = 1
kind_of (non_finite vertex) = 2
kind_of (out_of_range triangle index vertices) = 3
kind_of (degenerate triangle) = 4

unfoldable pub place_put : Validity → ℕ → ℕ
unfolding word_for
place_put sound before = before
place_put empty before = before
place_put (non_finite vertex) before = word_for vertex
place_put (out_of_range triangle index vertices) before = word_for triangle
place_put (degenerate triangle) before = word_for triangle

unfoldable pub index_put : Validity → ℕ → ℕ
unfolding word_for
index_put sound before = before
index_put empty before = before
index_put (non_finite vertex) before = before
index_put (out_of_range triangle index vertices) before = word_for index
index_put (degenerate triangle) before = before

unfoldable pub vertices_put : Validity → ℕ → ℕ
unfolding word_for
vertices_put sound before = before
vertices_put empty before = before
vertices_put (non_finite vertex) before = before
vertices_put (out_of_range triangle index vertices) before = word_for vertices
vertices_put (degenerate triangle) before = before

-- ---- what is lent as numbers

-- an elevation grid's origin, its heading's sine and cosine, its start and spacing
abbrev pub grid_of : Float → Float → Float → Float → Float → Float → ElevationGrid
grid_of x y sin cos start spacing = record { origin_x = x; origin_y = y; sin = sin; cos = cos; start = start; spacing = spacing }

-- a grid that may be missing
unfoldable pub grid_if : Bool → ElevationGrid → Option ElevationGrid
grid_if there g = cond there (Some g) None

-- ---- a verdict by its kind and counts

-- how many counts a verdict of this kind has
unfoldable pub counts_used : ℕ → ℕ
counts_used kind = cond (kind == 3) 3 (cond (kind == 2) 1 (cond (kind == 4) 1 0))

-- count k, from 1, is none of the kind's, and not 0
unfoldable pub idle : ℕ → ℕ → ℕ → Bool
unfolding counts_used
idle kind k n = nat_lt (counts_used kind) k && not (n == 0)

-- what is no verdict: by the first value that is wrong
unfoldable pub verdict_fault : ℕ → ℕ → ℕ → ℕ → Fault
unfolding idle refuse
verdict_fault kind a b c = refuse (nat_lt 4 kind) 6 0 (refuse (idle kind 1 a) 6 1 (refuse (idle kind 2 b) 6 2 (refuse (idle kind 3 c) 6 3 fine)))

unfoldable pub verdict_by : ℕ → ℕ → ℕ → ℕ → Validity
verdict_by kind a b c = cond (kind == 0) sound (cond (kind == 1) empty (cond (kind == 2) (non_finite a) (cond (kind == 3) (out_of_range a b c) (degenerate a))))

unfoldable pub verdict_given : ℕ → ℕ → ℕ → ℕ → Answer Validity
unfolding verdict_fault verdict_by judge
verdict_given kind a b c = judge (verdict_fault kind a b c) (taken (verdict_by kind a b c))

-- what writing it answers, and what is written
unfoldable pub written_answer : Answer Validity → ℕ → Answer ℕ
unfolding sentence_answer
written_answer (taken v) room = sentence_answer v room
written_answer (refused number place) room = refused number place

unfoldable pub written_of : Answer Validity → List ℕ
unfolding sentence_of
written_of (taken v) = sentence_of v
written_of (refused number place) = []

-- ---- by other names

-- the plain lookup's answer, which names no lane; and the coordinates of the ring
abbrev pub plain_answer : Mesh → Float → Float → Answer Sample
plain_answer m x y = plain_sample (answer_of m x y)

abbrev pub ring_floats : List ℕ → List Float → List Float
ring_floats = result_of
