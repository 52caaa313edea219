-- Document 01, "When a call is turned back", over lists: limits, threes and pairs, records and the runs that they have of other lists.
-- Definitions only. Assumes nothing.
use Rattle.std.specs.Prelude.{ℕ, zero, suc, ◌+◌, ◌-◌, ◌*◌, ◌/◌, ◌%◌, Bool, cond, not, ◌||◌, List, length, take, drop, ◌==◌, nat_lt, slice_index, slice_index_or, Float}
use Rattle.std.specs.Float.{nan}
use Rattle.vector.specs.Single.{0f}
use Rattle.vector.specs.Coords.{zero_vector}
use Rattle.vector.specs.declared.coords.Point.{Point}
use Rattle.vector.specs.declared.coords.Vector.{Vector}
use Rattle.shape.specs.Gather.{any}
use Rattle.shape.specs.declared.lists.Mesh as lent
use Rattle.shape.specs.Refusal.{Fault, fine, refuse, or_else}

-- ---- "Limits: lane 4,096 points, tangents, widths or banks (in that order), 1,024 lanes; boundary 256 segments, 4,096 points; ring to clip 1,024; grid 1,024
-- rows, 1,024 a side; mesh 65,536 vertices, 65,536 normals, 196,608 indices, 1,024 spans"

abbrev pub max_lane_points : ℕ
max_lane_points = 4096

abbrev pub max_lanes : ℕ
max_lanes = 1024

abbrev pub max_segments : ℕ
max_segments = 256

abbrev pub max_boundary_points : ℕ
max_boundary_points = 4096

abbrev pub max_ring : ℕ
max_ring = 1024

abbrev pub max_rows : ℕ
max_rows = 1024

abbrev pub max_side : ℕ
max_side = 1024

abbrev pub max_vertices : ℕ
max_vertices = 65536

abbrev pub max_indices : ℕ
max_indices = 196608

abbrev pub max_spans : ℕ
max_spans = 1024

-- ---- elements of u numbers

-- more than `limit` of them, a part one counted
unfoldable pub longer : {A : Type 0} → ℕ → ℕ → List A → Bool
longer u limit xs = nat_lt (u * limit) (length xs)

-- a part one at the end
unfoldable pub uneven : {A : Type 0} → ℕ → List A → Bool
uneven u xs = not (length xs % u == 0)

-- element i of a list of coordinates; past the end, the origin and no displacement
unfoldable pub point_at : List Float → ℕ → Point
point_at xs i =
    cond (nat_lt (3 * i + 2) (length xs))
    (record { x = slice_index_or xs (3 * i) nan; y = slice_index_or xs (3 * i + 1) nan; z = slice_index_or xs (3 * i + 2) nan })
    (record { x = 0f; y = 0f; z = 0f })

unfoldable pub vector_at : List Float → ℕ → Vector
unfolding zero_vector
vector_at xs i =
    cond (nat_lt (3 * i + 2) (length xs))
    (record { x = slice_index_or xs (3 * i) nan; y = slice_index_or xs (3 * i + 1) nan; z = slice_index_or xs (3 * i + 2) nan })
    zero_vector

-- ---- records of w words, and the run of record k whose start is word a and whose end is the word after it

unfoldable pub word_of : ℕ → List ℕ → ℕ → ℕ → ℕ
word_of w ws k j = slice_index ws (w * k + j)

abbrev pub start_of : ℕ → ℕ → List ℕ → ℕ → ℕ
start_of w a ws k = word_of w ws k a

abbrev pub end_of : ℕ → ℕ → List ℕ → ℕ → ℕ
end_of w a ws k = word_of w ws k (a + 1)

-- where the last run ended
unfoldable pub last_end : ℕ → ℕ → List ℕ → ℕ → ℕ
unfolding word_of
last_end w a ws zero = 0
last_end w a ws (suc k) = end_of w a ws k

-- "ragged" of a run of a list of n: it ends before it starts, starts before the last one's end, or ends past its list
unfoldable pub run_bad : ℕ → ℕ → List ℕ → ℕ → ℕ → Bool
unfolding word_of last_end
run_bad w a ws n k = (nat_lt (end_of w a ws k) (start_of w a ws k) || nat_lt (start_of w a ws k) (last_end w a ws k)) || nat_lt n (end_of w a ws k)

-- its declared length is past the limit
unfoldable pub run_long : ℕ → ℕ → List ℕ → ℕ → ℕ → Bool
unfolding word_of
run_long w a ws limit k = nat_lt limit (end_of w a ws k - start_of w a ws k)

-- the run itself, of a list whose elements are of u numbers
unfoldable pub run_of : {A : Type 0} → ℕ → List A → ℕ → ℕ → List A
run_of u xs s e = take (u * e - u * s) (drop (u * s) xs)

-- ---- the lists of a mesh: vertices 0, normals 1, indices 2, spans 3. A span is its lane, its run of vertices and its run of indices.

pub record Mesh : Type 0 where
  pub vertices : List Float
  pub normals : List Float
  pub indices : List ℕ
  pub spans : List ℕ

abbrev pub mesh_lists : List Float → List Float → List ℕ → List ℕ → Mesh
mesh_lists v n i s = record { vertices = v; normals = n; indices = i; spans = s }

-- the lists that a lent mesh points to
abbrev pub lists_of : lent.Mesh → Mesh
lists_of m = mesh_lists m.vertices.now m.normals.now m.indices.now m.spans.now

-- the words of a span, and where its two runs start
abbrev pub span_words : ℕ
span_words = 5

abbrev pub vertices_word : ℕ
vertices_word = 1

abbrev pub indices_word : ℕ
indices_word = 3

-- "order: 1 for input, 2": its limits first, and then what is ragged

unfoldable pub mesh_limits : Mesh → Fault
unfolding refuse longer
mesh_limits m =
    refuse (longer 3 max_vertices m.vertices) 1 max_vertices
    (refuse (longer 3 max_vertices m.normals) 1 max_vertices
    (refuse (longer 1 max_indices m.indices) 1 max_indices
    (refuse (longer span_words max_spans m.spans) 1 max_spans fine)))

-- p is the position of the mesh's first list in the call
unfoldable pub mesh_ragged : ℕ → Mesh → Fault
unfolding refuse uneven any run_bad
mesh_ragged p m =
    refuse (uneven 3 m.vertices) 2 p
    (refuse (uneven 3 m.normals) 2 (p + 1)
    (refuse (uneven span_words m.spans) 2 (p + 3)
    (refuse (any (run_bad span_words vertices_word m.spans (length m.vertices / 3)) (length m.spans / span_words)) 2 (p + 3)
    (refuse (any (run_bad span_words indices_word m.spans (length m.indices)) (length m.spans / span_words)) 2 (p + 3) fine))))

unfoldable pub mesh_fault : Mesh → Fault
unfolding or_else mesh_limits mesh_ragged
mesh_fault m = or_else (mesh_limits m) (mesh_ragged 0 m)
