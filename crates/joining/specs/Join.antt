-- Document 02, "Lanes and junctions as one surface": two meshes joined, and why a joining is turned back. Definitions only. Assumes nothing.
use Rattle.std.specs.Prelude.{ℕ, ◌+◌, ◌/◌, Bool, cond, not, ◌&&◌, List, [], ◌∷◌, ◌++◌, length, map, ◌==◌, nat_le, nat_lt, slice_index}
use Rattle.std.specs.Float.Ieee.{lt}
use Rattle.shape.specs.Gather.{gather, least}
use Rattle.shape.specs.Lists.{Mesh, mesh_lists, span_words, uneven, word_of, mesh_limits, mesh_ragged}
use Rattle.shape.specs.MeshMemory.{lengths_of, mesh_room}
use Rattle.shape.specs.Refusal.{Fault, fine, refuse, or_else, Answer, taken, judge}
use Rattle.shape.specs.SurfaceMesh.{counts_of}
use Rattle.shape.specs.declared.mesh.MeshCounts.{MeshCounts}
use Rattle.lookup.specs.Plain.{Lookup, gives, none}

-- ---- the whole

-- "its numbers moved up": indices by the vertices before them
unfoldable pub indices_up : ℕ → List ℕ → List ℕ
indices_up v is = map (λ (i : ℕ). v + i) is

-- a span keeps its lane; its run of vertices moves by the vertices before it, its run of indices by the indices
unfoldable pub span_up : ℕ → ℕ → List ℕ → ℕ → List ℕ
unfolding word_of
span_up v i ss k =
    word_of span_words ss k 0
    ∷ (v + word_of span_words ss k 1)
    ∷ (v + word_of span_words ss k 2)
    ∷ (i + word_of span_words ss k 3)
    ∷ (i + word_of span_words ss k 4)
    ∷ []

unfoldable pub spans_up : ℕ → ℕ → List ℕ → List ℕ
unfolding span_up gather
spans_up v i ss = gather (span_up v i ss) (length ss / span_words)

-- how many vertices a mesh has
abbrev pub points : Mesh → ℕ
points m = length m.vertices / 3

-- "vertices, normals, triangles and lane spans of the first, then of the second"
unfoldable pub join_of : Mesh → Mesh → Mesh
unfolding indices_up spans_up
join_of a b =
    record {
      vertices = a.vertices ++ b.vertices;
      normals = a.normals ++ b.normals;
      indices = a.indices ++ indices_up (points a) b.indices;
      spans = a.spans ++ spans_up (points a) (length a.indices) b.spans;
    }

-- the part that changes nothing
abbrev pub empty : Mesh
empty = mesh_lists [] [] [] []

-- ---- the refusals

-- "index lists must come in threes, or the part is ragged": told after its coordinates and before its spans. The part's lists stand from position p on
unfoldable pub part_ragged : ℕ → Mesh → Fault
unfolding refuse uneven mesh_ragged
part_ragged p m = refuse (not (uneven 3 m.vertices) && not (uneven 3 m.normals) && uneven 3 m.indices) 2 (p + 2) (mesh_ragged p m)

-- "7, odd normals, when a part's normals and vertices differ in count"
unfoldable pub odd_normals : Mesh → Bool
odd_normals m = not (length m.normals / 3 == points m)

-- "8, loose corner, when an index is past its own part's vertices": index k is, and the place of the first that is, or how many indices there are
unfoldable pub loose : Mesh → ℕ → Bool
loose m k = nat_le (points m) (slice_index m.indices k)

unfoldable pub first_loose : Mesh → ℕ
unfolding loose least
first_loose m = least (loose m) (length m.indices)

-- "with its place in the two index lists laid end to end", of a part with `before` indices before its own
unfoldable pub loose_fault : ℕ → Mesh → Fault
unfolding first_loose refuse
loose_fault before m = refuse (nat_lt (first_loose m) (length m.indices)) 8 (before + first_loose m) fine

-- "both after 2, in this order": the first part's lists are 0 to 3, the second's 4 to 7
unfoldable pub parts_fault : Mesh → Mesh → Fault
unfolding part_ragged odd_normals loose_fault refuse or_else
parts_fault a b =
    or_else (part_ragged 0 a)
    (or_else (part_ragged 4 b)
    (refuse (odd_normals a) 7 0
    (refuse (odd_normals b) 7 1
    (or_else (loose_fault 0 a) (loose_fault (length a.indices) b)))))

-- all limits before that
unfoldable pub input_fault : Mesh → Mesh → Fault
unfolding mesh_limits parts_fault or_else
input_fault a b = or_else (mesh_limits a) (or_else (mesh_limits b) (parts_fault a b))

-- the refusals of the whole call, for lent lists as long as `before`'s
unfoldable pub call_fault : Mesh → Mesh → Mesh → Fault
unfolding input_fault join_of or_else
call_fault a b before = or_else (input_fault a b) (mesh_room (join_of a b) before)

-- ---- the answer to a call that is lent the memory `before`; it leaves `leaves_mesh (join_answer a b before) (join_of a b) before`

unfoldable pub join_answer : Mesh → Mesh → Mesh → Answer MeshCounts
unfolding call_fault judge counts_of
join_answer a b before = judge (call_fault a b before) (taken (counts_of (lengths_of (join_of a b))))

-- ---- the lookup on the whole

-- a triangle of the second part, by its number in the whole where the first part has n
unfoldable pub moved : ℕ → Lookup → Lookup
moved n (gives h u k) = gives h u (n + k)
moved n none = none

-- "the higher of the two parts' answers, the first part's if equal"
unfoldable pub higher : ℕ → Lookup → Lookup → Lookup
unfolding moved
higher n none q = moved n q
higher n (gives h u k) none = gives h u k
higher n (gives h u k) (gives g w j) = cond (lt h g) (gives g w (n + j)) (gives h u k)
