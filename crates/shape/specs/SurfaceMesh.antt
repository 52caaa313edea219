-- Document 01, "Lane strips", the whole call: the lanes, the refusals, the mesh, and the answer with what it leaves in the lent memory.
-- Definitions only. Assumes nothing.
use Rattle.std.specs.Prelude.{ℕ, zero, suc, ◌+◌, ◌/◌, List, [], ◌∷◌, length, Float}
use Rattle.vector.specs.Single.{single}
use Rattle.shape.specs.declared.memory.Lengths.{Lengths}
use Rattle.shape.specs.declared.mesh.Lanes as lent
use Rattle.shape.specs.declared.mesh.MeshCounts.{MeshCounts}
use Rattle.shape.specs.Gather.{gather, any}
use Rattle.shape.specs.Refusal.{Fault, fine, refuse, or_else, Answer, taken, judge}
use Rattle.shape.specs.Lists.{max_lane_points, max_lanes, span_words, longer, uneven, word_of, start_of, end_of, run_bad, run_long, run_of, Mesh}
use Rattle.shape.specs.MeshMemory.{lengths_of, room_fault}
use Rattle.shape.specs.Strip.{Lane, lane_lists, kept, vertices_of, normals_of, indices_of}

-- ---- the lanes

-- what a call is given: points 0, tangents 1, widths 2, banks 3, lanes 4. A lane is ten words: its id; the start and the end of its
-- points, of its tangents, of its widths and of its banks; the bits of its default width.
pub record Given : Type 0 where
  pub points : List Float
  pub tangents : List Float
  pub widths : List Float
  pub banks : List Float
  pub lanes : List ℕ

abbrev pub given : List Float → List Float → List Float → List Float → List ℕ → Given
given ps ts ws bs ls = record { points = ps; tangents = ts; widths = ws; banks = bs; lanes = ls }

-- what lent lanes point to
abbrev pub given_of : lent.Lanes → Given
given_of l = given l.points.now l.tangents.now l.widths.now l.banks.now l.records.now

-- how many words that is, the words of the id and of the default width, and where the four runs start
abbrev pub lane_words : ℕ
lane_words = 10

abbrev pub id_word : ℕ
id_word = 0

abbrev pub points_word : ℕ
points_word = 1

abbrev pub tangents_word : ℕ
tangents_word = 3

abbrev pub widths_word : ℕ
widths_word = 5

abbrev pub banks_word : ℕ
banks_word = 7

abbrev pub width_word : ℕ
width_word = 9

abbrev pub lanes_of : Given → ℕ
lanes_of g = length g.lanes / lane_words

-- lane k's run of a list whose elements are of u numbers; the run's start is word a
unfoldable pub lane_run : ℕ → List Float → List ℕ → ℕ → ℕ → List Float
lane_run u xs ls a k = run_of u xs (start_of lane_words a ls k) (end_of lane_words a ls k)

unfoldable pub lane_at : Given → ℕ → Lane
lane_at g k =
    lane_lists (lane_run 3 g.points g.lanes points_word k) (lane_run 3 g.tangents g.lanes tangents_word k)
    (lane_run 1 g.widths g.lanes widths_word k) (lane_run 2 g.banks g.lanes banks_word k) (single (word_of lane_words g.lanes k width_word))

-- ---- the refusals of the input

-- "oversize": runs of more than 4,096 points, tangents, widths or banks, then more than 1,024 lanes
unfoldable pub lane_limits : List ℕ → Fault
lane_limits ls =
    let n : ℕ = length ls / lane_words in
    refuse (any (run_long lane_words points_word ls max_lane_points) n) 1 max_lane_points
    (refuse (any (run_long lane_words tangents_word ls max_lane_points) n) 1 max_lane_points
    (refuse (any (run_long lane_words widths_word ls max_lane_points) n) 1 max_lane_points
    (refuse (any (run_long lane_words banks_word ls max_lane_points) n) 1 max_lane_points
    (refuse (longer lane_words max_lanes ls) 1 max_lanes fine))))

-- "ragged": lists not in their units, then the lanes' runs
unfoldable pub runs_ragged : Given → Fault
runs_ragged g =
    let n : ℕ = lanes_of g in
    refuse (any (run_bad lane_words points_word g.lanes (length g.points / 3)) n) 2 4
    (refuse (any (run_bad lane_words tangents_word g.lanes (length g.tangents / 3)) n) 2 4
    (refuse (any (run_bad lane_words widths_word g.lanes (length g.widths)) n) 2 4
    (refuse (any (run_bad lane_words banks_word g.lanes (length g.banks / 2)) n) 2 4 fine)))

unfoldable pub lane_ragged : Given → Fault
lane_ragged g =
    refuse (uneven 3 g.points) 2 0
    (refuse (uneven 3 g.tangents) 2 1
    (refuse (uneven 2 g.banks) 2 3
    (refuse (uneven lane_words g.lanes) 2 4 (runs_ragged g))))

unfoldable pub input_fault : Given → Fault
input_fault g = or_else (lane_limits g.lanes) (lane_ragged g)

-- ---- the mesh: the strips of the lanes, one after another

unfoldable pub lane_vertices : Given → ℕ → List Float
lane_vertices g k = vertices_of (lane_at g k) (kept (lane_at g k))

unfoldable pub lane_normals : Given → ℕ → List Float
lane_normals g k = normals_of (lane_at g k) (kept (lane_at g k))

-- the number of lane k's first vertex, and of its first index
abbrev pub base_of : Given → ℕ → ℕ
base_of g k = length (gather (lane_vertices g) k) / 3

unfoldable pub lane_indices : Given → ℕ → List ℕ
lane_indices g k = indices_of (base_of g k) (lane_at g k) (kept (lane_at g k))

abbrev pub index_of : Given → ℕ → ℕ
index_of g k = length (gather (lane_indices g) k)

-- a span: the lane's id, the run of its vertices and the run of its indices. A lane that is skipped has none.
unfoldable pub span_of : ℕ → ℕ → ℕ → ℕ → ℕ → ℕ → List ℕ
span_of zero id v v' i i' = []
span_of (suc ribs) id v v' i i' = id ∷ v ∷ v' ∷ i ∷ i' ∷ []

unfoldable pub lane_span : Given → ℕ → List ℕ
lane_span g k = span_of (length (kept (lane_at g k))) (word_of lane_words g.lanes k id_word) (base_of g k) (base_of g (k + 1)) (index_of g k) (index_of g (k + 1))

unfoldable pub mesh_of : Given → Mesh
mesh_of g =
    let n : ℕ = lanes_of g in
    record {
      vertices = gather (lane_vertices g) n;
      normals = gather (lane_normals g) n;
      indices = gather (lane_indices g) n;
      spans = gather (lane_span g) n;
    }

-- ---- the answer

-- what is counted: vertices and normals in threes of coordinates, indices one by one, spans in fives of words
unfoldable pub counts_of : Lengths → MeshCounts
counts_of made = record { vertices = made.vertices / 3; normals = made.normals / 3; indices = made.indices; spans = made.spans / span_words }

-- the refusals of the whole call, for lent lists of such lengths
unfoldable pub call_fault : Given → Lengths → Fault
call_fault g lent = or_else (input_fault g) (room_fault (lengths_of (mesh_of g)) lent)

-- the answer to a call that is lent the memory `before`; it leaves `leaves_mesh (answer_of g before) (mesh_of g) before`
unfoldable pub answer_of : Given → Mesh → Answer MeshCounts
answer_of g before = judge (call_fault g (lengths_of before)) (taken (counts_of (lengths_of (mesh_of g))))
