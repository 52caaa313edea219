-- Steps on the way to the mesh of lanes, which only the contracts of private functions cite. Definitions only. Assumes nothing.
use Rattle.std.specs.Prelude.{◌≡◌, ℕ, ◌+◌, ◌-◌, ◌*◌, ◌/◌, ◌≤◌, true, List, length, Float}
use Rattle.std.specs.Float.Ieee.{le}
use Rattle.vector.specs.Single.{single, 1f}
use Rattle.shape.specs.declared.memory.Lengths.{Lengths}
use Rattle.shape.specs.declared.rib.Walk.{Walk}
use Rattle.shape.specs.declared.strip.At.{At}
use Rattle.shape.specs.Gather.{gather}
use Rattle.shape.specs.Memory.{Put}
use Rattle.shape.specs.Lists.{max_lane_points, max_vertices, max_indices, span_words, start_of, end_of}
use Rattle.shape.specs.Strip.{Lane, kept, leg_out, rib_at, vertices_of, normals_of, indices_of}
use Rattle.shape.specs.SurfaceMesh.{lane_words, points_word, Given, lane_vertices, lane_normals, lane_indices, lane_span, span_of}

-- ---- ribs

-- a corner at which nothing is pinched: the sine of half the turn is at most 1/16, both legs are at least 1, and h at most 7
pub record Mild (eats inc out h : Float) : Type 0 where
  pub turn : le eats (single 0x3b80_0000) ≡ true
  pub into : le 1f inc ≡ true
  pub away : le 1f out ≡ true
  pub narrow : le h (single 0x40e0_0000) ≡ true

-- the rib with the leg out of its point
unfoldable pub walk_at : Lane → List ℕ → ℕ → Walk
walk_at l ks i = record { rib = rib_at l ks i; out = leg_out l.points ks i }

-- ---- lanes

-- the lengths of the lists that are written up to `at`
abbrev pub lengths_at : At → Lengths
lengths_at at = record { vertices = at.floats; normals = at.floats; indices = at.index; spans = at.word }

-- what a lane with the strip l adds to the sizes `at`, which gives r
pub record Grown (l : Lane) (at r : At) : Type 0 where
  pub floats : r.floats ≡ at.floats + length (vertices_of l (kept l))
  pub index : (v : ℕ) → r.index ≡ at.index + length (indices_of v l (kept l))
  pub word : (id v v' i i' : ℕ) → r.word ≡ at.word + length (span_of (length (kept l)) id v v' i i')
  pub few_floats : r.floats ≤ at.floats + 24576
  pub few_index : r.index ≤ at.index + 24576
  pub few_words : r.word ≤ at.word + span_words

-- the most that lane k can add to the sizes `at`, which gives r: n ribs, a rib for each point or two
pub record Topped (ls : List ℕ) (k : ℕ) (at r : At) : Type 0 where
  pub ribs : ℕ
  pub enough : end_of lane_words points_word ls k - start_of lane_words points_word ls k ≤ ribs
  pub two : 2 ≤ ribs
  pub few : ribs ≤ max_lane_points
  pub floats : r.floats ≡ at.floats + 6 * ribs
  pub index : r.index ≡ at.index + 6 * (ribs - 1)
  pub word : r.word ≡ at.word + span_words

-- the mesh of the first n lanes is within the sizes r
pub record Enough (g : Given) (n : ℕ) (r : At) : Type 0 where
  pub floats : length (gather (lane_vertices g) n) ≤ r.floats
  pub index : length (gather (lane_indices g) n) ≤ r.index
  pub word : length (gather (lane_span g) n) ≤ r.word

-- the sizes of the mesh of the first n lanes
pub record Sizes (g : Given) (n : ℕ) (r : At) : Type 0 where
  pub floats : r.floats ≡ length (gather (lane_vertices g) n)
  pub index : r.index ≡ length (gather (lane_indices g) n)
  pub word : r.word ≡ length (gather (lane_span g) n)

-- there is room for a lane from `at` on, in the lent slices and below the limits
pub record Room (l : Lane) (at : At) (v n : List Float) (i s : List ℕ) : Type 0 where
  pub vertices : at.floats + length (vertices_of l (kept l)) ≤ length v
  pub normals : at.floats + length (vertices_of l (kept l)) ≤ length n
  pub indices : at.index + length (indices_of (at.floats / 3) l (kept l)) ≤ length i
  pub spans : (id a b d e : ℕ) → at.word + length (span_of (length (kept l)) id a b d e) ≤ length s
  pub few_floats : at.floats + length (vertices_of l (kept l)) ≤ 3 * max_vertices
  pub few_index : at.index + length (indices_of (at.floats / 3) l (kept l)) ≤ max_indices

-- the strip of a lane stands in the memory from `at` to r
pub record Wrote (l : Lane) (id : ℕ) (at r : At) (v v' n n' : List Float) (i i' s s' : List ℕ) : Type 0 where
  pub vertices : Put v v' at.floats (vertices_of l (kept l)) r.floats
  pub normals : Put n n' at.floats (normals_of l (kept l)) r.floats
  pub indices : Put i i' at.index (indices_of (at.floats / 3) l (kept l)) r.index
  pub spans : Put s s' at.word (span_of (length (kept l)) id (at.floats / 3) (r.floats / 3) at.index r.index) r.word

-- the mesh of the first k lanes stands at the front of the memory
pub record Written (g : Given) (k : ℕ) (r : At) (v v' n n' : List Float) (i i' s s' : List ℕ) : Type 0 where
  pub vertices : Put v v' 0 (gather (lane_vertices g) k) r.floats
  pub normals : Put n n' 0 (gather (lane_normals g) k) r.floats
  pub indices : Put i i' 0 (gather (lane_indices g) k) r.index
  pub spans : Put s s' 0 (gather (lane_span g) k) r.word

-- the mesh of the first k lanes fits the lent slices and the limits
pub record Fitting (g : Given) (k : ℕ) (v n : List Float) (i s : List ℕ) : Type 0 where
  pub vertices : length (gather (lane_vertices g) k) ≤ length v
  pub normals : length (gather (lane_vertices g) k) ≤ length n
  pub indices : length (gather (lane_indices g) k) ≤ length i
  pub spans : length (gather (lane_span g) k) ≤ length s
  pub few_floats : length (gather (lane_vertices g) k) ≤ 3 * max_vertices
  pub few_index : length (gather (lane_indices g) k) ≤ max_indices
