-- Document 01, "Words of demand 3": what it is for an index to be built from a mesh and for a triangle to be in a lane's strip, and the demand itself.
-- Definitions only. Assumes nothing.
use Rattle.std.specs.Prelude.{◌≡◌, ℕ, ◌+◌, ◌*◌, ◌<◌, ◌≤◌, true, T, ◌↔◌, List, length, take, ◌≢◌, Float, Option, Some}
use Rattle.std.specs.Float.Ieee.{le}
use Rattle.vector.specs.declared.coords.Vector.{Vector}
use Rattle.shape.specs.Lists.{Mesh, word_of, mesh_fault}
use Rattle.shape.specs.Refusal.{fine, taken, refused, leaves}
use Rattle.shape.specs.SurfaceMesh.{Given, lanes_of, index_of, mesh_of}
use Rattle.lookup.specs.declared.sampler.Detail.{Detail}
use Rattle.lookup.specs.Box.{in_box}
use Rattle.lookup.specs.Plain.{Lookup, gives, none, answer_of}
use Rattle.lookup.specs.Winner.{Uncovered, height, normal, Wins, NoNan, Right}
use Rattle.lookup.specs.Index.{index_words, max_words, build_of}
use Rattle.lookup.specs.Sampler.{Sample, hit, miss, detail_of, lookup_in, top_of}

-- "an index built from a mesh is the words that a taken building call left": in memory that held `before`, the call left `size` words at the front, and ws is
-- what stands there now, those words at least
pub record BuiltFrom (m : Mesh) (ws : List ℕ) : Type 0 where
  pub before : List ℕ
  pub size : ℕ
  pub took : build_of m (length before) ≡ taken size
  pub kept : ℕ
  pub enough : size ≤ kept
  pub is : ws ≡ take kept (leaves (build_of m (length before)) (index_words m.vertices m.indices) before)

-- triangle t is in the strip of lane k: its first index is among those made from the lane's points
pub record InStrip (g : Given) (t k : ℕ) : Type 0 where
  pub lane : k < lanes_of g
  pub from : index_of g k ≤ 3 * t
  pub to : 3 * t < index_of g (k + 1)

-- a lane's id
abbrev pub id_of : Given → ℕ → ℕ
id_of g k = word_of 10 g.lanes k 0

-- a lane is the one whose strip holds triangle t
pub record NamesLane (g : Given) (t : ℕ) (l : Option ℕ) : Type 0 where
  pub of : ℕ
  pub in_strip : InStrip g t of
  pub named : l ≡ Some (id_of g of)

-- ---- the demand

-- of the indexed lookup in any words
pub record InWords (m : Mesh) (ws : List ℕ) (x y : Float) : Type 0 where
  -- it gives none where the plain lookup does
  pub indexed_none : answer_of m x y ≡ taken none → (s : Sample) → top_of m ws x y ≡ taken s → s ≡ miss
  -- it is never higher
  pub never_higher : NoNan m x y → (h : Float) (n : Vector) (k : ℕ) → answer_of m x y ≡ taken (gives h n k)
      → (h' : Float) (n' : Vector) (k' : ℕ) (d : Detail) → top_of m ws x y ≡ taken (hit h' n' k' d) → T (le h' h)
  -- over a mesh that came from lanes it names the lane whose strip holds the triangle
  pub lane : (g : Given) → m ≡ mesh_of g → (h : Float) (n : Vector) (t : ℕ) (d : Detail) → top_of m ws x y ≡ taken (hit h n t d) → NamesLane g t d.lane

-- of the indexed lookup in words built from the mesh
pub record InBuilt (m : Mesh) (ws : List ℕ) (x y : Float) : Type 0 where
  -- the words are never foreign to the mesh
  pub never_foreign : (place : ℕ) → top_of m ws x y ≢ refused 4 place
  -- nothing else turns a call back either, while the words are within their limit
  pub indexed_taken : length ws ≤ max_words → (number place : ℕ) → top_of m ws x y ≢ refused number place
  -- where the winner's grown box holds the point it gives the winner, and both lookups the same. There is no winner where a covering height is a NaN
  pub winner : (k : ℕ) → Wins m x y k → in_box m.vertices m.indices k x y ≡ true → (s : Sample) → top_of m ws x y ≡ taken s
      → (s ≡ hit (height m x y k) (normal m x y k) k (detail_of m k)) × (answer_of m x y ≡ taken (lookup_in s))

-- the demand, for every mesh and point
pub record Demand3 (m : Mesh) (x y : Float) : Type 0 where
  -- a mesh without a fault is never turned back by the plain lookup
  pub plain_taken : mesh_fault m ≡ fine → (number place : ℕ) → answer_of m x y ≢ refused number place
  -- which gives the winner with its height and its normal, where no covering height is a NaN
  pub plain : NoNan m x y → (l : Lookup) → answer_of m x y ≡ taken l → Right m x y l
  -- and none exactly where no triangle covers the point, NaN or not
  pub plain_none : (l : Lookup) → answer_of m x y ≡ taken l → (l ≡ none) ↔ Uncovered m x y
  -- the indexed lookup, in any words and in those built from the mesh
  pub in_words : (ws : List ℕ) → InWords m ws x y
  pub in_built : (ws : List ℕ) → BuiltFrom m ws → InBuilt m ws x y
