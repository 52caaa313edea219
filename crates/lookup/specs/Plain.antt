-- Document 01, "Height under a wheel": what the plain lookup answers. Definitions only. Assumes nothing.
use Rattle.std.specs.Prelude.{ℕ, Bool, cond, List, slice_index, Float, Option, Some, None, Result, Ok, Err}
use Rattle.std.specs.Float.Ieee.{le}
use Rattle.vector.specs.declared.coords.Vector.{Vector}
use Rattle.shape.specs.Lists.{Mesh, mesh_fault}
use Rattle.shape.specs.Refusal.{number_of, place_of, Answer, taken, refused, judge}
use Rattle.shape.specs.declared.refusal.Refusal.{Refusal}
use Rattle.lookup.specs.declared.mesh.Found.{Found}
use Rattle.lookup.specs.Mesh.{triangles}
use Rattle.lookup.specs.Fold.{fold_of}
use Rattle.lookup.specs.Cover.{covers, height_of, normal_of}

-- ---- the scan of `Mesh::highest`

-- the best so far after triangle t of height h, which replaces it unless h is at most its height. What is kept of a triangle is its number, or more
unfoldable pub higher_of : {A : Type 0} → Option (Float × A) → Float → A → Option (Float × A)
higher_of None h t = Some (h, t)
higher_of (Some (g, k)) h t = cond (le h g) (Some (g, k)) (Some (h, t))

-- the best of the first n numbers of a sequence, from a start on: which numbers count, and the height of each. The heights go by `higher_of`
unfoldable pub scan_by : (ℕ → Bool) → (ℕ → Float) → Option (Float × ℕ) → (ℕ → ℕ) → ℕ → Option (Float × ℕ)
unfolding fold_of
scan_by counts height start seq n = fold_of counts (λ best t. higher_of best (height t) t) start seq n

-- document 01's rule: a triangle counts where it covers the point
unfoldable pub scan_of : List Float → List ℕ → Float → Float → (ℕ → ℕ) → ℕ → Option (Float × ℕ)
unfolding scan_by
scan_of vs is x y seq n = scan_by (λ t. covers vs is t x y) (λ t. height_of vs is t x y) None seq n

-- the sequence that a run of triangle numbers is
abbrev pub entry_of : List ℕ → ℕ → ℕ
entry_of run i = slice_index run i

-- ---- the answer

-- "a lookup gives a height with normal and triangle, or none"
pub data Lookup : Type 0 where
  gives : Float → Vector → ℕ → Lookup
  none : Lookup

unfoldable pub lookup_of : Mesh → Float → Float → Option (Float × ℕ) → Lookup
lookup_of m x y (Some (h, t)) = gives h (normal_of m.vertices m.normals m.indices t x y) t
lookup_of m x y None = none

-- the plain lookup goes through all triangles by their numbers
unfoldable pub plain_of : Mesh → Float → Float → Lookup
plain_of m x y = lookup_of m x y (scan_of m.vertices m.indices x y (λ t. t) (triangles m.indices))

-- the answer to the call, and document 01's values of each case of the code's
unfoldable pub answer_of : Mesh → Float → Float → Answer Lookup
answer_of m x y = judge (mesh_fault m) (taken (plain_of m x y))

unfoldable pub read_answer : Result (Option Found) Refusal → Answer Lookup
read_answer (Ok (Some f)) = taken (gives f.height f.normal f.triangle)
read_answer (Ok None) = taken none
read_answer (Err r) = refused (number_of r) (place_of r)
