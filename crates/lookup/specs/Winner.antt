-- Document 01, "Words of demand 3": the winner at a point, said without a scan. Definitions only. Assumes nothing.
use Rattle.std.specs.Prelude.{◌≡◌, ℕ, ◌≤◌, not, T, is_nan, Float}
use Rattle.std.specs.Float.Ieee.{le, eq}
use Rattle.vector.specs.declared.coords.Vector.{Vector}
use Rattle.shape.specs.Lists.{Mesh}
use Rattle.lookup.specs.Cover.{covers, height_of, normal_of}
use Rattle.lookup.specs.Plain.{Lookup, gives, none}

-- triangle k covers the point
abbrev pub Covers : Mesh → Float → Float → ℕ → Type 0
Covers m x y k = T (covers m.vertices m.indices k x y)

-- no triangle does
abbrev pub Uncovered : Mesh → Float → Float → Type 0
Uncovered m x y = (j : ℕ) → Covers m x y j → ⊥

-- the worked-out height of triangle k, and its normal
abbrev pub height : Mesh → Float → Float → ℕ → Float
height m x y k = height_of m.vertices m.indices k x y

abbrev pub normal : Mesh → Float → Float → ℕ → Vector
normal m x y k = normal_of m.vertices m.normals m.indices k x y

-- "the winner is the covering triangle of greatest height, the lowest-numbered among equals"
pub record Wins (m : Mesh) (x y : Float) (k : ℕ) : Type 0 where
  pub covered : Covers m x y k
  pub greatest : (j : ℕ) → Covers m x y j → T (le (height m x y j) (height m x y k))
  pub lowest : (j : ℕ) → Covers m x y j → T (eq (height m x y j) (height m x y k)) → k ≤ j

-- no covering triangle's height is a NaN, of which document 01's winner says nothing
abbrev pub NoNan : Mesh → Float → Float → Type 0
NoNan m x y = (j : ℕ) → Covers m x y j → T (not (is_nan (height m x y j)))

-- the lookup gives the winner's height and normal and its number, or none where no triangle covers the point
abbrev pub Right : Mesh → Float → Float → Lookup → Type 0
Right m x y (gives h n k) = Wins m x y k × (h ≡ height m x y k) × (n ≡ normal m x y k)
Right m x y none = Uncovered m x y
