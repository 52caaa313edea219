-- Document 01, "Height under a wheel": the three-weight test, the height and the normal of a triangle at a point, each operation rounded once in the order of
-- `Mesh::highest`. Definitions only. Assumes nothing.
use Rattle.std.specs.Prelude.{ℕ, ◌/◌, Bool, cond, not, ◌&&◌, List, length, nat_lt, Float}
use Rattle.std.specs.Float.Ieee.{neg, lt, le}
use Rattle.rounding.specs.Extremes.{abs_of}
use Rattle.vector.specs.Single.{◌⊕◌, ◌⊖◌, ◌⊗◌, ◌⊘◌, 0f, 1f, single}
use Rattle.vector.specs.Coords.{point_sub, vector_add, vector_mul, vector_neg, cross_of, up_vector, normalize_or}
use Rattle.vector.specs.declared.coords.Point.{Point}
use Rattle.vector.specs.declared.coords.Vector.{Vector}
use Rattle.lookup.specs.declared.mesh.Weights.{Weights}
use Rattle.lookup.specs.Mesh.{present, corner_of, index_of, normal_at}

-- ---- weights

unfoldable pub det_of : Point → Point → Point → Float
det_of a b c = (b.y ⊖ c.y) ⊗ (a.x ⊖ c.x) ⊕ (c.x ⊖ b.x) ⊗ (a.y ⊖ c.y)

-- the weights of corners a and b at (x, y)
unfoldable pub over_a : Point → Point → Float → Float → Float
over_a b c x y = (b.y ⊖ c.y) ⊗ (x ⊖ c.x) ⊕ (c.x ⊖ b.x) ⊗ (y ⊖ c.y)

unfoldable pub weight_a : Point → Point → Point → Float → Float → Float
weight_a a b c x y = over_a b c x y ⊘ det_of a b c

unfoldable pub weight_b : Point → Point → Point → Float → Float → Float
weight_b a b c x y = ((c.y ⊖ a.y) ⊗ (x ⊖ c.x) ⊕ (a.x ⊖ c.x) ⊗ (y ⊖ c.y)) ⊘ det_of a b c

-- what they leave of 1 is c's
unfoldable pub weights_of : Point → Point → Point → Float → Float → Weights
weights_of a b c x y =
    record {
      det = det_of a b c;
      a = weight_a a b c x y;
      b = weight_b a b c x y;
      c = 1f ⊖ weight_a a b c x y ⊖ weight_b a b c x y;
    }

-- ---- covering

-- 1e-9 (0x3089705f), below which a determinant is no footprint, and -1e-4 (0x38d1b717 negated), the least weight of a point on a triangle
abbrev pub thinnest : Float
thinnest = single 0x3089_705f

abbrev pub slack : Float
slack = neg (single 0x38d1_b717)

-- "|det| not below 1e-9, weights at least -1e-4"
unfoldable pub weights_inside : Weights → Bool
weights_inside w = not (lt (abs_of w.det) thinnest) && le slack w.a && le slack w.b && le slack w.c

-- the weights of triangle t at (x, y)
unfoldable pub weights_at : List Float → List ℕ → ℕ → Float → Float → Weights
weights_at vs is t x y = weights_of (corner_of vs is t 0) (corner_of vs is t 1) (corner_of vs is t 2) x y

-- triangle t covers (x, y): "no corner is past the vertices and the test above holds"
unfoldable pub covers : List Float → List ℕ → ℕ → Float → Float → Bool
covers vs is t x y = present vs is t && weights_inside (weights_at vs is t x y)

-- ---- height

unfoldable pub lift_of : Weights → Float → Float → Float → Float
lift_of w za zb zc = w.a ⊗ za ⊕ w.b ⊗ zb ⊕ w.c ⊗ zc

-- the worked-out height of triangle t at (x, y)
unfoldable pub height_of : List Float → List ℕ → ℕ → Float → Float → Float
height_of vs is t x y = lift_of (weights_at vs is t x y) (corner_of vs is t 0).z (corner_of vs is t 1).z (corner_of vs is t 2).z

-- ---- normal

-- the direction of the corners' normals by their weights
unfoldable pub smooth_of : Weights → Vector → Vector → Vector → Vector
smooth_of w na nb nc = normalize_or (vector_add (vector_add (vector_mul na w.a) (vector_mul nb w.b)) (vector_mul nc w.c)) up_vector

unfoldable pub blend_of : List Float → List ℕ → ℕ → Weights → Vector
blend_of ns is t w = smooth_of w (normal_at ns (index_of is t 0)) (normal_at ns (index_of is t 1)) (normal_at ns (index_of is t 2))

-- the direction of the triangle itself
unfoldable pub flat_of : Point → Point → Point → Vector
flat_of a b c = normalize_or (cross_of (point_sub b a) (point_sub c a)) up_vector

-- turned over where it points down
unfoldable pub face_up : Vector → Vector
face_up n = cond (lt n.z 0f) (vector_neg n) n

-- the normal of triangle t at (x, y); with more normals than vertices it is flat, and up where there is no such triangle
unfoldable pub normal_of : List Float → List Float → List ℕ → ℕ → Float → Float → Vector
normal_of vs ns is t x y =
    cond (present vs is t)
    (face_up
    (cond (nat_lt (length vs / 3) (length ns / 3))
    (flat_of (corner_of vs is t 0) (corner_of vs is t 1) (corner_of vs is t 2))
    (blend_of ns is t (weights_at vs is t x y))))
    up_vector
