-- The operations of src/coords.rs on places and displacements (document 01, "Roundings and vectors"), each sum, product and quotient rounded once.
-- Definitions only. Assumes nothing.
use Rattle.std.specs.Prelude.{Bool, ◌&&◌, cond, Float}
use Rattle.std.specs.Float.{binary32}
use Rattle.std.specs.Float.Ieee.{neg, eq, lt}
use Rattle.std.specs.Float.Ieee.Scale.{finite}
use Rattle.rounding.specs.Root.{sqrt_of}
use Rattle.vector.specs.Single.{◌⊕◌, ◌⊖◌, ◌⊗◌, ◌⊘◌, 0f, 1f}
use Rattle.vector.specs.declared.coords.Point.{Point}
use Rattle.vector.specs.declared.coords.Vector.{Vector}

-- ---- places

unfoldable pub point_sub : Point → Point → Vector
point_sub a b = record { x = a.x ⊖ b.x; y = a.y ⊖ b.y; z = a.z ⊖ b.z }

unfoldable pub point_add : Point → Vector → Point
point_add a v = record { x = a.x ⊕ v.x; y = a.y ⊕ v.y; z = a.z ⊕ v.z }

unfoldable pub point_sub_vector : Point → Vector → Point
point_sub_vector a v = record { x = a.x ⊖ v.x; y = a.y ⊖ v.y; z = a.z ⊖ v.z }

-- ---- displacements

unfoldable pub vector_add : Vector → Vector → Vector
vector_add a b = record { x = a.x ⊕ b.x; y = a.y ⊕ b.y; z = a.z ⊕ b.z }

unfoldable pub vector_sub : Vector → Vector → Vector
vector_sub a b = record { x = a.x ⊖ b.x; y = a.y ⊖ b.y; z = a.z ⊖ b.z }

unfoldable pub vector_mul : Vector → Float → Vector
vector_mul a k = record { x = a.x ⊗ k; y = a.y ⊗ k; z = a.z ⊗ k }

unfoldable pub vector_neg : Vector → Vector
vector_neg a = record { x = neg a.x; y = neg a.y; z = neg a.z }

unfoldable pub dot_of : Vector → Vector → Float
dot_of a b = a.x ⊗ b.x ⊕ a.y ⊗ b.y ⊕ a.z ⊗ b.z

unfoldable pub cross_of : Vector → Vector → Vector
cross_of a b =
    record {
      x = a.y ⊗ b.z ⊖ a.z ⊗ b.y;
      y = a.z ⊗ b.x ⊖ a.x ⊗ b.z;
      z = a.x ⊗ b.y ⊖ a.y ⊗ b.x;
    }

unfoldable pub length_squared_of : Vector → Float
unfolding dot_of
length_squared_of a = dot_of a a

unfoldable pub length_of : Vector → Float
unfolding length_squared_of sqrt_of
length_of a = sqrt_of binary32 (length_squared_of a)

unfoldable pub distance_of : Point → Point → Float
unfolding length_of point_sub
distance_of a b = length_of (point_sub b a)

-- ---- directions

-- no displacement, and up
unfoldable pub zero_vector : Vector
zero_vector = record { x = 0f; y = 0f; z = 0f }

unfoldable pub up_vector : Vector
up_vector = record { x = 0f; y = 0f; z = 1f }

-- a's direction at unit length, or the fallback where a's length is zero or not finite
unfoldable pub normalize_or : Vector → Vector → Vector
unfolding length_of vector_mul lt
normalize_or a fallback = cond (finite (length_of a) && lt 0f (length_of a)) (vector_mul a (1f ⊘ length_of a)) fallback

unfoldable pub normalize_or_zero : Vector → Vector
unfolding normalize_or zero_vector
normalize_or_zero a = normalize_or a zero_vector

-- Rust's `a == Vector::ZERO`: -0 equals 0, and a NaN equals nothing
unfoldable pub is_zero : Vector → Bool
unfolding eq
is_zero a = eq a.x 0f && eq a.y 0f && eq a.z 0f

-- a turned about the unit vector k by the angle with the sine s and the cosine c: a c + (k × a) s + k (k · a) (1 - c)
unfoldable pub turned_of : Vector → Vector → Float → Float → Vector
unfolding vector_add vector_mul cross_of dot_of
turned_of a k s c = vector_add (vector_add (vector_mul a c) (vector_mul (cross_of k a) s)) (vector_mul k (dot_of k a ⊗ (1f ⊖ c)))

-- an axis with no direction turns nothing
unfoldable pub rotate_about : Vector → Vector → Float → Float → Vector
unfolding normalize_or_zero is_zero turned_of
rotate_about a axis s c = let k = normalize_or_zero axis in cond (is_zero k) a (turned_of a k s c)

-- ---- finite

unfoldable pub all_finite : Float → Float → Float → Bool
all_finite x y z = finite x && finite y && finite z

unfoldable pub point_finite : Point → Bool
unfolding all_finite
point_finite p = all_finite p.x p.y p.z

unfoldable pub vector_finite : Vector → Bool
unfolding all_finite
vector_finite v = all_finite v.x v.y v.z
