-- The two functions of src/geometry.rs that are taken (document 01, "Roundings and vectors"). Definitions only. Assumes nothing.
use Rattle.vector.specs.Single.{0f}
use Rattle.vector.specs.Coords.{cross_of, up_vector, normalize_or_zero}
use Rattle.vector.specs.declared.coords.Vector.{Vector}

unfoldable pub horizontal_of : Vector → Vector
horizontal_of v = record { x = v.x; y = v.y; z = 0f }

-- the unit vector to the left of a heading: up × heading, on the ground
unfoldable pub left_normal_of : Vector → Vector
unfolding cross_of up_vector horizontal_of normalize_or_zero
left_normal_of v = normalize_or_zero (cross_of up_vector (horizontal_of v))
