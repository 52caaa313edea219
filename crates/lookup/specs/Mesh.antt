-- Document 01, "Height under a wheel": the triangles of a mesh. Triangle k is the indices 3 k to 3 k + 2. Definitions only. Assumes nothing.
use Rattle.std.specs.Prelude.{ℕ, ◌+◌, ◌*◌, ◌/◌, Bool, cond, ◌&&◌, List, length, nat_lt, slice_index, Float, Option, Some, None}
use Rattle.vector.specs.Coords.{up_vector}
use Rattle.vector.specs.declared.coords.Point.{Point}
use Rattle.vector.specs.declared.coords.Vector.{Vector}
use Rattle.shape.specs.Lists.{point_at, vector_at}
use Rattle.lookup.specs.declared.mesh.Triangle.{Triangle}

-- how many whole triangles there are
abbrev pub triangles : List ℕ → ℕ
triangles is = length is / 3

-- the vertex number of corner j of triangle t
abbrev pub index_of : List ℕ → ℕ → ℕ → ℕ
index_of is t j = slice_index is (3 * t + j)

-- triangle t is there, and no corner of it is past the vertices
unfoldable pub present : List Float → List ℕ → ℕ → Bool
present vs is t =
    nat_lt t (triangles is)
    && nat_lt (index_of is t 0) (length vs / 3)
    && nat_lt (index_of is t 1) (length vs / 3)
    && nat_lt (index_of is t 2) (length vs / 3)

-- corner j of triangle t
abbrev pub corner_of : List Float → List ℕ → ℕ → ℕ → Point
corner_of vs is t j = point_at vs (index_of is t j)

unfoldable pub corners_of : List Float → List ℕ → ℕ → Option Triangle
unfolding present
corners_of vs is t = cond (present vs is t) (Some (record { a = corner_of vs is t 0; b = corner_of vs is t 1; c = corner_of vs is t 2 })) None

-- the normal of vertex i: "a corner past the normals has normal (0, 0, 1)"
unfoldable pub normal_at : List Float → ℕ → Vector
normal_at ns i = cond (nat_lt i (length ns / 3)) (vector_at ns i) up_vector
