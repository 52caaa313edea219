-- Document 01, "Junction triangles": the ears of a boundary split to the grid's spacing, their triangles with vertices and normals, and the call that makes
-- the mesh. `lift` brings a point to the grid's height where the grid reaches; `step` is the grid's spacing. Definitions only. Assumes nothing.
use Rattle.std.specs.Prelude.{ℕ, zero, suc, ◌+◌, ◌-◌, ◌*◌, ◌/◌, false, cond, List, [], ◌∷◌, ◌++◌, length, pos, from_bits, nat_lt, slice_index, Float, Option, Some, None}
use Rattle.std.specs.Float.{inf, binary32, binary64}
use Rattle.std.specs.Float.Ieee.{of_int, to_unsigned, neg, lt, div}
use Rattle.rounding.specs.Extremes.{max_of, clamp_of}
use Rattle.rounding.specs.Whole.{ceil_of, whole_of}
use Rattle.rounding.specs.Width.{narrow_of}
use Rattle.vector.specs.Single.{◌⊘◌, 0f, 1f}
use Rattle.vector.specs.Coords.{point_sub, point_add, vector_mul, cross_of, distance_of, normalize_or, up_vector}
use Rattle.vector.specs.declared.coords.Point.{Point}
use Rattle.vector.specs.declared.coords.Vector.{Vector}
use Rattle.shape.specs.declared.memory.Lengths.{Lengths}
use Rattle.shape.specs.declared.elevation.ElevationGrid.{ElevationGrid}
use Rattle.shape.specs.declared.elevation.Heights.{Heights}
use Rattle.shape.specs.declared.junction.Ear.{Ear}
use Rattle.shape.specs.declared.junction.Relief.{Relief}
use Rattle.shape.specs.Gather.{gather}
use Rattle.shape.specs.Refusal.{Fault, fine, refuse, or_else, Answer, taken, judge}
use Rattle.shape.specs.Lists.{max_ring, max_rows, point_at, longer, uneven, Mesh}
use Rattle.shape.specs.MeshMemory.{mesh_room}
use Rattle.shape.specs.Elevation.{Spot, grid_long, grid_ragged, height_of, locate_of}
use Rattle.shape.specs.Ears.{up_to, ears_of}

-- ---- splitting

-- "longest side"; a side that is NaN counts as none
unfoldable pub longest_of : Point → Point → Point → Float
unfolding max_of distance_of
longest_of a b c = max_of (max_of (max_of 0f (distance_of a b)) (distance_of b c)) (distance_of c a)

-- 1 and 64
abbrev pub 1d : Float
1d = from_bits binary64 0x3ff0_0000_0000_0000

abbrev pub 64d : Float
64d = from_bits binary64 0x4050_0000_0000_0000

-- "ceiling(longest side / spacing) clamped to 1..64", in double; "NaN gives 0"
unfoldable pub parts_of : Float → Point → Point → Point → ℕ
unfolding longest_of clamp_of whole_of div to_unsigned
parts_of step a b c = to_unsigned 64 (clamp_of (ceil_of binary64 (div binary64 (longest_of a b c) step)) 1d 64d)

-- ear k of a ring, by its corners, and into how many parts each side is split
unfoldable pub ear_cut : Float → List Float → List ℕ → ℕ → Ear
ear_cut step ring ears k =
    let p = point_at ring (slice_index ears (3 * k)) in
    let q = point_at ring (slice_index ears (3 * k + 1)) in
    let r = point_at ring (slice_index ears (3 * k + 2)) in
    record { a = p; b = q; c = r; n = parts_of step p q r }

-- the count k as a single
abbrev pub count : ℕ → Float
count k = of_int binary32 (pos k)

-- point (i, j) of an ear's lattice: a + (b - a) i/n + (c - a) j/n
unfoldable pub lattice : Ear → ℕ → ℕ → Point
unfolding point_add point_sub vector_mul of_int
lattice e i j =
    point_add (point_add e.a (vector_mul (point_sub e.b e.a) (count i ⊘ count e.n)))
    (vector_mul (point_sub e.c e.a) (count j ⊘ count e.n))

-- ---- triangles

-- the normal of a triangle: (b - a) × (c - a) at unit length, or up; and turned up
unfoldable pub face_of : Point → Point → Point → Vector
unfolding normalize_or cross_of point_sub up_vector vector_mul lt neg
face_of a b c =
    let v = normalize_or (cross_of (point_sub b a) (point_sub c a)) up_vector in
    cond (lt v.z 0f) (vector_mul v (neg 1f)) v

-- what a triangle adds to the vertices, and to the normals
unfoldable pub corner_coords : Point → Point → Point → List Float
corner_coords a b c = a.x ∷ a.y ∷ a.z ∷ b.x ∷ b.y ∷ b.z ∷ c.x ∷ c.y ∷ c.z ∷ []

abbrev pub thrice : Vector → List Float
thrice v = v.x ∷ v.y ∷ v.z ∷ v.x ∷ v.y ∷ v.z ∷ v.x ∷ v.y ∷ v.z ∷ []

unfoldable pub face_normals : Point → Point → Point → List Float
unfolding face_of
face_normals a b c = thrice (face_of a b c)

-- what f makes of the triangles of an ear whose lattice has the points `at i j`: along each row in turn, that from (i, j) and then, but at the row's end,
-- the one beyond it
module _ (f : Point → Point → Point → List Float) (at : ℕ → ℕ → Point) (n : ℕ) where
  unfoldable pub cell_of : ℕ → ℕ → List Float
  cell_of i j =
      f (at i j) (at (i + 1) j) (at i (j + 1))
      ++ cond (nat_lt (i + j + 1) n) (f (at (i + 1) j) (at (i + 1) (j + 1)) (at i (j + 1))) []

  unfoldable pub row_of : ℕ → List Float
  unfolding cell_of gather
  row_of i = gather (cell_of i) (n - i)

  unfoldable pub split_of : List Float
  unfolding row_of
  split_of = gather row_of n

-- of an ear, each lattice point brought to its height
unfoldable pub ear_mesh : (Point → Point → Point → List Float) → (Point → Point) → Ear → List Float
unfolding split_of
ear_mesh f lift e = split_of f (λ i j. lift (lattice e i j)) e.n

-- of a list of ears
unfoldable pub ears_mesh : (Point → Point → Point → List Float) → (Point → Point) → Float → List Float → List ℕ → List Float
unfolding gather
ears_mesh f lift step ring ears = gather (λ k. ear_mesh f lift (ear_cut step ring ears k)) (length ears / 3)

-- ---- the mesh

unfoldable pub ground_vertices : (Point → Point) → Float → List Float → List Float
unfolding ears_mesh
ground_vertices lift step ring = ears_mesh corner_coords lift step ring (ears_of ring)

unfoldable pub ground_normals : (Point → Point) → Float → List Float → List Float
unfolding ears_mesh
ground_normals lift step ring = ears_mesh face_normals lift step ring (ears_of ring)

-- ---- how many

unfoldable pub sum_of : (ℕ → ℕ) → ℕ → ℕ
sum_of f zero = 0
sum_of f (suc n) = sum_of f n + f n

-- "n times n triangles" of each ear, three vertices each
unfoldable pub ear_vertices : Float → List Float → List ℕ → ℕ → ℕ
ear_vertices step ring ears k = let n = (ear_cut step ring ears k).n in 3 * (n * n)

unfoldable pub vertex_count : Float → List Float → List ℕ → ℕ
unfolding sum_of
vertex_count step ring ears = sum_of (ear_vertices step ring ears) (length ears / 3)

-- the lengths of a mesh of so many vertices
abbrev pub ground_lengths : ℕ → Lengths
ground_lengths many = record { vertices = 3 * many; normals = 3 * many; indices = many; spans = 0 }

-- ---- the grid

-- "no grid counts as spacing infinity"
unfoldable pub spacing_of : Option ElevationGrid → Float
spacing_of None = inf false
spacing_of (Some g) = g.spacing

-- a point at a height that may be missing, narrowed
unfoldable pub raised_to : Point → Spot → Point
raised_to p None = p
raised_to p (Some z) = record { x = p.x; y = p.y; z = narrow_of binary32 z }

unfoldable pub lift_of : Option ElevationGrid → List ℕ → List Float → List Float → Point → Point
lift_of None rows left right p = p
lift_of (Some g) rows left right p = let at = locate_of g p.x p.y in raised_to p (height_of g rows left right at.s at.t)

-- by the heights that are lent
abbrev pub raise_of : Option ElevationGrid → Heights → Point → Point
raise_of grid h = lift_of grid h.rows.now h.left.now h.right.now

-- by a grid with its lists
abbrev pub raised_by : Relief → Point → Point
raised_by r = raise_of r.grid r.survey.heights

-- ---- the call: ring 0, rows 1, left 2, right 3

pub record Ground : Type 0 where
  pub ring : List Float
  pub grid : Option ElevationGrid
  pub rows : List ℕ
  pub left : List Float
  pub right : List Float

abbrev pub ground : List Float → Option ElevationGrid → List ℕ → List Float → List Float → Ground
ground p g r a b = record { ring = p; grid = g; rows = r; left = a; right = b }

-- as they are lent
abbrev pub ground_of : List Float → Option ElevationGrid → Heights → Ground
ground_of p g h = ground p g h.rows.now h.left.now h.right.now

abbrev pub lifter : Ground → Point → Point
lifter g = lift_of g.grid g.rows g.left g.right

unfoldable pub mesh_vertices : Ground → List Float
mesh_vertices g = ground_vertices (lifter g) (spacing_of g.grid) g.ring

unfoldable pub mesh_normals : Ground → List Float
mesh_normals g = ground_normals (lifter g) (spacing_of g.grid) g.ring

-- each triangle has its own vertices, so the indices are the vertices' numbers
unfoldable pub mesh_indices : Ground → List ℕ
mesh_indices g = up_to (length (mesh_vertices g) / 3)

-- a junction has no spans, and the call is lent none
unfoldable pub ground_mesh : Ground → Mesh
ground_mesh g = record { vertices = mesh_vertices g; normals = mesh_normals g; indices = mesh_indices g; spans = [] }

-- the refusals of the input: the ring's limit and the grid's, then the ring not in threes and the grid's rows ragged
unfoldable pub ground_limits : Ground → Fault
ground_limits g = refuse (longer 3 max_ring g.ring) 1 max_ring (refuse (grid_long g.rows) 1 max_rows fine)

unfoldable pub ground_ragged : Ground → Fault
ground_ragged g = refuse (uneven 3 g.ring) 2 0 (refuse (grid_ragged g.rows (length g.left) (length g.right)) 2 1 fine)

unfoldable pub ground_input : Ground → Fault
ground_input g = or_else (ground_limits g) (ground_ragged g)

-- the answer to a call that is lent the memory `before`: how many vertices, normals and indices. It leaves
-- `leaves_mesh (ground_answer g before) (ground_mesh g) before`.
unfoldable pub ground_result : Ground → Mesh → Answer ℕ
ground_result g before = judge (mesh_room (ground_mesh g) before) (taken (length (mesh_vertices g) / 3))

unfoldable pub ground_answer : Ground → Mesh → Answer ℕ
ground_answer g before = judge (ground_input g) (ground_result g before)
