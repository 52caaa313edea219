-- The cases of document 01, "Junction triangles", that are marked [P] and are about the mesh: one list of tests over the definitions, all true.
-- Assumes nothing.
use Rattle.std.specs.Prelude.{◌≡◌, ℕ, ◌*◌, Bool, true, false, List, [], ◌∷◌, replicate, ◌==◌, refl, Float, Option, Some, None}
use Rattle.std.specs.Float.{binary64}
use Rattle.std.specs.Float.Ieee.{of_bits, of_fields, odd, sub, mul, add, div, neg, le, lt, is_nan, sum, round, units, span, climb, size, to_unsigned}
use Rattle.rounding.specs.Root as root
use Rattle.rounding.specs.Whole as whole
use Rattle.rounding.specs.Extremes as extremes
use Rattle.vector.specs.Coords as coords
use Rattle.vector.specs.Single.{0f}
use Rattle.shape.specs.Double.{0d, 1d}
use Rattle.shape.specs.Gather.{gather, any, least}
use Rattle.shape.specs.Lists.{point_at, longer, uneven, mesh_lists}
use Rattle.shape.specs.MeshMemory as memory
use Rattle.shape.specs.Refusal.{Answer, taken, refused, refuse, or_else, judge}
use Rattle.shape.specs.Elevation.{grid_long, grid_ragged}
use Rattle.shape.specs.Ears as ears
use Rattle.shape.specs.Ears.{ears_of}
use Rattle.shape.proofs.CaseTests.{all}
use Rattle.shape.proofs.CasesEars.{square}
use Rattle.shape.specs.JunctionMesh as mesh
use Rattle.shape.specs.JunctionMesh.{ground, ground_result, ground_answer}
use Rattle.shape.specs.declared.elevation.ElevationGrid.{ElevationGrid}

-- 4, as a double
abbrev 4d : Float
4d = of_bits binary64 0x4010_0000_0000_0000

-- a grid of spacing 4; it has no rows, so that every height is missing
grid : ElevationGrid
grid = record { origin_x = 0d; origin_y = 0d; sin = 0d; cos = 1d; start = 0d; spacing = 4d }

-- the call is taken, with that many vertices
makes : Answer ℕ → ℕ → Bool
makes (taken a) n = a == n
makes (refused number place) n = false

-- the square's mesh, with room for just so many vertices, normals and indices
abbrev meshed : Option ElevationGrid → ℕ → Answer ℕ
meshed g room = ground_answer (ground square g [] [] []) (mesh_lists (replicate (3 * room) 0f) (replicate (3 * room) 0f) (replicate room 0) [])

-- "With spacing 4 that ring has 24 vertices, with no grid 6."
pub junction_cases : List Bool
junction_cases = makes (meshed (Some grid) 24) 24 ∷ makes (meshed None 6) 6 ∷ []

pub junction_cases_lem : all junction_cases ≡ true
unfolding of_bits of_fields odd sub mul add div neg le lt is_nan sum round units span climb size to_unsigned root.sqrt_of root.root_of whole.whole_of whole.whole_by extremes.first extremes.max_of extremes.clamp_of coords.point_sub coords.dot_of coords.length_squared_of coords.length_of coords.distance_of gather any point_at longer uneven grid_long grid_ragged refuse or_else judge ears.cross ears.inside ears.turns_left ears.blocks ears.ear_of ears.is_ear least ears.first_ear ears.ear_at ears.without ears.last_ear ears.cut_ears ears.up_to ears_of mesh.longest_of mesh.parts_of mesh.ear_cut mesh.corner_coords mesh.cell_of mesh.row_of mesh.split_of mesh.ear_mesh mesh.ears_mesh mesh.ground_vertices mesh.mesh_vertices mesh.face_normals mesh.ground_normals mesh.mesh_normals mesh.mesh_indices mesh.ground_mesh mesh.ground_limits mesh.ground_ragged mesh.ground_input memory.result_limits memory.result_short memory.room_fault mesh.spacing_of ground_result ground_answer grid makes junction_cases all
junction_cases_lem = refl
