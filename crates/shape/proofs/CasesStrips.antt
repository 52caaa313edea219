-- The case of document 01, "Lane strips", that is marked [P], as tests over the definitions. Assumes nothing.
use Rattle.std.specs.Prelude.{◌≡◌, ℕ, Bool, true, List, [], ◌∷◌, replicate, refl, Float}
use Rattle.std.specs.Float.Ieee as Ieee
use Rattle.std.specs.Int.Count.{count_trailing_zeros}
use Rattle.rounding.specs.Root as Root
use Rattle.rounding.specs.Extremes as Extremes
use Rattle.vector.specs.Single.{single, 0f, 1f}
use Rattle.vector.specs.Coords as Coords
use Rattle.vector.specs.Geometry as Geometry
use Rattle.shape.proofs.CaseTests.{same, same_singles, all}
use Rattle.shape.specs.Gather as Gather
use Rattle.shape.specs.Refusal as Refusal
use Rattle.shape.specs.Lists as Lists
use Rattle.shape.specs.MeshMemory as MeshMemory
use Rattle.shape.specs.Strip as Strip
use Rattle.shape.specs.SurfaceMesh as SurfaceMesh
use Rattle.shape.specs.declared.mesh.MeshCounts.{MeshCounts}

-- 2, -2, 10
abbrev 2f : Float
2f = single 0x4000_0000

abbrev -2f : Float
-2f = single 0xc000_0000

abbrev 10f : Float
10f = single 0x4120_0000

-- points (0,0,0), (10,0,0), tangents (1,0,0), width 4
abbrev road : SurfaceMesh.Given
road =
    record {
      points = 0f ∷ 0f ∷ 0f ∷ 10f ∷ 0f ∷ 0f ∷ [];
      tangents = 1f ∷ 0f ∷ 0f ∷ 1f ∷ 0f ∷ 0f ∷ [];
      widths = [];
      banks = [];
      lanes = 7 ∷ 0 ∷ 2 ∷ 0 ∷ 2 ∷ 0 ∷ 0 ∷ 0 ∷ 0 ∷ 0x4080_0000 ∷ [];
    }

-- memory with room for v numbers of vertices, 12 of normals, 6 indices and one span
abbrev lent : ℕ → Lists.Mesh
lent v = Lists.mesh_lists (replicate v 0f) (replicate 12 0f) (replicate 6 0) (replicate 5 0)

-- the answer, as numbers
abbrev numbers : Refusal.Answer MeshCounts → List ℕ
numbers (Refusal.taken c) = c.vertices ∷ c.normals ∷ c.indices ∷ c.spans ∷ []
numbers (Refusal.refused number place) = number ∷ place ∷ []

abbrev pub strip_cases : List Bool
strip_cases =
    same_singles (SurfaceMesh.mesh_of road).vertices (0f ∷ 2f ∷ 0f ∷ 0f ∷ -2f ∷ 0f ∷ 10f ∷ 2f ∷ 0f ∷ 10f ∷ -2f ∷ 0f ∷ [])
    ∷ same_singles (SurfaceMesh.mesh_of road).normals (0f ∷ 0f ∷ 1f ∷ 0f ∷ 0f ∷ 1f ∷ 0f ∷ 0f ∷ 1f ∷ 0f ∷ 0f ∷ 1f ∷ [])
    ∷ same (SurfaceMesh.mesh_of road).indices (0 ∷ 1 ∷ 3 ∷ 0 ∷ 3 ∷ 2 ∷ [])
    ∷ same (SurfaceMesh.mesh_of road).spans (7 ∷ 0 ∷ 4 ∷ 0 ∷ 6 ∷ [])
    ∷ same (numbers (SurfaceMesh.answer_of road (lent 12))) (4 ∷ 4 ∷ 6 ∷ 1 ∷ [])
    ∷ same (numbers (SurfaceMesh.answer_of road (lent 11))) (3 ∷ 12 ∷ [])
    ∷ []

pub strip_cases_lem : all strip_cases ≡ true
unfolding same all Ieee.of_bits Ieee.to_bits Ieee.of_fields Ieee.odd Ieee.add Ieee.sub Ieee.mul Ieee.div Ieee.neg Ieee.lt Ieee.le Ieee.eq Ieee.sum Ieee.round Ieee.units Ieee.span Ieee.climb Ieee.size Ieee.is_nan count_trailing_zeros Root.root_in Root.isqrt Root.root_of Root.sqrt_of Extremes.first Extremes.min_of Extremes.max_of Extremes.clamp_of Extremes.abs_of Coords.point_sub Coords.point_add Coords.point_sub_vector Coords.vector_add Coords.vector_sub Coords.vector_mul Coords.vector_neg Coords.dot_of Coords.cross_of Coords.length_squared_of Coords.length_of Coords.distance_of Coords.zero_vector Coords.up_vector Coords.normalize_or Coords.normalize_or_zero Coords.is_zero Coords.turned_of Coords.rotate_about Coords.all_finite Coords.point_finite Coords.vector_finite Geometry.horizontal_of Geometry.left_normal_of Gather.gather Gather.any Refusal.number_of Refusal.place_of Refusal.found Refusal.refuse Refusal.or_else Refusal.judge Refusal.leaves Lists.longer Lists.uneven Lists.point_at Lists.vector_at Lists.word_of Lists.last_end Lists.run_bad Lists.run_long Lists.run_of Lists.mesh_fault Strip.step_of Strip.keeps_step Strip.keeps Strip.weld_next Strip.welded Strip.end_kept Strip.kept_of Strip.kept Strip.kept_point Strip.leg_of Strip.no_leg Strip.leg_in Strip.leg_out Strip.along_of Strip.grade_of Strip.slope_of Strip.lateral_of Strip.half_of Strip.shorter_of Strip.eat_square_of Strip.eat_of Strip.pinches Strip.inner_of Strip.turns_left Strip.spread_of Strip.rib_at Strip.six_of Strip.ups_of Strip.no_area Strip.triangle_of Strip.segment_of Strip.vertices_of Strip.normals_of Strip.indices_of SurfaceMesh.lane_run SurfaceMesh.lane_at SurfaceMesh.lane_limits SurfaceMesh.runs_ragged SurfaceMesh.lane_ragged SurfaceMesh.input_fault SurfaceMesh.lane_vertices SurfaceMesh.lane_normals SurfaceMesh.lane_indices SurfaceMesh.span_of SurfaceMesh.lane_span SurfaceMesh.mesh_of SurfaceMesh.counts_of SurfaceMesh.call_fault SurfaceMesh.answer_of MeshMemory.result_limits MeshMemory.result_short MeshMemory.room_fault
strip_cases_lem = refl
