-- The whole of document 01's lane and a junction's mesh, either part first, by computation: lists, the triangles found, and the refusals; and the higher of
-- two answers. Assumes nothing.
use Rattle.std.specs.Prelude.{◌≡◌, ℕ, zero, suc, List, [], ◌∷◌, refl, Float, Option, Some, None}
use Rattle.std.specs.Float.Ieee.{neg, sub, add, mul, div, le, lt, of_bits}
use Rattle.rounding.specs.Extremes.{abs_of}
use Rattle.vector.specs.Single.{single, 0f, 1f}
use Rattle.vector.specs.declared.coords.Vector.{Vector}
use Rattle.shape.specs.Gather.{gather, any, least}
use Rattle.shape.specs.Lists.{Mesh, mesh_lists, longer, uneven, word_of, last_end, run_bad, point_at, mesh_limits, mesh_ragged}
use Rattle.shape.specs.MeshMemory.{result_limits, result_short, room_fault}
use Rattle.shape.specs.Refusal.{fault, fine, refuse, or_else}
use Rattle.lookup.specs.Mesh.{triangles, present}
use Rattle.lookup.specs.Cover.{covers, weights_at, weights_of, det_of, over_a, weight_a, weight_b, weights_inside, height_of, lift_of}
use Rattle.lookup.specs.Fold.{fold_of}
use Rattle.lookup.specs.Plain.{scan_by, scan_of, higher_of, gives}
use Rattle.joining.specs.Join.{indices_up, span_up, spans_up, join_of, empty, part_ragged, odd_normals, loose, first_loose, loose_fault, parts_fault, input_fault, call_fault, moved, higher}

abbrev 2f : Float
2f = single 0x4000_0000

abbrev -2f : Float
-2f = single 0xc000_0000

abbrev 10f : Float
10f = single 0x4120_0000

abbrev 12f : Float
12f = single 0x4140_0000

abbrev 14f : Float
14f = single 0x4160_0000

-- so many vertices' normals, all up
abbrev ups : ℕ → List Float
ups zero = []
ups (suc n) = 0f ∷ 0f ∷ 1f ∷ ups n

-- so many zeros
abbrev zeros : ℕ → List ℕ
zeros zero = []
zeros (suc n) = 0 ∷ zeros n

-- document 01's lane of width 4 from (0, 0) to (10, 0), with id 7
abbrev lane_vertices : List Float
lane_vertices = 0f ∷ 2f ∷ 0f ∷ 0f ∷ -2f ∷ 0f ∷ 10f ∷ 2f ∷ 0f ∷ 10f ∷ -2f ∷ 0f ∷ []

abbrev lane_indices : List ℕ
lane_indices = 0 ∷ 1 ∷ 3 ∷ 0 ∷ 3 ∷ 2 ∷ []

abbrev lane : Mesh
lane = mesh_lists lane_vertices (ups 4) lane_indices (7 ∷ 0 ∷ 4 ∷ 0 ∷ 6 ∷ [])

-- the square from (10, -2) to (14, 2), each triangle with vertices of its own
abbrev square_vertices : List Float
square_vertices =
    10f ∷ 2f ∷ 0f ∷ 10f ∷ -2f ∷ 0f ∷ 14f ∷ -2f ∷ 0f
    ∷ 14f ∷ -2f ∷ 0f ∷ 14f ∷ 2f ∷ 0f ∷ 10f ∷ 2f ∷ 0f ∷ []

abbrev square_with : List ℕ → Mesh
square_with is = mesh_lists square_vertices (ups 6) is []

abbrev square : Mesh
square = square_with (0 ∷ 1 ∷ 2 ∷ 3 ∷ 4 ∷ 5 ∷ [])

-- ---- the lists

lane_then_square : join_of lane square
    ≡ mesh_lists
    (0f ∷ 2f ∷ 0f ∷ 0f ∷ -2f ∷ 0f ∷ 10f ∷ 2f ∷ 0f ∷ 10f ∷ -2f ∷ 0f ∷ square_vertices)
    (ups 10)
    (0 ∷ 1 ∷ 3 ∷ 0 ∷ 3 ∷ 2 ∷ 4 ∷ 5 ∷ 6 ∷ 7 ∷ 8 ∷ 9 ∷ [])
    (7 ∷ 0 ∷ 4 ∷ 0 ∷ 6 ∷ [])
unfolding join_of indices_up spans_up span_up gather word_of
lane_then_square = refl

square_then_lane : ((join_of square lane).indices ≡ 0 ∷ 1 ∷ 2 ∷ 3 ∷ 4 ∷ 5 ∷ 6 ∷ 7 ∷ 9 ∷ 6 ∷ 9 ∷ 8 ∷ []) × ((join_of square lane).spans ≡ 7 ∷ 6 ∷ 10 ∷ 6 ∷ 12 ∷ [])
unfolding join_of indices_up spans_up span_up gather word_of
square_then_lane = (refl, refl)

-- an empty part, first and second
with_empty : (join_of empty lane ≡ lane) × (join_of lane empty ≡ lane)
unfolding join_of indices_up spans_up span_up gather word_of
with_empty = (refl, refl)

-- ---- the higher answer, where the first part has two triangles

abbrev up_vector : Vector
up_vector = record { x = 0f; y = 0f; z = 1f }

equal_heights : higher 2 (gives 2f up_vector 1) (gives 2f up_vector 0) ≡ gives 2f up_vector 1
unfolding higher moved lt le of_bits
equal_heights = refl

second_higher : higher 2 (gives 2f up_vector 1) (gives 10f up_vector 0) ≡ gives 10f up_vector 2
unfolding higher moved lt le of_bits
second_higher = refl

-- ---- the triangle found

abbrev number_of : Option (Float × ℕ) → List ℕ
number_of (Some (h, t)) = t ∷ []
number_of None = []

abbrev found_at : Mesh → Float → Float → List ℕ
found_at m x y = number_of (scan_of m.vertices m.indices x y (λ t. t) (triangles m.indices))

-- at (5, 0), at (10, 0), where both parts have the same height, at (12, 0), (13, 1) and (15, 0)
abbrev found_along : Mesh → List (List ℕ)
found_along m =
    found_at m (single 0x40a0_0000) 0f ∷ found_at m 10f 0f ∷ found_at m 12f 0f ∷ found_at m (single 0x4150_0000) 1f ∷ found_at m (single 0x4170_0000) 0f ∷ []

lane_first : found_along (join_of lane square) ≡ (0 ∷ []) ∷ (1 ∷ []) ∷ (2 ∷ []) ∷ (3 ∷ []) ∷ [] ∷ []
unfolding join_of indices_up fold_of scan_by scan_of higher_of height_of lift_of covers present point_at weights_at weights_of det_of over_a weight_a weight_b weights_inside abs_of le lt sub add mul div neg of_bits
lane_first = refl

square_first : found_along (join_of square lane) ≡ (2 ∷ []) ∷ (0 ∷ []) ∷ (0 ∷ []) ∷ (1 ∷ []) ∷ [] ∷ []
unfolding join_of indices_up fold_of scan_by scan_of higher_of height_of lift_of covers present point_at weights_at weights_of det_of over_a weight_a weight_b weights_inside abs_of le lt sub add mul div neg of_bits
square_first = refl

-- ---- refusals

-- none; three normals for the lane's four vertices; the square's last index 6; five indices in the second part: list 6
taken_parts : input_fault lane square ≡ fine
unfolding input_fault parts_fault mesh_limits mesh_ragged part_ragged odd_normals loose first_loose loose_fault refuse or_else longer uneven any least run_bad last_end word_of
taken_parts = refl

three_normals : input_fault (mesh_lists lane_vertices (ups 3) lane_indices []) square ≡ fault 7 0
unfolding input_fault parts_fault mesh_limits mesh_ragged part_ragged odd_normals loose first_loose loose_fault refuse or_else longer uneven any least run_bad last_end word_of
three_normals = refl

last_index_loose : input_fault lane (square_with (0 ∷ 1 ∷ 2 ∷ 3 ∷ 4 ∷ 6 ∷ [])) ≡ fault 8 11
unfolding input_fault parts_fault mesh_limits mesh_ragged part_ragged odd_normals loose first_loose loose_fault refuse or_else longer uneven any least run_bad last_end word_of
last_index_loose = refl

five_indices : input_fault lane (square_with (0 ∷ 1 ∷ 2 ∷ 3 ∷ 4 ∷ [])) ≡ fault 2 6
unfolding input_fault parts_fault mesh_limits mesh_ragged part_ragged odd_normals loose first_loose loose_fault refuse or_else longer uneven any least run_bad last_end word_of
five_indices = refl

-- of one part, the indices count after the coordinates and before the spans
in_its_lists : (input_fault lane (mesh_lists (0f ∷ []) [] (0 ∷ []) (0 ∷ [])) ≡ fault 2 4) × (input_fault lane (mesh_lists [] (0f ∷ []) (0 ∷ []) (0 ∷ [])) ≡ fault 2 5)
    × (input_fault lane (mesh_lists [] [] (0 ∷ []) (0 ∷ [])) ≡ fault 2 6) × (input_fault lane (mesh_lists [] [] [] (0 ∷ [])) ≡ fault 2 7)
unfolding input_fault parts_fault mesh_limits mesh_ragged part_ragged odd_normals loose first_loose loose_fault refuse or_else longer uneven any least run_bad last_end word_of
in_its_lists = (refl, refl, refl, refl)

-- a list of the second part past its limit comes before a ragged one of the first
one_before_two : input_fault (mesh_lists (0f ∷ []) [] [] []) (mesh_lists [] [] [] (zeros 5121)) ≡ fault 1 1024
unfolding input_fault parts_fault mesh_limits mesh_ragged part_ragged odd_normals loose first_loose loose_fault refuse or_else longer uneven any least run_bad last_end word_of
one_before_two = refl

-- a ragged list of the second part before odd normals in the first
two_before_seven : input_fault (mesh_lists lane_vertices (ups 3) lane_indices []) (square_with (0 ∷ 1 ∷ 2 ∷ 3 ∷ 4 ∷ [])) ≡ fault 2 6
unfolding input_fault parts_fault mesh_limits mesh_ragged part_ragged odd_normals loose first_loose loose_fault refuse or_else longer uneven any least run_bad last_end word_of
two_before_seven = refl

-- odd normals in both parts, and a loose corner in both: the first part's is told
first_before_second : (input_fault (mesh_lists lane_vertices (ups 3) [] []) (mesh_lists square_vertices (ups 5) [] []) ≡ fault 7 0)
    × (input_fault (mesh_lists lane_vertices (ups 4) (0 ∷ 1 ∷ 4 ∷ []) []) (square_with (6 ∷ 1 ∷ 2 ∷ [])) ≡ fault 8 2)
unfolding input_fault parts_fault mesh_limits mesh_ragged part_ragged odd_normals loose first_loose loose_fault refuse or_else longer uneven any least run_bad last_end word_of
first_before_second = (refl, refl)

-- odd normals in the second part come before a loose corner in the first
seven_before_eight : input_fault (mesh_lists lane_vertices (ups 4) (0 ∷ 1 ∷ 4 ∷ []) []) (mesh_lists square_vertices (ups 5) [] []) ≡ fault 7 1
unfolding input_fault parts_fault mesh_limits mesh_ragged part_ragged odd_normals loose first_loose loose_fault refuse or_else longer uneven any least run_bad last_end word_of
seven_before_eight = refl

-- memory for eleven indices of twelve, and no memory at all: the vertices' count comes first
short_output : (call_fault lane square (mesh_lists (ups 10) (ups 10) (0 ∷ 0 ∷ 0 ∷ 0 ∷ 0 ∷ 0 ∷ 0 ∷ 0 ∷ 0 ∷ 0 ∷ 0 ∷ []) (0 ∷ 0 ∷ 0 ∷ 0 ∷ 0 ∷ [])) ≡ fault 3 12)
    × (call_fault lane square (mesh_lists [] [] [] []) ≡ fault 3 30)
unfolding call_fault room_fault result_limits result_short input_fault parts_fault join_of indices_up spans_up span_up gather mesh_limits mesh_ragged part_ragged odd_normals loose first_loose loose_fault refuse or_else longer uneven any least run_bad last_end word_of
short_output = (refl, refl)

-- a whole of 1,025 spans, and no memory at all: the limit comes first
limit_before_room : call_fault (mesh_lists [] [] [] (zeros 2565)) (mesh_lists [] [] [] (zeros 2560)) (mesh_lists [] [] [] []) ≡ fault 1 1024
unfolding call_fault room_fault result_limits result_short input_fault parts_fault join_of indices_up spans_up span_up gather mesh_limits mesh_ragged part_ragged odd_normals loose first_loose loose_fault refuse or_else longer uneven any least run_bad last_end word_of
limit_before_room = refl
