-- Small cases of the indexed lookup, computed: document 01's case of a point past the rim, which the plain lookup answers and the indexed one does not, the
-- lanes of triangles, the words of records, and the order in which a call for many points is judged. Assumes nothing.
use Rattle.std.specs.Prelude.{◌≡◌, ℕ, ◌≤◌, List, [], ◌∷◌, length, ◌≢◌, to_bits, refl, Float, Some, None}
use Rattle.std.proofs.Common.{ap, ◌∙◌}
use Rattle.std.specs.Float.{binary32}
use Rattle.std.specs.Float.Ieee.{add, sub, mul, div, lt, le, eq, neg, of_bits}
use Rattle.rounding.specs.Extremes.{min_of, max_of, abs_of}
use Rattle.shape.specs.Gather.{any}
use Rattle.shape.specs.Refusal.{taken, refused, refuse, or_else, judge}
use Rattle.shape.specs.Lists.{Mesh, mesh_lists, point_at, word_of, longer, uneven, run_bad, mesh_limits, mesh_ragged}
use Rattle.vector.specs.Single.{single, 0f, 1f}
use Rattle.vector.specs.declared.coords.Vector.{Vector}
use Rattle.lookup.specs.Mesh.{present, corners_of}
use Rattle.lookup.specs.Cover.{covers, weights_at, weights_of, det_of, over_a, weight_a, weight_b, weights_inside}
use Rattle.lookup.specs.Plain.{scan_of, Lookup, none, answer_of}
use Rattle.lookup.specs.Winner.{Covers}
use Rattle.lookup.specs.Box.{around_of, slack_of, grown_of, grown_box, box_of, within}
use Rattle.lookup.specs.Frame.{join_of, extent_of}
use Rattle.lookup.specs.Index.{candidates_over, candidates_of}
use Rattle.lookup.specs.Sampler.{top_fault, past_of, lane_of, hit, miss, sample_of, sample_in, top_of}
use Rattle.lookup.specs.Batch.{record_of, count_answer, tops_of}
use Rattle.lookup.specs.Consult.{head_fault, sides, declares}
use Rattle.lookup.specs.Demand3.{BuiltFrom}
use Rattle.lookup.proofs.Laws.Plain.{answer_none}
use Rattle.lookup.proofs.Laws.Demand3.{top_taken}

-- corners (0, 0) (0, 1) (10, 0), and the point (10.0015, -0.000075)
abbrev rim : Mesh
rim = mesh_lists (0f ∷ 0f ∷ 0f ∷ 0f ∷ 1f ∷ 0f ∷ single 0x4120_0000 ∷ 0f ∷ 0f ∷ []) [] (0 ∷ 1 ∷ 2 ∷ []) []

abbrev px : Float
px = single 0x4120_0625

abbrev py : Float
py = single 0xb89d_4952

covered : Covers rim px py 0
unfolding covers present point_at weights_at weights_of det_of over_a weight_a weight_b weights_inside abs_of le lt sub add mul div neg of_bits
covered = tt

plain_answers : (l : Lookup) → answer_of rim px py ≡ taken l → l ≢ none
plain_answers l e n = (answer_none rim px py l e).0 n 0 covered

none_handed : candidates_of rim.vertices rim.indices px py ≡ []
unfolding candidates_of candidates_over extent_of join_of within box_of grown_box grown_of slack_of around_of min_of max_of corners_of present point_at add sub mul le lt eq neg of_bits
none_handed = refl

indexed_none : (ws : List ℕ) → BuiltFrom rim ws → length ws ≤ 4194304 → top_of rim ws px py ≡ taken miss
unfolding sample_in sample_of scan_of
indexed_none ws b l = top_taken rim ws b px py l ∙ ap (λ (run : List ℕ). taken (sample_in rim px py run)) none_handed

-- spans of lanes 7, 9 and 4 with the indices 0 to 6, none, and 9 to 12: the lanes of triangles 0 to 4
abbrev spans : List ℕ
spans = 7 ∷ 0 ∷ 4 ∷ 0 ∷ 6 ∷ 9 ∷ 4 ∷ 4 ∷ 6 ∷ 6 ∷ 4 ∷ 4 ∷ 8 ∷ 9 ∷ 12 ∷ []

lanes : (lane_of spans 0 ≡ Some 7) × (lane_of spans 1 ≡ Some 7) × (lane_of spans 2 ≡ None) × (lane_of spans 3 ≡ Some 4) × (lane_of spans 4 ≡ None)
unfolding lane_of past_of word_of
lanes = (refl, refl, refl, refl, refl)

-- the words of each kind of record
found : (h : Float) (n : Vector) (t id : ℕ)
    → record_of (taken (hit h n t (record { lane = Some id })))
    ≡ 1 ∷ to_bits binary32 h ∷ to_bits binary32 n.x ∷ to_bits binary32 n.y ∷ to_bits binary32 n.z ∷ t ∷ 1 ∷ id ∷ []
unfolding record_of
found h n t id = refl

others : (number place : ℕ)
    → (record_of (taken miss) ≡ 0 ∷ 0 ∷ 0 ∷ 0 ∷ 0 ∷ 0 ∷ 0 ∷ 0 ∷ [])
    × (record_of (refused number place) ≡ 2 ∷ number ∷ place ∷ 0 ∷ 0 ∷ 0 ∷ 0 ∷ 0 ∷ [])
unfolding record_of
others number place = (refl, refl)

-- ---- many points: what is wrong with the whole call, of a mesh without triangles

abbrev nothing : Mesh
nothing = mesh_lists [] [] [] []

-- one point; the index of no triangles, whose nine words declare no cells
abbrev origin : List Float
origin = 0f ∷ 0f ∷ []

abbrev empty : List ℕ
empty = 0 ∷ 0 ∷ 0 ∷ 0 ∷ 0 ∷ 0 ∷ 0 ∷ 0 ∷ 0 ∷ []

-- a foreign index before a short output, with no points too, and after a point without its y
judged : (tops_of nothing [] origin 7 ≡ refused 4 0) × (tops_of nothing [] [] 0 ≡ refused 4 0) × (tops_of nothing [] (0f ∷ []) 7 ≡ refused 2 5)
    × (tops_of nothing empty origin 7 ≡ refused 3 8) × (tops_of nothing empty origin 8 ≡ taken 1) × (tops_of nothing empty [] 0 ≡ taken 0)
unfolding tops_of top_fault or_else mesh_limits mesh_ragged longer uneven any run_bad head_fault sides declares count_answer refuse judge
judged = (refl, refl, refl, refl, refl, refl)
