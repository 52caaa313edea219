-- Document 01, "Lane strips": the strip of one lane, from its points to its vertices, normals and indices, in the order of the Rust's roundings.
-- Definitions only. Assumes nothing.
use Rattle.std.specs.Prelude.{ℕ, zero, suc, ◌+◌, ◌-◌, ◌*◌, ◌/◌, min, Bool, cond, ◌&&◌, List, [], ◌∷◌, ◌++◌, length, get_or, nat_lt, slice_index, slice_index_or, Float}
use Rattle.std.specs.Float.{binary32}
use Rattle.std.specs.Float.Ieee.{lt, neg}
use Rattle.rounding.specs.Root.{sqrt_of}
use Rattle.rounding.specs.Extremes.{min_of, max_of, clamp_of}
use Rattle.rounding.specs.Thresholds.{micro, tenth}
use Rattle.vector.specs.Single.{◌⊖◌, ◌⊗◌, ◌⊘◌, single, 0f, 1f}
use Rattle.vector.specs.Coords.{
  point_sub,
  point_add,
  point_sub_vector,
  vector_add,
  vector_sub,
  vector_mul,
  dot_of,
  cross_of,
  length_squared_of,
  length_of,
  zero_vector,
  up_vector,
  normalize_or,
  normalize_or_zero,
  rotate_about,
}
use Rattle.vector.specs.Geometry.{horizontal_of, left_normal_of}
use Rattle.vector.specs.declared.coords.Point.{Point}
use Rattle.vector.specs.declared.coords.Vector.{Vector}
use Rattle.shape.specs.declared.rib.Lane as lent
use Rattle.shape.specs.declared.rib.Rib.{Rib}
use Rattle.shape.specs.declared.rib.Leg.{Leg}
use Rattle.shape.specs.declared.rib.Spread.{Spread}
use Rattle.shape.specs.Gather.{gather}
use Rattle.shape.specs.Lists.{point_at, vector_at}

-- ---- a lane: centre points, tangents, widths, banks as sine and cosine, and the default width

pub record Lane : Type 0 where
  pub points : List Float
  pub tangents : List Float
  pub widths : List Float
  pub banks : List Float
  pub width : Float

abbrev pub lane_lists : List Float → List Float → List Float → List Float → Float → Lane
lane_lists ps ts ws bs w = record { points = ps; tangents = ts; widths = ws; banks = bs; width = w }

-- what a lent lane points to
abbrev pub lane_of : lent.Lane → Lane
lane_of l = lane_lists l.points.now l.tangents.now l.widths.now l.banks.now l.width

-- ---- which points are kept

-- 0.25, 0.5, 0.49 and 1e-4
abbrev pub quarter : Float
quarter = single 0x3e80_0000

abbrev pub half : Float
half = single 0x3f00_0000

abbrev pub most : Float
most = single 0x3efa_e148

abbrev pub tiny : Float
tiny = single 0x38d1_b717

-- the distance from point a to point b
unfoldable pub step_of : List Float → ℕ → ℕ → Float
step_of ps a b = length_of (point_sub (point_at ps b) (point_at ps a))

-- "a point is kept if its distance from the last kept exceeds the larger of 0.1 and a quarter of the last step": a step of length d
-- after one of length s
unfoldable pub keeps_step : Float → Float → Bool
keeps_step s d = lt (max_of (quarter ⊗ s) tenth) d

-- point i, after the point `last`, which a step of length s led to
unfoldable pub keeps : List Float → ℕ → Float → ℕ → Bool
unfolding keeps_step
keeps ps last s i = keeps_step s (step_of ps last i)

-- the points kept, without the last of them; the last; the length of the step to it
pub record Weld : Type 0 where
  pub front : List ℕ
  pub last : ℕ
  pub step : Float

unfoldable pub weld_next : List Float → Weld → ℕ → Weld
weld_next ps w i =
    let k : Bool = keeps ps w.last w.step i in
    record {
      front = w.front ++ cond k (w.last ∷ []) [];
      last = cond k i w.last;
      step = cond k (step_of ps w.last i) w.step;
    }

-- after the points 0 to n; point 0 is kept
unfoldable pub welded : List Float → ℕ → Weld
welded ps zero = record { front = []; last = 0; step = 0f }
welded ps (suc n) = weld_next ps (welded ps n) (suc n)

-- "the final point replaces the last kept": the final point e, after the m points kept before the last. "One point kept: the lane is
-- skipped if its ends lie under 1e-6 apart"; otherwise it has both ends.
unfoldable pub end_kept : ℕ → Bool → ℕ → List ℕ
end_kept zero near e = cond near [] (0 ∷ e ∷ [])
end_kept (suc m) near e = e ∷ []

-- the points kept of the first n
unfoldable pub kept_of : List Float → ℕ → List ℕ
kept_of ps zero = []
kept_of ps (suc n) = let f : List ℕ = (welded ps n).front in f ++ end_kept (length f) (lt (step_of ps 0 n) micro) n

unfoldable pub kept : Lane → List ℕ
kept l = kept_of l.points (length l.points / 3)

-- ---- ribs: one across the lane at each kept point

unfoldable pub kept_point : List Float → List ℕ → ℕ → Point
kept_point ps ks i = point_at ps (slice_index ks i)

-- a leg from a to b: its direction on the ground, and the square of its length
unfoldable pub leg_of : Point → Point → Leg
leg_of a b = record { way = normalize_or_zero (horizontal_of (point_sub b a)); square = length_squared_of (point_sub b a) }

-- where there is none
unfoldable pub no_leg : Leg
no_leg = record { way = zero_vector; square = 0f }

-- the legs into kept point i and out of it
unfoldable pub leg_in : List Float → List ℕ → ℕ → Leg
leg_in ps ks zero = no_leg
leg_in ps ks (suc i) = leg_of (kept_point ps ks i) (kept_point ps ks (suc i))

unfoldable pub leg_out : List Float → List ℕ → ℕ → Leg
leg_out ps ks i = cond (nat_lt (i + 1) (length ks)) (leg_of (kept_point ps ks i) (kept_point ps ks (i + 1))) no_leg

-- along the lane: the tangent k, "a missing tangent is zero", and where it has no direction, between the legs
unfoldable pub along_of : List Float → ℕ → Vector → Vector → Vector
along_of ts k inc out = normalize_or (horizontal_of (vector_at ts k)) (normalize_or_zero (vector_add inc out))

-- rise over run from a to b
unfoldable pub grade_of : Point → Point → Float
grade_of a b =
    let run : Float = length_of (horizontal_of (point_sub b a)) in
    cond (lt micro run) ((b.z ⊖ a.z) ⊘ run) 0f

-- along the lane with the grade from a to b
unfoldable pub slope_of : Vector → Point → Point → Vector
slope_of along a b = normalize_or (vector_add along (vector_mul up_vector (grade_of a b))) along

-- across the lane: its left, rolled about its direction by the bank k, "a missing bank is (0, 1)"
unfoldable pub lateral_of : List Float → ℕ → Vector → Vector → Vector
lateral_of bs k left along = rotate_about left along (slice_index_or bs (2 * k) 0f) (slice_index_or bs (2 * k + 1) 1f)

-- half the width k, "a missing width the default"
unfoldable pub half_of : List Float → ℕ → Float → Float
half_of ws k w = get_or ws k w ⊗ half

-- at a corner: the shorter leg; how much of it an offset of 1 eats, the sine of half the turn
unfoldable pub shorter_of : Leg → Leg → Float
shorter_of inc out = min_of (sqrt_of binary32 inc.square) (sqrt_of binary32 out.square)

unfoldable pub eat_square_of : Vector → Vector → Float
eat_square_of inc out = max_of ((1f ⊖ clamp_of (dot_of inc out) (neg 1f) 1f) ⊗ half) 0f

unfoldable pub eat_of : Vector → Vector → Float
eat_of inc out = sqrt_of binary32 (eat_square_of inc out)

-- whether it is so sharp that the inner vertex is pinched; how far that one may lie from the point; whether it is the left one
unfoldable pub pinches : Leg → Leg → Bool
pinches inc out = lt tiny (eat_of inc.way out.way) && lt micro (shorter_of inc out)

unfoldable pub inner_of : Leg → Leg → Float → Float
inner_of inc out h = min_of h (most ⊗ shorter_of inc out ⊘ eat_of inc.way out.way)

unfoldable pub turns_left : Vector → Vector → Vector → Bool
turns_left inc out left = lt 0f (dot_of (vector_sub out inc) left)

-- how far the left and the right vertex lie from the point, where half the width is h; the ends are no corners
unfoldable pub spread_of : Bool → Leg → Leg → Vector → Float → Spread
spread_of corner inc out left h =
    cond (corner && pinches inc out)
    (cond (turns_left inc.way out.way left) (record { left = inner_of inc out h; right = h }) (record { left = h; right = inner_of inc out h }))
    (record { left = h; right = h })

-- rib i over the kept points ks: the left and the right vertex, and the normal of both
unfoldable pub rib_at : Lane → List ℕ → ℕ → Rib
rib_at l ks i =
    let n : ℕ = length ks in
    let k : ℕ = get_or ks i 0 in
    let p : Point = kept_point l.points ks i in
    let inc : Leg = leg_in l.points ks i in
    let out : Leg = leg_out l.points ks i in
    let along : Vector = along_of l.tangents k inc.way out.way in
    let left : Vector = left_normal_of along in
    let across : Vector = lateral_of l.banks k left along in
    let m : Spread = spread_of (nat_lt 0 i && nat_lt (i + 1) n) inc out left (half_of l.widths k l.width) in
    let slope : Vector = slope_of along (kept_point l.points ks (i - 1)) (kept_point l.points ks (min (i + 1) (n - 1))) in
    record {
      left = point_add p (vector_mul across m.left);
      right = point_sub_vector p (vector_mul across m.right);
      up = normalize_or (cross_of slope across) up_vector;
    }

-- ---- the strip, over the kept points ks

unfoldable pub six_of : Point → Point → List Float
six_of a b = a.x ∷ a.y ∷ a.z ∷ b.x ∷ b.y ∷ b.z ∷ []

unfoldable pub ups_of : Vector → List Float
ups_of a = a.x ∷ a.y ∷ a.z ∷ a.x ∷ a.y ∷ a.z ∷ []

-- whether a triangle has less area than 1e-6, in twice its square metres
unfoldable pub no_area : Point → Point → Point → Bool
no_area a b c = lt (length_of (cross_of (point_sub b a) (point_sub c a))) micro

-- a triangle, unless it has no area
unfoldable pub triangle_of : Bool → ℕ → ℕ → ℕ → List ℕ
triangle_of flat a b c = cond flat [] (a ∷ b ∷ c ∷ [])

-- the two triangles between two ribs, where v is the number of the first one's left vertex
unfoldable pub segment_of : ℕ → Rib → Rib → List ℕ
segment_of v a b =
    triangle_of (no_area a.left a.right b.right) v (v + 1) (v + 3)
    ++ triangle_of (no_area a.left b.right b.left) v (v + 3) (v + 2)

-- the vertices and the normals of rib i, and the indices from it to the next, where the strip's first vertex is v
abbrev pub vertices_at : Lane → List ℕ → ℕ → List Float
vertices_at l ks i = six_of (rib_at l ks i).left (rib_at l ks i).right

abbrev pub normals_at : Lane → List ℕ → ℕ → List Float
normals_at l ks i = ups_of (rib_at l ks i).up

abbrev pub indices_at : ℕ → Lane → List ℕ → ℕ → List ℕ
indices_at v l ks i = segment_of (v + 2 * i) (rib_at l ks i) (rib_at l ks (i + 1))

-- all of them
unfoldable pub vertices_of : Lane → List ℕ → List Float
vertices_of l ks = gather (vertices_at l ks) (length ks)

unfoldable pub normals_of : Lane → List ℕ → List Float
normals_of l ks = gather (normals_at l ks) (length ks)

unfoldable pub indices_of : ℕ → Lane → List ℕ → List ℕ
indices_of v l ks = gather (indices_at v l ks) (length ks - 1)
