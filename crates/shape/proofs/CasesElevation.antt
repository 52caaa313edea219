-- Document 01, the cases marked [P] of "Height in a junction", as one list of tests that are all true by computation, with some of the refusals, and the coefficients of sixteen numbers. Assumes nothing.
use Rattle.std.specs.Prelude.{◌≡◌, ℕ, zero, suc, ◌-◌, ◌≤◌, Bool, true, false, cond, ◌&&◌, ◌||◌, ◌⊎◌, List, [], ◌∷◌, map, length, replicate, ℤ, pos, negsuc, ◌==◌, Float, Some, None}
use Rattle.std.proofs.Math.Path.{refl}
use Rattle.std.proofs.Math.Logic.{inl, inr}
use native.Mathlib.Omega.{arith}
use Rattle.std.proofs.Common.{le-ltb}
use Rattle.std.proofs.Math.IntN.{suc_ℤ, pred_ℤ}
use Rattle.std.specs.Float.{nan, inf, binary64}
use Rattle.std.specs.Float.Ieee.{add, sub, mul, div, neg, lt, le, eq, is_nan, of_bits, of_int, to_bits, to_signed}
use Rattle.rounding.specs.Whole.{whole_of}
use Rattle.rounding.specs.Extremes.{abs_of}
use Rattle.shape.proofs.CaseTests.{same, same_doubles, all}
use Rattle.shape.specs.Double.{double, 0d, 1d, ◌⊟◌, ◌⧄◌}
use Rattle.shape.specs.Gather.{gather, any}
use Rattle.shape.specs.Lists.{longer, uneven, word_of, last_end, run_bad, run_long}
use Rattle.shape.specs.Refusal.{refuse, Answer, taken, refused, judge}
use Rattle.shape.specs.Elevation.{Spot, nth, row_of, row_count, column_of, value_of, line_of, straight_of, slopes_of, edge_of, first_of, second_of, frame_of, entry_of, mul_of, transpose_of, bicubic, coefficients_of, power_of, sum_to, surface_of, with_height, square_of, in_square, or_spot, tried_at, floored, tried, on_grid, snap_of, longest, widest_of, within, count, coords_of, height_of, grid_long, grid_ragged, grid_fault, height_answer}
use Rattle.shape.specs.declared.elevation.ElevationGrid.{ElevationGrid}

-- ---- the answers

-- the same number, bit for bit, or none both times
same_spot : Spot → Spot → Bool
same_spot (Some a) (Some b) = to_bits binary64 a == to_bits binary64 b
same_spot (Some a) None = false
same_spot None (Some b) = false
same_spot None None = true

gives : Answer Spot → Spot → Bool
gives (taken a) b = same_spot a b
gives (refused number place) b = false

refuses : Answer Spot → ℕ → ℕ → Bool
refuses (taken a) number place = false
refuses (refused n p) number place = n == number && p == place

-- ---- spacing 10, start 0, two rows of centre 0, left [10], right empty

abbrev five : Float
five = double 0x4014_0000_0000_0000

abbrev ten : Float
ten = double 0x4024_0000_0000_0000

grid : ElevationGrid
grid = record { origin_x = 0d; origin_y = 0d; sin = 0d; cos = 1d; start = 0d; spacing = ten }

rows : List ℕ
rows = 0 ∷ 0 ∷ 0 ∷ 1 ∷ 0 ∷ 0 ∷ 0 ∷ 0 ∷ 1 ∷ 2 ∷ 0 ∷ 0 ∷ []

asked : Float → Float → Answer Spot
asked s t = height_answer grid rows (ten ∷ ten ∷ []) [] s t

-- (5, 5) gives 5; (10, 10) gives 10; (5, -5) none; (-0.000001, 5) gives 5; (-0.00002, 5) none; one row alone, at one point: none (for all: `one_row` below)
pub height_cases : List Bool
height_cases =
    gives (asked five five) (Some five)
    ∷ gives (asked ten ten) (Some ten)
    ∷ gives (asked five (neg five)) None
    ∷ gives (asked (neg (double 0x3eb0_c6f7_a0b5_ed8d)) five) (Some five)
    ∷ gives (asked (neg (double 0x3ef4_f8b5_88e3_68f1)) five) None
    ∷ gives (height_answer grid (0 ∷ 0 ∷ 0 ∷ 1 ∷ 0 ∷ 0 ∷ []) (ten ∷ []) [] 0d five) None ∷ []

pub height_cases_lem : all height_cases ≡ true
unfolding same_spot gives grid rows asked height_cases all nth row_of column_of value_of line_of straight_of slopes_of edge_of first_of second_of frame_of entry_of mul_of transpose_of bicubic coefficients_of power_of sum_to surface_of with_height square_of in_square or_spot tried_at tried on_grid snap_of longest widest_of within coords_of height_of grid_long grid_ragged grid_fault height_answer gather any longer uneven word_of last_end run_bad run_long refuse judge whole_of abs_of add sub mul div neg lt le eq is_nan of_bits of_int to_bits to_signed
height_cases_lem = refl

-- ---- the coefficients of sixteen numbers, row by row: of 0 to 15, and of an infinity with zeros, where each product with 0 is worked out

-- whole numbers as doubles
abbrev whole_numbers : List ℤ → List Float
whole_numbers = map (of_int binary64)

-- the coefficients of these sixteen numbers are those
makes : List Float → List Float → Bool
makes f alpha = same_doubles (coefficients_of (record { m = f })).m alpha

pub patch_cases : List Bool
patch_cases =
    makes (gather (λ (n : ℕ). of_int binary64 (pos n) ∷ []) 16)
    (whole_numbers
    (pos 0 ∷ pos 2 ∷ negsuc 3 ∷ pos 3
    ∷ pos 8 ∷ pos 10 ∷ negsuc 27 ∷ pos 19
    ∷ negsuc 15 ∷ negsuc 21 ∷ pos 60 ∷ negsuc 40
    ∷ pos 12 ∷ pos 16 ∷ negsuc 43 ∷ pos 30 ∷ []))
    ∷ makes (inf false ∷ replicate 15 0d)
    (inf false ∷ nan ∷ inf true ∷ inf false
    ∷ nan ∷ nan ∷ nan ∷ nan
    ∷ inf true ∷ nan ∷ inf false ∷ inf true
    ∷ inf false ∷ nan ∷ inf true ∷ inf false ∷ [])
    ∷ []

pub patch_cases_lem : all patch_cases ≡ true
unfolding makes patch_cases same all gather entry_of mul_of transpose_of bicubic coefficients_of add mul neg of_bits of_int to_bits
patch_cases_lem = refl

-- ---- what is turned back: a part record, a run that ends before it starts, starts before the last one's end or ends past its list, and one past its limit,
-- which comes before its being ragged

turns : List ℕ → ℕ → ℕ → Bool
turns rows number place = refuses (height_answer grid rows (ten ∷ ten ∷ []) [] five five) number place

pub refusals : List Bool
refusals =
    turns (0 ∷ 0 ∷ 0 ∷ 1 ∷ 0 ∷ 0 ∷ 0 ∷ []) 2 0
    ∷ turns (0 ∷ 0 ∷ 1 ∷ 0 ∷ 0 ∷ 0 ∷ []) 2 0
    ∷ turns (0 ∷ 0 ∷ 0 ∷ 2 ∷ 0 ∷ 0 ∷ 0 ∷ 0 ∷ 1 ∷ 2 ∷ 0 ∷ 0 ∷ []) 2 0
    ∷ turns (0 ∷ 0 ∷ 0 ∷ 1 ∷ 0 ∷ 1 ∷ []) 2 0
    ∷ turns (0 ∷ 0 ∷ 0 ∷ 1024 ∷ 0 ∷ 0 ∷ []) 2 0
    ∷ turns (0 ∷ 0 ∷ 0 ∷ 1025 ∷ 0 ∷ 0 ∷ []) 1 1024
    ∷ turns (0 ∷ 0 ∷ 1 ∷ 0 ∷ 0 ∷ 1025 ∷ 0 ∷ []) 1 1024 ∷ []

pub refusals_hold : all refusals ≡ true
unfolding all refuses grid turns refusals height_answer grid_fault grid_long grid_ragged any longer uneven word_of last_end run_bad run_long refuse judge
refusals_hold = refl

-- ---- "One row alone: always none."

same_either_way : (b : Bool) (x : Spot) → x ≡ None → cond b x None ≡ None
same_either_way true x e = e
same_either_way false x e = refl

same_after : (b : Bool) (x : Spot) → x ≡ None → cond b None x ≡ None
same_after true x e = refl
same_after false x e = e

no_corner : (a b c : Spot) (f : Float → Float → Float → Spot) → (a ≡ None) ⊎ (c ≡ None)
    → with_height a (λ (x : Float). with_height b (λ (y : Float). with_height c (λ (z : Float). f x y z))) ≡ None
unfolding with_height
no_corner None b c f h = refl
no_corner (Some x) None c f h = refl
no_corner (Some x) (Some y) c f (inl e) = absurd (let z : ◌≡◌ {A = ℕ} 0 1 = cc in omega arith)
no_corner (Some x) (Some y) c f (inr e) = rw e

tried_none : (f : ℤ → Float → Spot) (at : Float) → ((i : ℤ) (x : Float) → f i x ≡ None) → tried f at ≡ None
unfolding tried tried_at or_spot
tried_none f at h =
    let i = to_signed 63 (floored at) in
    rw (h i 0d, h (pred_ℤ i) 1d, h i (at ⊟ floored at)) (same_either_way (eq (at ⊟ floored at) 0d) None refl)

module _ (rows : List ℕ) (left right : List Float) (one : row_count rows ≡ 1) where
  past : (i : ℕ) (j : ℤ) → 1 ≤ i → value_of rows left right (pos i) j ≡ None
  unfolding value_of
  past i j h = let e : row_count rows ≤ i = omega arith in rw (le-ltb i (row_count rows) e)

  edge_none : (i j : ℤ) → (value_of rows left right i j ≡ None) ⊎ (value_of rows left right (suc_ℤ i) j ≡ None)
  unfolding value_of
  edge_none (pos zero) j = inr (past 1 j (omega arith))
  edge_none (pos (suc n)) j = inl (past (suc n) j (omega arith))
  edge_none (negsuc n) j = inl refl

  square_none : (i : ℤ) (x : Float) (j : ℤ) (y : Float) → in_square (value_of rows left right) i x j y ≡ None
  unfolding in_square square_of line_of
  square_none i x j y = no_corner (value_of rows left right i j) (value_of rows left right i (suc_ℤ j)) (value_of rows left right (suc_ℤ i) j) _ (edge_none i j)

  grid_none : (u v : Float) → on_grid (value_of rows left right) u v ≡ None
  unfolding on_grid
  grid_none u v =
      tried_none (λ (i : ℤ) (x : Float). tried (λ (j : ℤ) (y : Float). in_square (value_of rows left right) i x j y) v) u
      (λ (i : ℤ) (x : Float). tried_none (λ (j : ℤ) (y : Float). in_square (value_of rows left right) i x j y) v (λ (j : ℤ) (y : Float). square_none i x j y))

  coords_none : (u v : Float) → coords_of rows left right u v ≡ None
  unfolding coords_of
  coords_none u v =
      let w = count (widest_of rows) in
      same_either_way (within 0d u (count (row_count rows - 1))) (cond (within (neg w) v w) (on_grid (value_of rows left right) u v) None)
      (same_either_way (within (neg w) v w) (on_grid (value_of rows left right) u v) (grid_none u v))

  height_none : (g : ElevationGrid) (s t : Float) → height_of g rows left right s t ≡ None
  unfolding height_of
  height_none g s t =
      let u = snap_of ((s ⊟ g.start) ⧄ g.spacing) in
      let v = snap_of (t ⧄ g.spacing) in
      same_after (is_nan g.spacing || le g.spacing 0d) (cond (row_count rows == 0) None (coords_of rows left right u v))
      (same_after (row_count rows == 0) (coords_of rows left right u v) (coords_none u v))

  -- the call's answer: what is wrong with the lists, or none
  pub one_row : (g : ElevationGrid) (s t : Float) → height_answer g rows left right s t ≡ judge (grid_fault rows (length left) (length right)) (taken None)
  unfolding height_answer
  one_row g s t = rw (height_none g s t)
