-- Document 01, "Height in a junction": the bicubic surface through the points of an elevation grid (ASAM OpenDRIVE 1.8), each sum, product and quotient
-- rounded once, in the Rust's order. Definitions only. Assumes nothing.
use Rattle.std.specs.Prelude.{ℕ, zero, suc, ◌+◌, ◌-◌, ◌*◌, ◌/◌, ◌%◌, ◌^◌, max, Bool, cond, ◌&&◌, ◌||◌, List, [], ◌∷◌, length, get_or, take, drop, ℤ, pos, negsuc, ◌==◌, from_bits, is_nan, nat_lt, slice_index_or, Float, Option, Some, None, Result, Ok, Err}
use Rattle.std.proofs.Math.IntN.{suc_ℤ, pred_ℤ}
use Rattle.std.specs.Float.{nan, binary64}
use Rattle.std.specs.Float.Ieee.{neg, lt, le, eq, of_int, to_signed}
use Rattle.rounding.specs.Whole.{floor_of, round_of}
use Rattle.rounding.specs.Extremes.{abs_of}
use Rattle.shape.specs.declared.elevation.GridFault.{GridFault}
use Rattle.shape.specs.declared.elevation.GridFault.TheVariants.{Long, Ragged}
use Rattle.shape.specs.Double.{◌⊞◌, ◌⊟◌, ◌⊠◌, ◌⧄◌, double, 0d, 1d, 2d, 3d, 6d, -1d, -2d, -3d}
use Rattle.shape.specs.Gather.{gather, any}
use Rattle.shape.specs.Lists.{max_rows, max_side, longer, uneven, word_of, start_of, end_of, run_bad, run_long}
use Rattle.shape.specs.Refusal.{Fault, fine, refuse, Answer, taken, judge}
use Rattle.shape.specs.declared.elevation.ElevationGrid.{ElevationGrid}
use Rattle.shape.specs.declared.elevation.Heights.{Heights}
use Rattle.shape.specs.declared.elevation.Run.{Run}
use Rattle.shape.specs.declared.elevation.GridRow.{GridRow}
use Rattle.shape.specs.declared.elevation.Line.{Line}
use Rattle.shape.specs.declared.elevation.Tilt.{Tilt}
use Rattle.shape.specs.declared.elevation.Patch.{Patch}
use Rattle.shape.specs.declared.elevation.Station.{Station}

-- ---- the points of the grid

-- a height that may be missing
abbrev pub Spot : Type 0
Spot = Option Float

-- height n of a list, from the line outward
unfoldable pub nth : List Float → ℕ → Spot
nth xs n = cond (nat_lt n (length xs)) (Some (slice_index_or xs n nan)) None

-- the part of a list that a run is
abbrev pub part : List Float → Run → List Float
part xs a = take (a.end - a.start) (drop a.start xs)

-- record k of the rows: the centre's bits, low word then high, and the runs of the left and of the right heights
unfoldable pub row_of : List ℕ → ℕ → GridRow
row_of rows k =
    record {
      center = from_bits binary64 (word_of 6 rows k 1 * 2 ^ 32 + word_of 6 rows k 0);
      left = record { start = word_of 6 rows k 2; end = word_of 6 rows k 3 };
      right = record { start = word_of 6 rows k 4; end = word_of 6 rows k 5 };
    }

-- "Column 0 is the centre, 1 and up the left list, -1 and down the right list."
unfoldable pub column_of : List Float → List Float → GridRow → ℤ → Spot
column_of left right row (pos zero) = Some row.center
column_of left right row (pos (suc n)) = nth (part left row.left) n
column_of left right row (negsuc n) = nth (part right row.right) n

abbrev pub row_count : List ℕ → ℕ
row_count rows = length rows / 6

-- the height at row i and column j
unfoldable pub value_of : List ℕ → List Float → List Float → ℤ → ℤ → Spot
value_of rows left right (pos i) j = cond (nat_lt i (row_count rows)) (column_of left right (row_of rows i) j) None
value_of rows left right (negsuc i) j = None

-- of the heights that are lent
abbrev pub heights_of : Heights → ℤ → ℤ → Spot
heights_of h = value_of h.rows.now h.left.now h.right.now

-- four columns one after another: an edge from column j to the next, and the points before and after it
unfoldable pub line_of : (ℤ → Spot) → ℤ → Line
line_of z j = record { before = z (pred_ℤ j); first = z j; second = z (suc_ℤ j); after = z (suc_ℤ (suc_ℤ j)) }

-- ---- slopes

-- "the plain difference"
unfoldable pub straight_of : Float → Float → Tilt
straight_of b c = record { first = c ⊟ b; second = c ⊟ b }

-- the slopes at b and c of four points a grid step apart: of the cubic through all four, or, with an outer neighbour missing, of the line
unfoldable pub slopes_of : Spot → Float → Float → Spot → Tilt
slopes_of (Some a) b c (Some d) =
    record { first = (-2d ⊠ a ⊟ 3d ⊠ b ⊞ 6d ⊠ c ⊟ d) ⧄ 6d; second = (a ⊟ 6d ⊠ b ⊞ 3d ⊠ c ⊞ 2d ⊠ d) ⧄ 6d }
slopes_of (Some a) b c None = straight_of b c
slopes_of None b c d = straight_of b c

-- the slopes along an edge that may lack its ends
unfoldable pub edge_of : Spot → Spot → Spot → Spot → Option Tilt
edge_of a (Some b) (Some c) d = Some (slopes_of a b c d)
edge_of a (Some b) None d = None
edge_of a None c d = None

-- the slopes across a row, at its two middle points
abbrev pub across_of : Line → Option Tilt
across_of l = edge_of l.before l.first l.second l.after

-- the slope at the first point of an edge, and at the second
unfoldable pub first_of : Option Tilt → Spot
first_of None = None
first_of (Some t) = Some t.first

unfoldable pub second_of : Option Tilt → Spot
second_of None = None
second_of (Some t) = Some t.second

-- ---- the patch

-- corners, slopes along and across, and twists of a square with the corners z, in the rows q and r, between the rows p and w
unfoldable pub frame_of : Line → Line → Line → Line → Float → Float → Float → Float → Patch
frame_of p q r w z00 z01 z10 z11 =
    let t0 = slopes_of q.before z00 z01 q.after in
    let t1 = slopes_of r.before z10 z11 r.after in
    let s0 = slopes_of p.first z00 z10 w.first in
    let s1 = slopes_of p.second z01 z11 w.second in
    let st0 = slopes_of (first_of (across_of p)) t0.first t1.first (first_of (across_of w)) in
    let st1 = slopes_of (second_of (across_of p)) t0.second t1.second (second_of (across_of w)) in
    record {
      m =
          z00 ∷ z01 ∷ t0.first ∷ t0.second
          ∷ z10 ∷ z11 ∷ t1.first ∷ t1.second
          ∷ s0.first ∷ s1.first ∷ st0.first ∷ st1.first
          ∷ s0.second ∷ s1.second ∷ st0.second ∷ st1.second ∷ [];
    }

-- entry (r, c) of a product of two matrices, each in rows of four
unfoldable pub entry_of : List Float → List Float → ℕ → ℕ → Float
entry_of a b r c =
    get_or a (4 * r) nan ⊠ get_or b c nan
    ⊞ get_or a (4 * r + 1) nan ⊠ get_or b (4 + c) nan
    ⊞ get_or a (4 * r + 2) nan ⊠ get_or b (8 + c) nan
    ⊞ get_or a (4 * r + 3) nan ⊠ get_or b (12 + c) nan

unfoldable pub mul_of : Patch → Patch → Patch
mul_of a b = record { m = gather (λ (n : ℕ). entry_of a.m b.m (n / 4) (n % 4) ∷ []) 16 }

unfoldable pub transpose_of : Patch → Patch
transpose_of a = record { m = gather (λ (n : ℕ). slice_index_or a.m (4 * (n % 4) + n / 4) nan ∷ []) 16 }

-- the standard's matrix, which makes the coefficients
unfoldable pub bicubic : Patch
bicubic =
    record {
      m =
          1d ∷ 0d ∷ 0d ∷ 0d
          ∷ 0d ∷ 0d ∷ 1d ∷ 0d
          ∷ -3d ∷ 3d ∷ -2d ∷ -1d
          ∷ 2d ∷ -2d ∷ 1d ∷ 1d ∷ [];
    }

-- "sixteen coefficients": A f A', with A the matrix
unfoldable pub coefficients_of : Patch → Patch
coefficients_of f = mul_of (mul_of bicubic f) (transpose_of bicubic)

-- 1, x, x², x³
unfoldable pub power_of : Float → ℕ → Float
power_of x n = slice_index_or (1d ∷ x ∷ x ⊠ x ∷ x ⊠ x ⊠ x ∷ []) n nan

-- f 0 + f 1 + .. + f n, from the left
unfoldable pub sum_to : (ℕ → Float) → ℕ → Float
sum_to f zero = f 0
sum_to f (suc n) = sum_to f n ⊞ f (suc n)

-- the height of the surface at (x, y) in its square
unfoldable pub surface_of : Patch → Float → Float → Float
surface_of p x y = sum_to (λ (n : ℕ). power_of x (n / 4) ⊠ get_or p.m n nan ⊠ power_of y (n % 4)) 15

-- ---- the square

-- what follows from a height, if it is there
unfoldable pub with_height : Spot → (Float → Spot) → Spot
with_height None f = None
with_height (Some z) f = f z

-- the height at (x, y) in the square with the corners that q and r hold, if all four are there
unfoldable pub square_of : Line → Line → Line → Line → Float → Float → Spot
square_of p q r w x y =
    with_height q.first (λ (z00 : Float).
    with_height q.second (λ (z01 : Float).
    with_height r.first (λ (z10 : Float).
    with_height r.second (λ (z11 : Float).
    Some (surface_of (coefficients_of (frame_of p q r w z00 z01 z10 z11)) x y)))))

-- of the grid z, from row i and column j
unfoldable pub in_square : (ℤ → ℤ → Spot) → ℤ → Float → ℤ → Float → Spot
in_square z i x j y = square_of (line_of (z (pred_ℤ i)) j) (line_of (z i) j) (line_of (z (suc_ℤ i)) j) (line_of (z (suc_ℤ (suc_ℤ i))) j) x y

-- ---- the squares that are tried

-- the first that is there
unfoldable pub or_spot : Spot → Spot → Spot
or_spot None b = b
or_spot (Some z) b = Some z

-- "At a whole number the square above is tried first, then the one below": f i x is the height at x between the lines i and i + 1, and the place is `part` past the line i
unfoldable pub tried_at : (ℤ → Float → Spot) → ℤ → Float → Spot
tried_at f i part = cond (eq part 0d) (or_spot (f i 0d) (f (pred_ℤ i) 1d)) (f i part)

abbrev pub floored : Float → Float
floored at = floor_of binary64 at

-- of the coordinate `at`: the line is its floor as a whole number (the Rust's `as i64`). A part of 0 is taken as +0, whatever its sign.
unfoldable pub tried : (ℤ → Float → Spot) → Float → Spot
tried f at = tried_at f (to_signed 63 (floored at)) (at ⊟ floored at)

-- "all columns are tried for the first row before the second"
unfoldable pub on_grid : (ℤ → ℤ → Spot) → Float → Float → Spot
on_grid z u v = tried (λ (i : ℤ) (x : Float). tried (λ (j : ℤ) (y : Float). in_square z i x j y) v) u

-- ---- the height

-- "Grid coordinates less than 1e-6 from a whole number snap to it": 1e-6 (0x3eb0c6f7a0b5ed8d)
unfoldable pub snap_of : Float → Float
snap_of at = let near = round_of binary64 at in cond (lt (abs_of (at ⊟ near)) (double 0x3eb0_c6f7_a0b5_ed8d)) near at

-- the longest of the first n runs whose starts are word a
unfoldable pub longest : ℕ → List ℕ → ℕ → ℕ
longest a rows zero = 0
longest a rows (suc k) = max (longest a rows k) (end_of 6 a rows k - start_of 6 a rows k)

-- how many heights the longest side of all rows has
unfoldable pub widest_of : List ℕ → ℕ
widest_of rows = max (longest 2 rows (row_count rows)) (longest 4 rows (row_count rows))

unfoldable pub within : Float → Float → Float → Bool
within lo x hi = le lo x && le x hi

-- the count n as a double
abbrev pub count : ℕ → Float
count n = of_int binary64 (pos n)

-- at the grid coordinates u and v
unfoldable pub coords_of : List ℕ → List Float → List Float → Float → Float → Spot
coords_of rows left right u v =
    cond (within 0d u (count (row_count rows - 1)))
    (cond (within (neg (count (widest_of rows))) v (count (widest_of rows))) (on_grid (value_of rows left right) u v) None)
    None

-- "Spacing NaN or at most 0, or no rows: none."
unfoldable pub height_of : ElevationGrid → List ℕ → List Float → List Float → Float → Float → Spot
height_of g rows left right s t =
    cond (is_nan g.spacing || le g.spacing 0d) None
    (cond (row_count rows == 0) None
    (coords_of rows left right (snap_of ((s ⊟ g.start) ⧄ g.spacing)) (snap_of (t ⧄ g.spacing))))

-- the place (x, y) along the reference line, and to its left
unfoldable pub locate_of : ElevationGrid → Float → Float → Station
locate_of g x y =
    let dx = x ⊟ g.origin_x in
    let dy = y ⊟ g.origin_y in
    record { s = dx ⊠ g.cos ⊞ dy ⊠ g.sin; t = dy ⊠ g.cos ⊟ dx ⊠ g.sin }

-- ---- the call: rows 0, left 1, right 2

-- "grid 1,024 rows, 1,024 a side": more records, a part one counted, then a left run, then a right run past it
unfoldable pub grid_long : List ℕ → Bool
grid_long rows = (longer 6 max_rows rows || any (run_long 6 2 rows max_side) (row_count rows)) || any (run_long 6 4 rows max_side) (row_count rows)

-- a part record, then a ragged left run of l heights, then a right one of r
unfoldable pub grid_ragged : List ℕ → ℕ → ℕ → Bool
grid_ragged rows l r = (uneven 6 rows || any (run_bad 6 2 rows l) (row_count rows)) || any (run_bad 6 4 rows r) (row_count rows)

-- the limits of rows and of a side are one number, 1,024, so every fault past a limit has that place, and every ragged one the list of rows
unfoldable pub grid_fault : List ℕ → ℕ → ℕ → Fault
grid_fault rows l r = refuse (grid_long rows) 1 max_rows (refuse (grid_ragged rows l r) 2 0 fine)

-- the fault, or what the height needs to know of lists without one
unfoldable pub grid_check : List ℕ → ℕ → ℕ → Result ℕ GridFault
grid_check rows l r = cond (grid_long rows) (Err Long) (cond (grid_ragged rows l r) (Err Ragged) (Ok (widest_of rows)))

-- `height` and `height_at`
unfoldable pub height_answer : ElevationGrid → List ℕ → List Float → List Float → Float → Float → Answer Spot
height_answer g rows left right s t = judge (grid_fault rows (length left) (length right)) (taken (height_of g rows left right s t))

unfoldable pub height_at_answer : ElevationGrid → List ℕ → List Float → List Float → Float → Float → Answer Spot
height_at_answer g rows left right x y = let at = locate_of g x y in height_answer g rows left right at.s at.t
