-- What the steps of the height in a junction give each other: a pass over the rows, a row of the standard's matrix, a coordinate's
-- place, and the limits that sound lists keep.
-- Definitions only. Assumes nothing.
use Rattle.std.specs.Prelude.{◌≡◌, ℕ, ◌+◌, ◌-◌, ◌*◌, ◌^◌, ◌<◌, ◌≤◌, Bool, cond, ◌||◌, T, List, [], ◌∷◌, get_or, nat_lt, Float, Option, Some, None}
use Rattle.std.proofs.Math.IntN.{sub_ℕ}
use Rattle.std.specs.Float.{nan}
use Rattle.std.specs.Float.Ieee.{le, neg, to_signed}
use Rattle.shape.specs.declared.elevation.GridFault.{GridFault}
use Rattle.shape.specs.declared.elevation.GridFault.TheVariants.{Long, Ragged}
use Rattle.shape.specs.Double.{◌⊟◌, double}
use Rattle.shape.specs.Gather.{any}
use Rattle.shape.specs.Lists.{max_rows, max_side, run_bad, run_long}
use Rattle.shape.specs.declared.refusal.Refusal.{Refusal}
use Rattle.shape.specs.declared.refusal.Refusal.TheVariants.{Oversize}
use Rattle.shape.specs.declared.refusal.Refusal.TheVariants as told
use Rattle.shape.specs.Elevation.{row_count, widest_of, bicubic, floored}
use Rattle.shape.specs.declared.elevation.Run.{Run}
use Rattle.shape.specs.declared.elevation.Place.{Place}

-- whether a run is ragged, of a list of n, or past its limit
unfoldable pub odd_run : Run → ℕ → ℕ → Bool
odd_run a last n = ((nat_lt a.end a.start || nat_lt a.start last) || nat_lt n a.end) || nat_lt max_side (a.end - a.start)

-- whether a run of n rows is too long or ragged
unfoldable pub odd_runs : List ℕ → ℕ → ℕ → ℕ → Bool
odd_runs rows l r n =
    (any (run_long 6 2 rows max_side) n || any (run_long 6 4 rows max_side) n) || (any (run_bad 6 2 rows l) n || any (run_bad 6 4 rows r) n)

unfoldable pub pass_of : List ℕ → ℕ → ℕ → Option ℕ
pass_of rows l r = cond (odd_runs rows l r (row_count rows)) None (Some (widest_of rows))

-- the fault of rows that are not all in order
unfoldable pub fault_of : List ℕ → GridFault
fault_of rows = cond (any (run_long 6 2 rows max_side) (row_count rows) || any (run_long 6 4 rows max_side) (row_count rows)) Long Ragged

-- the refusal of a call in which the rows are the list given
unfoldable pub refusal_of : GridFault → ℕ → Refusal
refusal_of Long rows = Oversize max_rows
refusal_of Ragged rows = told.Ragged rows

-- row k of the standard's matrix
unfoldable pub table_row : ℕ → List Float
unfolding bicubic
table_row k =
    get_or bicubic.m (4 * k) nan
    ∷ get_or bicubic.m (4 * k + 1) nan
    ∷ get_or bicubic.m (4 * k + 2) nan
    ∷ get_or bicubic.m (4 * k + 3) nan ∷ []

-- what sound lists keep
pub record Limits (rows : List ℕ) (most : ℕ) : Type 0 where
  pub few : row_count rows ≤ max_rows
  pub narrow : most ≤ max_side
  pub widest : most ≡ widest_of rows

-- 1,024 (0x4090000000000000)
abbrev pub 1024d : Float
1024d = double 0x4090_0000_0000_0000

-- a coordinate of a grid within its limits
pub record Near (at : Float) : Type 0 where
  pub low : T (le (neg 1024d) at)
  pub high : T (le at 1024d)

-- the place p of a coordinate: the line at or below it, with 2,048 added, and how far past that it is
pub record Placed (at : Float) (p : Place) : Type 0 where
  pub line : sub_ℕ p.line 2048 ≡ to_signed 63 (floored at)
  pub part : p.part ≡ at ⊟ floored at
  pub low : 1 < p.line
  pub high : p.line < 2 ^ 30
