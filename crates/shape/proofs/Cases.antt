-- The cases of document 01 that are marked [P]: one list of tests over the definitions, and the one sentence that is of all grids, proved together. Assumes nothing.
use Rattle.std.specs.Prelude.{◌≡◌, ℕ, Bool, true, false, List, [], ◌∷◌, ◌++◌, length, Float, None}
use Rattle.shape.proofs.CaseTests.{all}
use Rattle.shape.specs.Refusal.{taken, judge}
use Rattle.shape.specs.Elevation.{row_count, grid_fault, height_answer}
use Rattle.shape.specs.declared.elevation.ElevationGrid.{ElevationGrid}
use Rattle.shape.proofs.CasesElevation.{height_cases, height_cases_lem, one_row}
use Rattle.shape.proofs.CasesEars.{ear_cases, ear_cases_lem}
use Rattle.shape.proofs.CasesJunction.{junction_cases, junction_cases_lem}
use Rattle.shape.proofs.CasesStrips.{strip_cases, strip_cases_lem}

-- "Height in a junction", "Junction triangles" (ears, then vertices), "Lane strips"
abbrev pub cases : List Bool
cases = height_cases ++ (ear_cases ++ (junction_cases ++ strip_cases))

-- "One row alone: always none": whatever the grid, the heights and the point, a call that its lists do not turn back gives none
abbrev pub OneRowAlone : Type 0
OneRowAlone =
    (rows : List ℕ) (left right : List Float) → row_count rows ≡ 1 → (g : ElevationGrid) (s t : Float)
    → height_answer g rows left right s t ≡ judge (grid_fault rows (length left) (length right)) (taken None)

all_both : (a b : List Bool) → all a ≡ true → all b ≡ true → all (a ++ b) ≡ true
unfolding all
all_both [] b e f = f
all_both (true ∷ xs) b e f = all_both xs b e f
all_both (false ∷ xs) b e f = e

pub cases_hold : (all cases ≡ true) × OneRowAlone
cases_hold = (
  all_both height_cases (ear_cases ++ (junction_cases ++ strip_cases)) height_cases_lem
      (all_both ear_cases (junction_cases ++ strip_cases) ear_cases_lem (all_both junction_cases strip_cases junction_cases_lem strip_cases_lem)),
  one_row,
)
