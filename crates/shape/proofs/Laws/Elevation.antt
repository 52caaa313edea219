-- A law about the coefficients of a square: a column of the turned matrix is a row of the matrix, so that none has to be turned. Assumes nothing.
use Rattle.std.specs.Prelude.{◌≡◌, ℕ, zero, suc, ◌+◌, ◌*◌, ◌<◌, List, get_or, Float}
use Rattle.std.proofs.Common.{refl, arith}
use Rattle.std.specs.Float.{nan}
use Rattle.shape.specs.Double.{◌⊞◌, ◌⊠◌}
use Rattle.shape.specs.Gather.{gather}
use Rattle.shape.specs.Elevation.{entry_of, transpose_of, bicubic}

-- the sum along row c of the standard's matrix, each of its numbers times that of row r of a
abbrev pub along_row : List Float → ℕ → ℕ → Float
along_row a r c =
    get_or a (4 * r) nan ⊠ get_or bicubic.m (4 * c) nan
    ⊞ get_or a (4 * r + 1) nan ⊠ get_or bicubic.m (4 * c + 1) nan
    ⊞ get_or a (4 * r + 2) nan ⊠ get_or bicubic.m (4 * c + 2) nan
    ⊞ get_or a (4 * r + 3) nan ⊠ get_or bicubic.m (4 * c + 3) nan

-- it is entry (r, c) of the product with the turned matrix, for any numbers, NaN and infinities included
pub by_row : (a : List Float) (r c : ℕ) → c < 4 → along_row a r c ≡ entry_of a (transpose_of bicubic).m r c
unfolding entry_of transpose_of bicubic gather
by_row a r zero h = refl
by_row a r (suc zero) h = refl
by_row a r (suc (suc zero)) h = refl
by_row a r (suc (suc (suc zero))) h = refl
by_row a r (suc (suc (suc (suc c)))) h = absurd (omega arith)
