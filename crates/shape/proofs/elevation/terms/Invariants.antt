-- `shape::elevation::terms` meets its contract: the terms 0 to n - 1 are added. Assumes nothing.
use Rattle.std.proofs.Common.{◌≡◌, ℕ, ◌-◌, ◌/◌, get_or}
use Rattle.std.specs.Prelude.{◌%◌, Float}
use Rattle.std.specs.Float.{nan}
use Rattle.shape.specs.Double.{◌⊠◌}
use Rattle.shape.specs.Elevation.{power_of, sum_to}
use Rattle.shape.specs.declared.elevation.Patch.{Patch}
use Rattle.shape.proofs.elevation.terms.Given as goal

-- term n of the height at (x, y)
abbrev pub term : Patch → Float → Float → ℕ → Float
term p x y n = power_of x (n / 4) ⊠ get_or p.m n nan ⊠ power_of y (n % 4)

abbrev pub invariant-loop-n : goal.invariant-loop-n
invariant-loop-n l = l.sum ≡ sum_to (term l.p l.x l.y) (l.n - 1)
