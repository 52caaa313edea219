-- `shape::elevation::terms` meets its contract. Assumes nothing.
use Rattle.std.proofs.Common.{◌≡◌, ℕ, zero, suc, ◌+◌, ◌-◌, ◌≤◌, arith}
use Rattle.std.specs.Prelude.{Float}
use Rattle.shape.specs.Double.{◌⊞◌}
use Rattle.shape.specs.Elevation.{power_of, sum_to, surface_of}
use Rattle.shape.proofs.elevation.terms.Invariants.{term}
use Rattle.shape.proofs.elevation.terms.Goals as goal

sum_next : (f : ℕ → Float) (n : ℕ) → 1 ≤ n → sum_to f (n + 1 - 1) ≡ sum_to f (n - 1) ⊞ f n
unfolding sum_to
sum_next f zero h = absurd (omega arith)
sum_next f (suc n) h =
    let a : suc n + 1 - 1 ≡ suc n = omega arith in
    let b : suc n - 1 ≡ n = omega arith in
    rw (a, b)

pub loop-n-preserved : goal.loop-n-preserved
unfolding power_of
loop-n-preserved c =
    let a = c.args in
    rw (sum_next (term a.p a.x a.y) c.loop-n.n c.loop-n.auto.n, ← c.loop-n.invariant)

pub returns : goal.returns
unfolding surface_of power_of
returns c =
    let last : c.loop-n.n - 1 ≡ 15 = omega (arith, c.loop-n.auto) in
    rw last at c.loop-n.invariant
