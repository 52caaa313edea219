-- `rounding::width::nearest_even` meets its contract. Assumes nothing.
use Rattle.std.proofs.Common.{◌≡◌, ℕ, suc, ◌+◌, ◌-◌, ◌*◌, ◌/◌, ◌%◌, ◌^◌, ◌≤◌, sym, ap, ◌∙◌, subst, one-mul, arith, lit<, pow_pos, shl_exact}
use native.Mathlib.Nat.{pow-succ'}
use lib.Bits.{and_mask}
use lib.Ieee.Nearest.{closest}
use Rattle.rounding.proofs.Pack.{even_up}
use Rattle.rounding.proofs.width.nearest_even.Goals as goal

weight : (s : ℕ) → s ≤ 63 → (1 * 2 ^ (s - 1)) % 2 ^ 64 ≡ 2 ^ (s - 1)
weight s h = shl_exact {a = 1} 1 (s - 1) 64 (lit< tt) (omega arith) ∙ one-mul (2 ^ (s - 1))

doubled : (i : ℕ) → 1 ≤ i → 2 ^ i ≡ 2 * 2 ^ (i - 1)
doubled i h = let e : i ≡ suc (i - 1) = omega arith in ap (λ (k : ℕ). 2 ^ k) e ∙ pow-succ' 2 (i - 1)

pub returns : goal.returns
returns c =
    let q = c.args.q in
    let u = 2 ^ (c.args.s - 1) in
    let e : 2 ^ c.args.s ≡ 2 * u = doubled c.args.s c.requires.s_least in
    rw (weight c.args.s c.requires.s_most, and_mask (q / 2 ^ c.args.s) 1) (subst (λ (x : ℕ). (q + (u - 1) + q / x % 2) / x ≡ closest q x) (sym e) (sym (even_up q u (pow_pos (c.args.s - 1)))))
