-- `isqrt` is the whole root. Assumes nothing.
use Rattle.std.proofs.Common.{subst, lt_of_lt_of_le, lt_of_not-le, not-le_of_lt, mul-le-mul, div-lt_iff_lt-mul, pow-suc, zero-lt-suc, arith, leb→le, lit≤}
use Rattle.std.specs.Prelude.{ℕ, zero, suc, ◌*◌, ◌/◌, ◌^◌, ◌<◌, ◌≤◌, Bool, true, false, cond, not, T, nat_le}
use Rattle.std.proofs.Math.Nat.{pow-le-pow_left}
use Rattle.std.proofs.Math.Dec.{nleb→lt}
use Rattle.std.specs.Float.Ieee.{size}
use Rattle.std.specs.Float.Ieee.Digits.{size-lt}
use Rattle.rounding.specs.Root.{root_in, isqrt}
use Rattle.rounding.specs.Steps.{Root}

pub sq_lt : (a b : ℕ) → a * a < b * b → a < b
sq_lt a b h = lt_of_not-le (λ (g : b ≤ a). not-le_of_lt h (mul-le-mul g g))

-- one more digit
digit : (n r : ℕ) → Root r (n / 4) → Root (cond (nat_le (suc (2 * r) * suc (2 * r)) n) (suc (2 * r)) (2 * r)) n
digit n r h = go (nat_le (suc (2 * r) * suc (2 * r)) n) (leb→le (suc (2 * r) * suc (2 * r)) n) (nleb→lt (suc (2 * r) * suc (2 * r)) n)
  where
    go : (b : Bool) → (T b → suc (2 * r) * suc (2 * r) ≤ n) → (T (not b) → n < suc (2 * r) * suc (2 * r)) → Root (cond b (suc (2 * r)) (2 * r)) n
    go true y k = record { under = y tt; over = omega arith }
    go false y k = record { under = omega arith; over = k tt }

root_in_root : (k n : ℕ) → n < 4 ^ k → Root (root_in k n) n
unfolding root_in
root_in_root zero n h = record { under = omega arith; over = omega arith }
root_in_root (suc k) n h = digit n (root_in k (n / 4)) (root_in_root k (n / 4) ((div-lt_iff_lt-mul (zero-lt-suc 3)).1 (subst (λ (x : ℕ). n < x) (pow-suc 4 k) h)))

pub isqrt_root : (n : ℕ) → Root (isqrt n) n
unfolding isqrt
isqrt_root n = root_in_root (size n) n (lt_of_lt_of_le (size-lt n) (pow-le-pow_left (lit≤ tt) (size n)))
