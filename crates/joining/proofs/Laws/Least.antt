-- The first number that a test holds of: it holds of none before, it holds of it, and it is there where the test holds of any. Assumes nothing.
use Rattle.std.specs.Prelude.{◌≡◌, ℕ, zero, suc, ◌<◌, Bool, true, false, cond, refl}
use Rattle.std.proofs.Common.{arith}
use Rattle.shape.specs.Gather.{least}

pub least_before : (f : ℕ → Bool) (n j : ℕ) → j < least f n → f j ≡ false
unfolding least
least_before f zero j h = absurd (omega arith)
least_before f (suc n) j h = go (least_before (λ k. f (suc k)) n) (f 0) refl j h
  where
    go : ((j : ℕ) → j < least (λ k. f (suc k)) n → f (suc j) ≡ false) → (b : Bool) → f 0 ≡ b
        → (j : ℕ) → j < cond b 0 (suc (least (λ k. f (suc k)) n)) → f j ≡ false
    go r true e j h = absurd (omega arith)
    go r false e zero h = e
    go r false e (suc j) h = r j (omega arith)

pub least_holds : (f : ℕ → Bool) (n : ℕ) → least f n < n → f (least f n) ≡ true
unfolding least
least_holds f zero h = absurd (omega arith)
least_holds f (suc n) h = go (least_holds (λ k. f (suc k)) n) (f 0) refl h
  where
    go : (least (λ k. f (suc k)) n < n → f (suc (least (λ k. f (suc k)) n)) ≡ true) → (b : Bool) → f 0 ≡ b
        → cond b 0 (suc (least (λ k. f (suc k)) n)) < suc n → f (cond b 0 (suc (least (λ k. f (suc k)) n))) ≡ true
    go r true e h = e
    go r false e h = r (omega arith)

pub least_below : (f : ℕ → Bool) (n k : ℕ) → k < n → f k ≡ true → least f n < n
unfolding least
least_below f zero k h e = absurd (omega arith)
least_below f (suc n) zero h e = rw e (omega arith)
least_below f (suc n) (suc k) h e = go (f 0) (least_below (λ j. f (suc j)) n k (omega arith) e)
  where
    go : (b : Bool) {l : ℕ} → l < n → cond b 0 (suc l) < suc n
    go true p = omega arith
    go false p = omega arith
