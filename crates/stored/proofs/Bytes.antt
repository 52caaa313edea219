-- A word of bytes is that of one of their arrays of four. Assumes nothing.
use Rattle.std.specs.Prelude.{◌≡◌, ℕ, zero, suc, ◌*◌, ◌/◌, ◌<◌, ◌≤◌, List, [], ◌∷◌, length, get_or}
use Rattle.std.specs.Simd.{first_chunks}
use Rattle.std.specs.Int.{from_le_bytes}
use Rattle.std.proofs.Common.{arith, w32}
use native.Mathlib.Numerals.{unary_clauses}
use Rattle.stored.specs.Words.{four_bytes}

word_is : (n i : ℕ) (bs : List ℕ) → i < n → n * 4 ≤ length bs → from_le_bytes w32 (get_or (first_chunks 4 n bs) i []) ≡ four_bytes bs (i * 4)
unfolding four_bytes
word_is zero i bs h l = absurd (omega arith)
word_is (suc n) i [] h l = absurd (omega arith)
word_is (suc n) i (a ∷ []) h l = absurd (omega arith)
word_is (suc n) i (a ∷ b ∷ []) h l = absurd (omega arith)
word_is (suc n) i (a ∷ b ∷ c ∷ []) h l = absurd (omega arith)
word_is (suc n) zero (a ∷ b ∷ c ∷ d ∷ bs) h l = omega arith
word_is (suc n) (suc i) (a ∷ b ∷ c ∷ d ∷ bs) h l =
    let e : suc i * 4 ≡ suc (suc (suc (suc (i * 4)))) = omega arith in
    rw e (simp unary_clauses (simp unary_clauses at (word_is n i bs (omega arith) (omega arith))))

pub word_four : (bs : List ℕ) (i : ℕ) → i < length bs / 4 → from_le_bytes w32 (get_or (first_chunks 4 (length bs / 4) bs) i []) ≡ four_bytes bs (i * 4)
word_four bs i h = word_is (length bs / 4) i bs h (omega arith)
