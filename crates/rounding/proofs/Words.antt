-- Words and the floats that they stand for, with the format as a parameter. Assumes nothing.
use Rattle.std.proofs.Common.{◌≡◌, ℕ, zero, suc, ◌+◌, ◌-◌, ◌*◌, ◌/◌, ◌%◌, ◌^◌, ◌<◌, ◌≤◌, Bool, true, false, cond, T, ltb, leb, pos, sym, refl, ap, ◌∙◌, subst, mod-lt, div-lt_iff_lt-mul, div-add-mod', arith, lit<, lit≤, ltb→lt, lt→ltb, nltb→le, shl_exact, le-leb}
use native.Mathlib.Nat.{div-eq_of_lt}
use borrow.Author.Tests.{lt-leb}
use lib.Dec.{not_T}
use lib.Bits.{bit_and, and_mask, and_high}
use lib.Ieee.{Float, nan, inf, fin, Format, binary32, binary64, hid, ones, top, of_bits, to_bits, fits, is_nan, eq}
use lib.Ieee.Bits.{to_bits-lt, nan_bits_is, nan_bits_above}
use Rattle.rounding.specs.Stored.{stored_of}

nan_only : (x : Float) → T (is_nan x) → nan ≡ x
unfolding is_nan
nan_only nan t = refl
nan_only (inf s) t = absurd t
nan_only (fin s m e) t = absurd t

-- a pattern above the infinity's, but for the sign, is a NaN's
pub nan_word : (f : Format) (b : ℕ) → ones f * hid f < b % top f → nan ≡ of_bits f b
nan_word f b h =
    nan_only (of_bits f b) (subst (λ (y : Bool). T y) (sym (nan_bits_above f b) ∙ nan_bits_is f b) (lt→ltb (ones f * hid f) (b % top f) h))

-- the mask of all bits but the sign leaves the pattern without it
pub masked : (f : Format) (x : Float) → bit_and (to_bits f x) (top f - 1) ≡ to_bits f x % top f
masked binary32 x = and_mask (to_bits binary32 x) 31
masked binary64 x = and_mask (to_bits binary64 x) 63

-- ---- the sign, shifted out of the pattern

sign_low : (f : Format) (b : ℕ) → b / top f ≡ 0 → b % top f ≡ b
sign_low f b z = let d = div-add-mod' b (top f) in let e = ap (λ (x : ℕ). x * top f) z in omega arith

pub top_pos : (f : Format) → 0 < top f
top_pos binary32 = lit< tt
top_pos binary64 = lit< tt

plus_sign : (f : Format) (b : ℕ) → b / top f ≡ 0 → leb (top f) b ≡ false
plus_sign f b z = lt-leb (top f) b (let e = sign_low f b z in let m = mod-lt b (top_pos f) in omega arith)

minus_sign : (f : Format) (b : ℕ) → (b / top f ≡ 0 → ⊥) → leb (top f) b ≡ true
minus_sign f b n = le-leb (top f) b (nltb→le b (top f) (not_T (ltb b (top f)) (λ u. n (div-eq_of_lt (ltb→lt b (top f) u)))))

-- the sign in the place of P
two_signs : (P q : ℕ) (s : Bool) → (q ≡ 0 → s ≡ false) → ((q ≡ 0 → ⊥) → s ≡ true) → q < 2 → q * P ≡ cond s P 0
two_signs P zero s y n l = rw (y refl) (omega arith)
two_signs P (suc zero) s y n l = rw (n (λ z. omega arith)) (omega arith)
two_signs P (suc (suc q)) s y n l = absurd (omega arith)

sign_at : (f : Format) (x : Float) (P : ℕ) → T (fits f x) → to_bits f x / top f * P ≡ cond (leb (top f) (to_bits f x)) P 0
sign_at f x P t = two_signs P (to_bits f x / top f) (leb (top f) (to_bits f x)) (plus_sign f (to_bits f x)) (minus_sign f (to_bits f x)) ((div-lt_iff_lt-mul (top_pos f)).1 (to_bits-lt f x t))

-- masked
pub sign_bit : (f : Format) (x : Float) → T (fits f x) → bit_and (to_bits f x) (top f) ≡ cond (leb (top f) (to_bits f x)) (top f) 0
sign_bit f x t = high f (to_bits f x) (to_bits-lt f x t) ∙ sign_at f x (top f) t
  where
    high : (f : Format) (b : ℕ) → b < 2 * top f → bit_and b (top f) ≡ b / top f * top f
    high binary32 b l = and_high b 1 31 ∙ omega arith
    high binary64 b l = and_high b 1 63 ∙ omega arith

-- shifted to the place that it has in the other width
pub sign_thin : (x : Float) → T (fits binary64 x) → to_bits binary64 x / 2 ^ 63 * 2 ^ 31 % 2 ^ 64 ≡ cond (leb (top binary64) (to_bits binary64 x)) (top binary32) 0
sign_thin x t = let l = to_bits-lt binary64 x t in let h : to_bits binary64 x / 2 ^ 63 < 2 ^ 1 = omega arith in shl_exact 1 31 64 h (lit≤ tt) ∙ sign_at binary64 x (2 ^ 31) t

pub sign_wide : (x : Float) → T (fits binary32 x) → to_bits binary32 x / 2 ^ 31 * 2 ^ 63 % 2 ^ 64 ≡ cond (leb (top binary32) (to_bits binary32 x)) (top binary64) 0
sign_wide x t = let l = to_bits-lt binary32 x t in let h : to_bits binary32 x / 2 ^ 31 < 2 ^ 1 = omega arith in shl_exact 1 63 64 h (lit≤ tt) ∙ sign_at binary32 x (2 ^ 63) t

pub sign_le : (f : Format) (s : Bool) → cond s (top f) 0 ≤ top f
sign_le f true = omega arith
sign_le f false = omega arith

pub inf_signed : (f : Format) (s : Bool) → of_bits f (cond s (top f) 0 + ones f * hid f) ≡ inf s
unfolding of_bits
inf_signed binary32 true = refl
inf_signed binary32 false = refl
inf_signed binary64 true = refl
inf_signed binary64 false = refl

-- ---- as the index stores a single

pub stored_zero : (x : Float) → eq x (fin false 0 (pos 0)) ≡ true → 0 ≡ stored_of x
unfolding stored_of
stored_zero x e = rw e

pub stored_other : (x : Float) → eq x (fin false 0 (pos 0)) ≡ false → to_bits binary32 x ≡ stored_of x
unfolding stored_of
stored_other x e = rw e
