-- The whole part of a single from 1 to 1,024, from its bits: the digits of the fraction with the leading one, less those that are worth under 1. Assumes nothing.
use Rattle.std.proofs.Common.{◌≡◌, ℕ, zero, suc, ◌+◌, ◌-◌, ◌*◌, ◌/◌, ◌%◌, ◌^◌, ◌<◌, ◌≤◌, min, Bool, true, false, cond, not, T, eqb, leb, ℤ, pos, sym, refl, ap, ◌∙◌, subst, le_trans, le_refl, lt_of_lt_of_le, mod-lt, mod-eq_of_lt, mul_assoc, mul_comm, div-lt_iff_lt-mul, mul-le-mul, mul-lt-mul_of_pos_right, lt_of_not-le, le-div_iff_mul-le, arith, lit≤, ltb→lt, pow_pos, pow_mono, pow-add}
use lib.Dec.{nleb→lt}
use lib.Ieee.{Float, nan, inf, fin, binary32, up, down, odd, of_fields, of_bits, to_bits, fits, le, lt, to_unsigned}
use lib.Ieee.Bits.{of_bits-to_bits}
use lib.Ieee.Fits.{down_pos}
use lib.Ieee.Exact.{HasValue, odd_sign}
use lib.Ieee.Nearest.{div_same}
use Rattle.rounding.proofs.Laws.Order.{T_of, not-T-of, le_of_lt, le_of_not_lt, le_num_right, Le→le, lt_of_not_le as lt_of_failed}
use Rattle.rounding.proofs.Laws.Count.{to_unsigned_mono, cast_value, cast_minus}

-- ---- in numbers: D is the digits, x one less than the exponent's field

module _ (D x : ℕ) (few : D < 2 ^ 24) (some : 2 ^ 23 ≤ D) where
  low_e : x ≤ 125 → D * 2 ^ x / 2 ^ 149 < 1
  low_e h =
      let a : D * 2 ^ x < 2 ^ 24 * 2 ^ x = mul-lt-mul_of_pos_right few (pow_pos x) in
      let b : 2 ^ 24 * 2 ^ x ≤ 2 ^ 24 * 2 ^ 125 = mul-le-mul (le_refl (2 ^ 24)) (pow_mono h) in
      let d : 2 ^ 24 * 2 ^ 125 ≤ 1 * 2 ^ 149 = lit≤ tt in
      (div-lt_iff_lt-mul (pow_pos 149)).1 (lt_of_lt_of_le a (le_trans b d))

  high_e : 150 ≤ x → 1025 ≤ D * 2 ^ x / 2 ^ 149
  high_e h =
      let b : 2 ^ 150 ≤ 2 ^ x = pow_mono h in
      let d : 1025 * 2 ^ 149 ≤ 2 ^ 23 * 2 ^ 150 = lit≤ tt in
      (le-div_iff_mul-le (pow_pos 149)).1 (le_trans d (mul-le-mul some b))

  cut_e : suc x ≤ 150 → D * 2 ^ x / 2 ^ 149 ≡ D / 2 ^ (150 - suc x)
  cut_e h =
      let i : 150 - suc x + x ≡ 149 = omega arith in
      let p : 2 ^ (150 - suc x) * 2 ^ x ≡ 2 ^ 149 = sym (pow-add 2 (150 - suc x) x) ∙ ap (λ (k : ℕ). 2 ^ k) i in
      div_same (D * 2 ^ x) (2 ^ 149) D (2 ^ (150 - suc x)) (pow_pos 149) (pow_pos (150 - suc x))
      (mul_assoc D (2 ^ x) (2 ^ (150 - suc x)) ∙ ap (λ (k : ℕ). D * k) (mul_comm (2 ^ x) (2 ^ (150 - suc x)) ∙ p))

-- ---- of a pattern's fields

pub record Read (s : Bool) (x t u : ℕ) : Type 0 where
  pub plus : s ≡ false
  pub least : 127 ≤ x
  pub most : x ≤ 150
  pub is : u ≡ (t + 8388608) / 2 ^ (150 - x)

contrary : {u v : ℕ} → 1 ≤ u → u ≡ v → v < 1 → ⊥
contrary a b c = omega arith

beyond : {u v : ℕ} → u ≤ 1024 → u ≡ v → 1025 ≤ v → ⊥
beyond a b c = omega arith

uncut : (u v : ℕ) → u ≡ min v (2 ^ 64 - 1) → u ≤ 1024 → u ≡ v
uncut u v e h = omega arith

-- a number that is a / 2 ^ 149, of the sign s
of_value : (v : Float) (s : Bool) (a : ℕ) → HasValue v s a (2 ^ 149) → 1 ≤ to_unsigned 64 v → to_unsigned 64 v ≤ 1024 → (s ≡ false) × (to_unsigned 64 v ≡ a / 2 ^ 149)
of_value v true a h l u = absurd (let z : to_unsigned 64 v ≡ 0 = cast_minus 64 v a (2 ^ 149) h in omega arith)
of_value v false a h l u = (refl, uncut (to_unsigned 64 v) (a / 2 ^ 149) (cast_value 64 v a (2 ^ 149) (pow_pos 149) h) u)

some_fields : (s : Bool) (x t : ℕ) → t < 8388608 → 1 ≤ to_unsigned 64 (odd 24 s (8388608 + t) x 149) → to_unsigned 64 (odd 24 s (8388608 + t) x 149) ≤ 1024
    → Read s (suc x) t (to_unsigned 64 (odd 24 s (8388608 + t) x 149))
some_fields s x t h l u =
    let v = odd 24 s (8388608 + t) x 149 in
    let D : ℕ = 8388608 + t in
    let r = of_value v s (D * 2 ^ x) (odd_sign 24 s D x 149) l u in
    let few : D < 2 ^ 24 = omega arith in
    let some : 2 ^ 23 ≤ D = omega arith in
    let lo : 125 < x = lt_of_not-le (λ (w : x ≤ 125). contrary l r.1 (low_e D x few some w)) in
    let hi : x < 150 = lt_of_not-le (λ (w : 150 ≤ x). beyond u r.1 (high_e D x few some w)) in
    let end : suc x ≤ 150 = omega arith in
    record { plus = r.0; least = omega arith; most = end; is = r.1 ∙ cut_e D x few some end ∙ ap (λ (k : ℕ). k / 2 ^ (150 - suc x)) (let z : D ≡ t + 8388608 = omega arith in z) }

-- neither an infinity nor a NaN has such a whole part
never : (s : Bool) → 1 ≤ to_unsigned 64 (inf s) → to_unsigned 64 (inf s) ≤ 1024 → ⊥
unfolding to_unsigned
never true l u = omega arith
never false l u = omega arith

nothing : 1 ≤ to_unsigned 64 nan → ⊥
unfolding to_unsigned
nothing l = omega arith

fields : (s : Bool) (x t : ℕ) → t < 8388608 → 1 ≤ to_unsigned 64 (of_fields binary32 s x t) → to_unsigned 64 (of_fields binary32 s x t) ≤ 1024
    → Read s x t (to_unsigned 64 (of_fields binary32 s x t))
unfolding of_fields
fields s zero t h l u =
    let r = of_value (odd 24 s t 0 149) s (t * 2 ^ 0) (odd_sign 24 s t 0 149) l u in
    let d : 8388608 * 2 ^ 0 ≤ 1 * 2 ^ 149 = lit≤ tt in
    absurd (contrary l r.1 ((div-lt_iff_lt-mul (pow_pos 149)).1 (lt_of_lt_of_le (mul-lt-mul_of_pos_right h (pow_pos 0)) d)))
fields s (suc x) t h l u = go (eqb (suc x) 255) (eqb t 0) l u
  where
    go : (a b : Bool) → let v = cond a (cond b (inf s) nan) (odd 24 s (8388608 + t) x 149) in 1 ≤ to_unsigned 64 v → to_unsigned 64 v ≤ 1024 → Read s (suc x) t (to_unsigned 64 v)
    go true true l u = absurd (never s l u)
    go true false l u = absurd (nothing l)
    go false b l u = some_fields s x t h l u

-- ---- of a pattern, and of a single

abbrev one : Float
one = fin false 1 (pos 0)

abbrev most_cells : Float
most_cells = fin false 1 (pos 10)

pub record Whole (x : Float) (b : ℕ) : Type 0 where
  pub least : 127 ≤ b / 8388608
  pub most : b / 8388608 ≤ 150
  pub is : to_unsigned 64 x ≡ (b % 8388608 + 8388608) / 2 ^ (150 - b / 8388608)

of_pattern : (b : ℕ) → 1 ≤ to_unsigned 64 (of_bits binary32 b) → to_unsigned 64 (of_bits binary32 b) ≤ 1024 → Whole (of_bits binary32 b) b
unfolding of_bits
of_pattern b l u =
    let r = fields (leb 2147483648 b) (b % 2147483648 / 8388608) (b % 8388608) (mod-lt b (omega arith)) l u in
    let h : b < 2147483648 = nleb→lt 2147483648 b (subst (λ (x : Bool). T (not x)) (sym r.plus) tt) in
    let e : b % 2147483648 / 8388608 ≡ b / 8388608 = ap (λ (k : ℕ). k / 8388608) (mod-eq_of_lt h) in
    record { least = omega (arith, r.least); most = omega (arith, r.most); is = r.is ∙ ap (λ (k : ℕ). (b % 8388608 + 8388608) / 2 ^ (150 - k)) e }

one_is : to_unsigned 64 one ≡ 1
unfolding to_unsigned
one_is = refl

most_is : to_unsigned 64 most_cells ≡ 1024
unfolding to_unsigned
most_is = refl

pub whole : (x : Float) → T (fits binary32 x) → le one x ≡ true → lt x most_cells ≡ true → Whole x (to_bits binary32 x)
whole x f l u =
    let b = to_bits binary32 x in
    let e = of_bits-to_bits binary32 x f in
    let p = to_unsigned_mono 64 one x (T_of l) in
    let q = to_unsigned_mono 64 x most_cells (le_of_lt x most_cells (T_of u)) in
    subst (λ (y : Float). Whole y b) e
    (of_pattern b (subst (λ (y : Float). 1 ≤ to_unsigned 64 y) (sym e) (omega (arith, one_is, p))) (subst (λ (y : Float). to_unsigned 64 y ≤ 1024) (sym e) (omega (arith, most_is, q))))

-- from 1,024 on
pub past_most : (x : Float) → le one x ≡ true → lt x most_cells ≡ false → 1024 ≤ to_unsigned 64 x
past_most x l u = omega (arith, most_is, to_unsigned_mono 64 most_cells x (le_of_not_lt x most_cells (le_num_right one x (T_of l)) tt u))

-- below 1, and a NaN
below_one : (m : ℕ) (e : ℤ) → T (lt (fin false m e) one) → to_unsigned 64 (fin false m e) ≡ 0
unfolding to_unsigned lt
below_one m e h =
    let l : m * up e * 1 < 1 * down e = ltb→lt (m * up e * 1) (1 * down e) h in
    let z : m * up e / down e < 1 = (div-lt_iff_lt-mul (down_pos e)).1 (omega arith) in
    omega arith

pub under_one : (x : Float) → le one x ≡ false → to_unsigned 64 x ≡ 0
unfolding to_unsigned
under_one nan h = refl
under_one (inf true) h = refl
under_one (inf false) h = absurd (not-T-of h (Le→le one (inf false) tt))
under_one (fin true m e) h = refl
under_one (fin false m e) h = below_one m e (lt_of_failed one (fin false m e) tt tt h)
