-- The root of a number by the fields of its bit pattern, with the format as a parameter. Assumes nothing.
use Rattle.std.proofs.Common.{◌≡◌, ℕ, zero, suc, ◌+◌, ◌-◌, ◌*◌, ◌/◌, ◌%◌, ◌^◌, ◌<◌, ◌≤◌, Bool, true, false, cond, not, T, eqb, ltb, leb, ◌≢◌, pos, sym, refl, ap, ◌∙◌, subst, le_trans, le_of_eq, lt_of_lt_of_le, le-add_right, lt_of_le_of_lt, le_of_lt, lt_irrefl, mul-le-mul_right, mod-eq_of_lt, zero-lt-suc, mul_comm, div-lt_iff_lt-mul, mul-pos, one-mul, div-add-mod', mul_right_comm, arith, lit<, le→leb, eqb→eq, ltb→lt, nltb→le, pow_pos, shl_exact}
use native.Mathlib.Nat.{mod-mod_of_dvd, dvd-mul_right, eq_of_mul-eq-mul_right, zero-div, zero-mod}
use lib.Dec.{not_T}
use lib.Arith.{lt→nleb, le→nltb}
use lib.Bits.{bit_and, and_mask}
use lib.Count.{count_trailing_zeros}
use lib.Ieee.{Float, nan, inf, fin, Format, binary32, binary64, prec, low, up, down, minus, odd, round, hid, ones, top, of_fields, of_bits, to_bits, fits, is_nan, nan_bits, ne}
use lib.Ieee.Digits.{odd_val}
use lib.Ieee.Fits.{eq→eqb, down_pos}
use lib.Ieee.Bits.{is_true, is_false, cond_no, of_bits-to_bits, nan_bits_is, nan_bits_above}
use lib.Ieee.Nearest.{div_same}
use lib.Ieee.Positive.{first_pos}
use lib.Ieee.Compare.{differs_from_itself}
use Rattle.rounding.specs.Root.{isqrt, root_of, sqrt_of}
use Rattle.rounding.proofs.Laws.Basics.{same_test}
use Rattle.rounding.proofs.Laws.RootNearest.{over, root_of_is, sqrt_fin}

-- ---- equal fractions have the same root

-- a / b is c / d, so n is a / b where it is c / d
moves : (n a b c d : ℕ) → 0 < b → a * d ≡ c * b → n * b ≡ a → n * d ≡ c
moves n a b c d B e h = eq_of_mul-eq-mul_right b B (n * d) c (mul_right_comm n d b ∙ ap (λ (x : ℕ). x * d) h ∙ e)

root_of_same : (f : Format) (a b c d : ℕ) → 0 < b → 0 < d → a * d ≡ c * b → root_of f a b ≡ root_of f c d
root_of_same f a b c d B D e =
    let S = 4 ^ suc (low f) in
    let e2 : a * S * d ≡ c * S * b = mul_right_comm a S d ∙ ap (λ (x : ℕ). x * S) e ∙ mul_right_comm c b S in
    let i : a * S / b ≡ c * S / d = div_same (a * S) b (c * S) d B D e2 in
    let r = isqrt (c * S / d) in
    let t : eqb (r * r * b) (a * S) ≡ eqb (r * r * d) (c * S) =
    same_test (eqb (r * r * b) (a * S)) (eqb (r * r * d) (c * S))
    (λ x. eq→eqb (moves (r * r) (a * S) b (c * S) d B e2 (eqb→eq (r * r * b) (a * S) x)))
    (λ x. eq→eqb (moves (r * r) (c * S) d (a * S) b D (sym e2) (eqb→eq (r * r * d) (c * S) x))) in
    root_of_is f a b
    ∙ ap (λ (y : ℕ). round f false (2 * isqrt y + over (eqb (isqrt y * isqrt y * b) (a * S))) (2 * 2 ^ suc (low f))) i
    ∙ ap (λ (y : Bool). round f false (2 * r + over y) (2 * 2 ^ suc (low f))) t
    ∙ sym (root_of_is f c d)

-- ---- a number that is written with an odd m

-- what `odd` keeps of q is above zero
odd_some : (d : ℕ) (s : Bool) (q k l : ℕ) → 0 < suc q / 2 ^ count_trailing_zeros d (suc q)
odd_some d s q k l =
    let t = count_trailing_zeros d (suc q) in
    let m = suc q / 2 ^ t in
    let e = minus (k + t) l in
    let v : m * up e * 2 ^ l ≡ suc q * 2 ^ k * down e = unfold odd in odd_val d s (suc q) k l in
    first_pos m (up e) (first_pos (m * up e) (2 ^ l) (subst (λ (x : ℕ). 0 < x) (sym v) (mul-pos (mul-pos (zero-lt-suc q) (pow_pos k)) (down_pos e))))

sqrt_odd : (f : Format) (d q k : ℕ) → 0 < q → sqrt_of f (odd d false q k (low f)) ≡ root_of f (q * 2 ^ k) (2 ^ low f)
unfolding odd
sqrt_odd f d zero k h = absurd (lt_irrefl 0 h)
sqrt_odd f d (suc q) k h =
    let t = count_trailing_zeros d (suc q) in
    let m = suc q / 2 ^ t in
    let e = minus (k + t) (low f) in
    sqrt_fin f false m e (odd_some d false q k (low f)) ∙ root_of_same f (m * up e) (down e) (suc q * 2 ^ k) (2 ^ low f) (down_pos e) (pow_pos (low f)) (odd_val d false (suc q) k (low f))

sqrt_odd_neg : (f : Format) (d q k l : ℕ) → 0 < q → sqrt_of f (odd d true q k l) ≡ nan
unfolding odd
sqrt_odd_neg f d zero k l h = absurd (lt_irrefl 0 h)
sqrt_odd_neg f d (suc q) k l h = sqrt_fin f true (suc q / 2 ^ count_trailing_zeros d (suc q)) (minus (k + count_trailing_zeros d (suc q)) l) (odd_some d true q k l)

-- ---- the fields of a pattern

pub of_bits_is : (f : Format) (b : ℕ) → of_bits f b ≡ of_fields f (leb (top f) b) (b % top f / hid f) (b % hid f)
unfolding of_bits
of_bits_is f b = refl

-- of a number that is not negative
pub of_bits_pos : (f : Format) (b : ℕ) → b < top f → of_bits f b ≡ of_fields f false (b / hid f) (b % hid f)
of_bits_pos f b h =
    of_bits_is f b
    ∙ ap (λ (s : Bool). of_fields f s (b % top f / hid f) (b % hid f)) (is_false (leb (top f) b) (lt→nleb (top f) b h))
    ∙ ap (λ (x : ℕ). of_fields f false (x / hid f) (b % hid f)) (mod-eq_of_lt h)

pub under_top : (f : Format) (b : ℕ) → b < ones f * hid f → b < top f
under_top f b h = lt_of_lt_of_le h (le_trans (mul-le-mul_right (hid f) (le_suc (ones f))) (le_of_eq (mul_comm (suc (ones f)) (hid f))))
  where
    le_suc : (x : ℕ) → x ≤ suc x
    le_suc x = omega arith

field_zero : (f : Format) (t : ℕ) (x : ℕ) → x ≡ 0 → of_fields f false x t ≡ odd (prec f) false t 0 (low f)
unfolding of_fields
field_zero f t zero e = refl
field_zero f t (suc x) e = absurd (omega arith)

pub field_some : (f : Format) (s : Bool) (t x : ℕ) → 0 < x → x < ones f → of_fields f s x t ≡ odd (prec f) s (hid f + t) (x - 1) (low f)
unfolding of_fields
field_some f s t zero h k = absurd (lt_irrefl 0 h)
field_some f s t (suc x) h k =
    let e : suc x - 1 ≡ x = omega arith in
    cond_no (eqb (suc x) (ones f)) (cond (eqb t 0) (inf s) nan) (odd (prec f) s (hid f + t) x (low f))
    (not_T (eqb (suc x) (ones f)) (λ u. lt_irrefl (ones f) (subst (λ (y : ℕ). y < ones f) (eqb→eq (suc x) (ones f) u) k)))
    ∙ ap (λ (y : ℕ). odd (prec f) s (hid f + t) y (low f)) (sym e)

pub sqrt_low : (f : Format) (b : ℕ) → 0 < b → b < ones f * hid f → b / hid f ≡ 0 → sqrt_of f (of_bits f b) ≡ root_of f (b % hid f * 2 ^ 0) (2 ^ low f)
sqrt_low f b p h z =
    let d = div-add-mod' b (hid f) in
    let a = ap (λ (x : ℕ). x * hid f) z in
    let q : 0 < b % hid f = omega arith in
    ap (sqrt_of f) (of_bits_pos f b (under_top f b h) ∙ field_zero f (b % hid f) (b / hid f) z) ∙ sqrt_odd f (prec f) (b % hid f) 0 q

pub field_lt : (f : Format) (b : ℕ) → b < ones f * hid f → b / hid f < ones f
field_lt f b h = (div-lt_iff_lt-mul (pow_pos (prec f - 1))).1 h

pub sqrt_mid : (f : Format) (b : ℕ) → b < ones f * hid f → 0 < b / hid f → sqrt_of f (of_bits f b) ≡ root_of f ((hid f + b % hid f) * 2 ^ (b / hid f - 1)) (2 ^ low f)
sqrt_mid f b h p =
    ap (sqrt_of f) (of_bits_pos f b (under_top f b h) ∙ field_some f false (b % hid f) (b / hid f) p (field_lt f b h))
    ∙ sqrt_odd f (prec f) (hid f + b % hid f) (b / hid f - 1) (lt_of_lt_of_le (pow_pos (prec f - 1)) (le-add_right (hid f) (b % hid f)))

-- ---- what the code works out of a pattern: the leading digit's weight, and the digits below it

pub lead_is : (p : ℕ) → p ≤ 53 → 2 ≤ p → (1 * 2 ^ (p - 1)) % 2 ^ 64 ≡ 2 ^ (p - 1)
lead_is p h k = shl_exact {a = 1} 1 (p - 1) 64 (lit< tt) (omega arith) ∙ one-mul (2 ^ (p - 1))

pub digits_is : (p b : ℕ) → p ≤ 53 → 2 ≤ p → bit_and b ((1 * 2 ^ (p - 1)) % 2 ^ 64 - 1) ≡ b % 2 ^ (p - 1)
digits_is p b h k = ap (λ (x : ℕ). bit_and b (x - 1)) (lead_is p h k) ∙ and_mask b (p - 1)

-- ---- the numbers with no root to work out

-- a number that is no NaN equals itself
pub no_nan : (x : Float) → ne x x ≡ false → T (not (is_nan x))
unfolding ne is_nan
no_nan nan e = subst T e tt
no_nan (inf s) e = tt
no_nan (fin s m e') e = tt

pub nan_root : (f : Format) (x : Float) → ne x x ≡ true → x ≡ sqrt_of f x
unfolding sqrt_of
nan_root f x e = let n : x ≡ nan = differs_from_itself x (subst T (sym e) tt) in subst (λ (y : Float). y ≡ sqrt_of f y) (sym n) refl

odd_zero : (d : ℕ) (s : Bool) (k l t : ℕ) → t ≡ 0 → odd d s t k l ≡ fin s 0 (pos 0)
unfolding odd
odd_zero d s k l zero e = refl
odd_zero d s k l (suc t) e = absurd (omega arith)

sqrt_zero : (f : Format) (s : Bool) (x t : ℕ) → x ≡ 0 → t ≡ 0 → of_fields f s x t ≡ sqrt_of f (of_fields f s x t)
unfolding of_fields sqrt_of
sqrt_zero f s zero t e z = let k = odd_zero (prec f) s 0 (low f) t z in rw k refl
sqrt_zero f s (suc x) t e z = absurd (omega arith)

-- the pattern without its sign
pub low_part : (f : Format) (b : ℕ) → b % top f % hid f ≡ b % hid f
low_part f b = mod-mod_of_dvd (hid f) b (dvd-mul_right (hid f) (suc (ones f)))

pub zero_root : (f : Format) (x : Float) → T (fits f x) → to_bits f x % top f ≡ 0 → x ≡ sqrt_of f x
zero_root f x t z =
    let b = to_bits f x in
    let i : x ≡ of_fields f (leb (top f) b) (b % top f / hid f) (b % hid f) = sym (of_bits-to_bits f x t) ∙ of_bits_is f b in
    rw i (sqrt_zero f (leb (top f) b) (b % top f / hid f) (b % hid f) (ap (λ (y : ℕ). y / hid f) z ∙ zero-div (hid f)) (sym (low_part f b) ∙ ap (λ (y : ℕ). y % hid f) z ∙ zero-mod (hid f)))

inf_bits : (f : Format) → of_bits f (ones f * hid f) ≡ inf false
unfolding of_bits
inf_bits binary32 = refl
inf_bits binary64 = refl

pub inf_root : (f : Format) (x : Float) → T (fits f x) → to_bits f x ≡ ones f * hid f → x ≡ sqrt_of f x
unfolding sqrt_of
inf_root f x t e =
    let i : x ≡ inf false = sym (of_bits-to_bits f x t) ∙ ap (of_bits f) e ∙ inf_bits f in
    rw i refl

-- ---- below zero

sqrt_neg : (f : Format) (x t : ℕ) → (x ≡ 0 → 0 < t) → sqrt_of f (of_fields f true x t) ≡ nan
unfolding of_fields sqrt_of
sqrt_neg f zero t h = sqrt_odd_neg f (prec f) t 0 (low f) (h refl)
sqrt_neg f (suc x) t h = go (eqb (suc x) (ones f)) (eqb t 0)
  where
    go : (a b : Bool) → sqrt_of f (cond a (cond b (inf true) nan) (odd (prec f) true (hid f + t) x (low f))) ≡ nan
    go true true = refl
    go true false = refl
    go false b = sqrt_odd_neg f (prec f) (hid f + t) x (low f) (lt_of_lt_of_le (pow_pos (prec f - 1)) (le-add_right (hid f) t))

pub neg_root : (f : Format) (x : Float) → T (fits f x) → T (not (is_nan x)) → ones f * hid f < to_bits f x → (to_bits f x % top f ≡ 0 → ⊥) → sqrt_of f x ≡ nan
neg_root f x t n l z =
    let b = to_bits f x in
    let i : x ≡ of_bits f b = sym (of_bits-to_bits f x t) in
    let m : T (not (ltb (ones f * hid f) (b % top f))) = subst (λ (y : Bool). T (not y)) (ap is_nan i ∙ sym (nan_bits_is f b) ∙ nan_bits_above f b) n in
    let s : b % top f ≤ ones f * hid f = nltb→le (ones f * hid f) (b % top f) m in
    let g : top f ≤ b = nltb→le b (top f) (not_T (ltb b (top f)) (λ u. lt_irrefl b (lt_of_le_of_lt (le_trans (le_of_eq (sym (mod-eq_of_lt (ltb→lt b (top f) u)))) s) l))) in
    let d = div-add-mod' (b % top f) (hid f) in
    let j : of_bits f b ≡ of_fields f true (b % top f / hid f) (b % hid f) =
    of_bits_is f b ∙ ap (λ (y : Bool). of_fields f y (b % top f / hid f) (b % hid f)) (is_true (leb (top f) b) (le→leb (top f) b g)) in
    ap (sqrt_of f) (i ∙ j)
    ∙ sqrt_neg f (b % top f / hid f) (b % hid f)
    (λ e. let k = ap (λ (y : ℕ). y * hid f) e in let q = low_part f b in let w : b % top f ≢ 0 = z in omega arith)

-- ---- the result's bits

pub result_no_nan : (f : Format) (r : ℕ) → r < ones f * hid f → T (not (nan_bits f r))
result_no_nan f r h =
    subst (λ (y : Bool). T (not y)) (sym (nan_bits_above f r))
    (le→nltb (ones f * hid f) (r % top f) (le_trans (le_of_eq (mod-eq_of_lt (under_top f r h))) (le_of_lt h)))
