-- A single to the double that equals it, by the bits: what each way out of the code gives. Assumes nothing.
use Rattle.std.proofs.Common.{◌≡◌, ℕ, suc, ◌+◌, ◌-◌, ◌*◌, ◌/◌, ◌^◌, ◌<◌, ◌≤◌, Bool, true, false, cond, not, T, leb, ◌⊎◌, sym, refl, ap, ◌∙◌, subst, ap₂, inl, inr, le_trans, le_of_eq, lt_of_lt_of_le, lt_of_le_of_lt, le_of_lt, mul-le-mul_right, mul_assoc, mul-lt-mul_of_pos_right, lt_of_not-le, div-add-mod', zero-add, mul_right_comm, not-le_of_lt, arith, lit<, leb→le, pow_pos, pow_mono, pow-add}
use native.Mathlib.Nat.{eq_of_mul-eq-mul_right}
use lib.Dec.{nleb→lt}
use lib.Count.{count_leading_zeros, leading_top}
use lib.Arith.{digits_div}
use lib.Ieee.{Float, nan, inf, fin, Format, binary32, binary64, up, down, prec, low, hid, ones, top, of_bits, to_bits, fits}
use lib.Ieee.Exact.{HasValue, odd_sign}
use lib.Ieee.Bits.{of_bits-to_bits}
use lib.Ieee.Fits.{fits_widens, two}
use Rattle.rounding.specs.Steps.{Widens, size_of}
use Rattle.rounding.proofs.Pattern.{twice, bits_of}
use Rattle.rounding.proofs.Cut.{expo, digs, parts}
use Rattle.rounding.proofs.Sign.{sized, finite_odd}

-- ---- the number that a pattern stands for

-- equal fractions are the same value
same_value : (x : Float) (s : Bool) (a c b d : ℕ) → 0 < c → a * d ≡ b * c → HasValue x s a c → HasValue x s b d
same_value nan s a c b d C e v = v
same_value (inf t) s a c b d C e v = v
same_value (fin t m k) s a c b d C e v = (
  v.0,
  eq_of_mul-eq-mul_right c C (m * up k * d) (b * down k)
      (mul_right_comm (m * up k) d c ∙ ap (λ (y : ℕ). y * d) v.1 ∙ mul_right_comm a (down k) d ∙ ap (λ (y : ℕ). y * down k) e ∙ mul_right_comm b c (down k)),
)

-- h * hid + q are the bits of q * 2 ^ h of the smallest values
size_of_lem : (f : Format) (h q : ℕ) → (h ≡ 0) ⊎ (hid f ≤ q) → q < 2 ^ prec f → size_of (prec f) (h * hid f + q) ≡ q * 2 ^ h
size_of_lem f h q o l = go (leb (hid f) q) (leb→le (hid f) q) (nleb→lt (hid f) q) o
  where
    W : 2 ^ prec f ≡ 2 * hid f
    W = twice (prec f) (two f)

    done : expo f (h * hid f + q) ≡ h → size_of (prec f) (h * hid f + q) ≡ q * 2 ^ h
    done e =
        let k = ap (λ (y : ℕ). y * hid f) e in
        let d : digs f (h * hid f + q) ≡ q = omega arith in
        ap₂ (λ (y z : ℕ). y * 2 ^ z) d e

    full : hid f ≤ q → size_of (prec f) (h * hid f + q) ≡ q * 2 ^ h
    full g =
        let w = W in
        let r : q - hid f < hid f = omega arith in
        let i : h * hid f + q ≡ suc h * hid f + (q - hid f) = omega arith in
        let d : (h * hid f + q) / hid f ≡ suc h = ap (λ (y : ℕ). y / hid f) i ∙ digits_div (suc h) r in
        done (omega arith)

    go : (b : Bool) → (T b → hid f ≤ q) → (T (not b) → q < hid f) → (h ≡ 0) ⊎ (hid f ≤ q) → size_of (prec f) (h * hid f + q) ≡ q * 2 ^ h
    go true y n z = full (y tt)
    go false y n (inr g) = full g
    go false y n (inl z) =
        let d : (h * hid f + q) / hid f ≡ h = digits_div h (n tt) in
        done (omega arith)

-- ---- powers of two

regroup : (q i j h k : ℕ) → i + j ≡ h + k → q * 2 ^ i * 2 ^ j ≡ q * 2 ^ h * 2 ^ k
regroup q i j h k e =
    mul_assoc q (2 ^ i) (2 ^ j)
    ∙ ap (λ (y : ℕ). q * y) (sym (pow-add 2 i j) ∙ ap (λ (y : ℕ). 2 ^ y) e ∙ pow-add 2 h k)
    ∙ sym (mul_assoc q (2 ^ h) (2 ^ k))

rescaled : (a b k l n : ℕ) → n ≡ k + l → b ≡ a * 2 ^ k → a * 2 ^ n ≡ b * 2 ^ l
rescaled a b k l n i e =
    ap (λ (y : ℕ). a * y) (ap (λ (y : ℕ). 2 ^ y) i ∙ pow-add 2 k l)
    ∙ sym (mul_assoc a (2 ^ k) (2 ^ l))
    ∙ ap (λ (y : ℕ). y * 2 ^ l) (sym e)

-- ---- the bits of the double

-- h and q read from the single, i and p written to the double
widens : (h q i p : ℕ) → (h ≡ 0) ⊎ (hid binary32 ≤ q) → q < 2 ^ prec binary32 → hid binary64 ≤ p → p < 2 ^ prec binary64 → i ≤ 2000 → p * 2 ^ i ≡ q * 2 ^ h * 2 ^ 925
    → Widens (h * hid binary32 + q) (i * hid binary64 + p)
widens h q i p o l g k n e = record {
  value = size_of_lem binary64 i p (inr g) k ∙ e ∙ ap (λ (y : ℕ). y * 2 ^ 925) (sym (size_of_lem binary32 h q o l));
  finite = omega arith;
}

-- from 2 ^ -126 on the digits stay
pub normal : (b : ℕ) → 2 ^ 23 ≤ b → b < ones binary32 * hid binary32 → Widens b (b * 2 ^ 29 + 896 * 2 ^ 52)
normal b g l =
    let p = parts binary32 b in
    let h = expo binary32 b in
    let q = digs binary32 b in
    let s = p.sum in
    let t = p.high in
    let d = div-add-mod' b (hid binary32) in
    let k : hid binary32 ≤ q = omega arith in
    let i : 29 + (h + 896) ≡ h + 925 = omega arith in
    let e : (h + 896) * hid binary64 + q * 2 ^ 29 ≡ b * 2 ^ 29 + 896 * 2 ^ 52 = omega arith in
    subst (λ (y : ℕ). Widens b y) e
    (subst (λ (y : ℕ). Widens y ((h + 896) * hid binary64 + q * 2 ^ 29)) s
    (widens h q (h + 896) (q * 2 ^ 29) p.lead t (omega arith) (omega arith) (omega arith) (regroup q 29 (h + 896) h 925 i)))

-- below it they move up by z places, until they lead
pub record Moved (b z : ℕ) : Type 0 where
  pub some : 30 ≤ z
  pub few : z ≤ 52
  pub lead : 2 ^ 52 ≤ b * 2 ^ z
  pub room : b * 2 ^ z < 2 ^ 53

pub moved : (b : ℕ) → 0 < b → b < 2 ^ 23 → Moved b (count_leading_zeros 64 b - 11)
moved b p l =
    let t = leading_top 64 b p (omega arith) in
    let j = t.0 in
    let e : count_leading_zeros 64 b + suc j ≡ 64 = t.1 in
    let k : j < 23 = lt_of_not-le (λ (g : 23 ≤ j). not-le_of_lt (lt_of_le_of_lt t.2 l) (pow_mono g)) in
    let z = count_leading_zeros 64 b - 11 in
    let i : j + z ≡ 52 = omega arith in
    let i2 : suc j + z ≡ 53 = omega arith in
    record {
      some = omega arith;
      few = omega arith;
      lead = le_trans (le_of_eq (ap (λ (y : ℕ). 2 ^ y) (sym i) ∙ pow-add 2 j z)) (mul-le-mul_right (2 ^ z) t.2);
      room = lt_of_lt_of_le (mul-lt-mul_of_pos_right t.3 (pow_pos z)) (le_of_eq (sym (pow-add 2 (suc j) z) ∙ ap (λ (y : ℕ). 2 ^ y) i2));
    }

pub small : (b z : ℕ) → b < 2 ^ 23 → Moved b z → Widens b ((925 - z) * 2 ^ 52 + b * 2 ^ z)
small b z l m =
    let f = m.few in
    let i : z + (925 - z) ≡ 0 + 925 = omega arith in
    subst (λ (y : ℕ). Widens y ((925 - z) * 2 ^ 52 + b * 2 ^ z)) (zero-add b)
    (widens 0 b (925 - z) (b * 2 ^ z) (inl refl) (omega arith) m.lead m.room (omega arith) (regroup b z (925 - z) 0 925 i))

pub none : (b : ℕ) → b ≡ 0 → Widens b 0
none b e = subst (λ (y : ℕ). Widens y 0) (sym e) record { value = refl; finite = lit< tt }

-- ---- the double

pub same_number : (x : Float) (s : Bool) (r : ℕ) → T (fits binary32 x) → sized binary32 x < ones binary32 * hid binary32 →
    leb (top binary32) (to_bits binary32 x) ≡ s → Widens (sized binary32 x) r → of_bits binary64 (cond s (top binary64) 0 + r) ≡ x
same_number x s r t l e w =
    let b = sized binary32 x in
    let p = parts binary64 r in
    let v : HasValue x s (size_of 24 b) (2 ^ low binary32) = subst (λ (y : Float). HasValue y s (size_of 24 b) (2 ^ low binary32))
    (sym (finite_odd binary32 x s t l e)) (odd_sign (prec binary32) s (digs binary32 b) (expo binary32 b) (low binary32)) in
    let u : HasValue x s (size_of 53 r) (2 ^ low binary64) = same_value x s (size_of 24 b) (2 ^ low binary32) (size_of 53 r) (2 ^ low binary64)
    (pow_pos (low binary32))
    (rescaled (size_of 24 b) (size_of 53 r) (low binary64 - low binary32) (low binary32) (low binary64) refl w.value) v in
    ap (of_bits binary64) (sym (bits_of binary64 s x (digs binary64 r) (expo binary64 r) u p.lead (le_of_lt p.high) ∙ ap (λ (y : ℕ). cond s (top binary64) 0 + y) p.sum))
    ∙ of_bits-to_bits binary64 x (fits_widens x t)
