-- A finite number that a format holds, in units of the format's smallest value: it has few enough digits, and it is not too large. And a value that a format holds is
-- written in one way. Assumes nothing.
use Rattle.std.specs.Prelude.{◌≡◌, ℕ, zero, suc, ◌+◌, ◌-◌, ◌*◌, ◌/◌, ◌%◌, ◌^◌, ◌<◌, ◌≤◌, Bool, cond, ◌&&◌, T, ltb, leb, ℤ, pos, negsuc, ◌==◌, from_bits, nat_eq, nat_le, nat_lt, Float}
use Rattle.std.proofs.Common.{sym, ap, ◌∙◌, mul-one, mul_assoc, mul_right_comm, zero-mul, mul-lt-mul_of_pos_right, lt_of_mul-lt-mul_right, lt_of_lt_of_le, lt_of_le_of_lt, le_of_eq, arith, leb→le, ltb→lt, pow-add, pow_pos}
use Rattle.std.specs.Float.{nan, inf, fin, Format}
use Rattle.std.specs.Float.Ieee.{size, prec, emax, low, up, down, round, hid, top, to_bits, fits}
use Rattle.std.specs.Float.Ieee.Fits.{and_l, and_r, down_pos}
use Rattle.std.specs.Float.Ieee.Bits.{of_bits-to_bits}
use Rattle.std.specs.Float.Ieee.Exact.{HasValue, round_exact}
use Rattle.std.specs.Float.Ieee.Nearest.{div_same}
use Rattle.std.specs.Float.Ieee.Scale.{overflow, finite}
use Rattle.rounding.proofs.Laws.Basics.{pow_le_back}

-- ---- q * 2 ^ j of the smallest values, with few enough digits
pub record Representable (f : Format) (m : ℕ) (e : ℤ) : Type 0 where
  pub q : ℕ
  pub j : ℕ
  pub short : q < 2 ^ prec f
  pub value : m * up e * 2 ^ low f ≡ q * 2 ^ j * down e

placed : (f : Format) (m : ℕ) (e : ℤ) → m < 2 ^ prec f → down e ≤ 2 ^ low f → Representable f m e
placed f m (pos a) h k = record { q = m; j = a + low f; short = h; value = mul_assoc m (2 ^ a) (2 ^ low f) ∙ ap (λ (x : ℕ). m * x) (sym (pow-add 2 a (low f))) ∙ sym (mul-one (m * 2 ^ (a + low f))) }
placed f m (negsuc a) h k =
    let l : suc a ≤ low f = pow_le_back (suc a) (low f) k in
    let i : low f ≡ low f - suc a + suc a = omega arith in
    record {
      q = m;
      j = low f - suc a;
      short = h;
      value = ap (λ (x : ℕ). x * 2 ^ low f) (mul-one m) ∙ ap (λ (x : ℕ). m * x) (ap (λ (x : ℕ). 2 ^ x) i ∙ pow-add 2 (low f - suc a) (suc a)) ∙ sym (mul_assoc m (2 ^ (low f - suc a)) (2 ^ suc a));
    }

pub digits : (f : Format) (s : Bool) (m : ℕ) (e : ℤ) → T (fits f (fin s m e)) → m < 2 ^ prec f
unfolding fits
digits f s zero e h = pow_pos (prec f)
digits f s (suc m) e h =
    let A = nat_eq (suc m % 2) 1 in
    let B = ltb (suc m) (2 ^ prec f) in
    let C = leb (down e) (2 ^ low f) in
    let D = ltb (suc m * up e) (2 ^ suc (emax f) * down e) in
    ltb→lt (suc m) (2 ^ prec f) (and_r A B (and_l (A && B) C (and_l (A && B && C) D h)))

pub held : (f : Format) (s : Bool) (m : ℕ) (e : ℤ) → T (fits f (fin s m e)) → Representable f m e
unfolding fits
held f s zero e h = record { q = 0; j = 0; short = pow_pos (prec f); value = ap (λ (x : ℕ). x * 2 ^ low f) (zero-mul (up e)) ∙ zero-mul (2 ^ low f) ∙ sym (zero-mul (down e)) }
held f s (suc m) e h =
    let A = nat_eq (suc m % 2) 1 in
    let B = ltb (suc m) (2 ^ prec f) in
    let C = leb (down e) (2 ^ low f) in
    let D = ltb (suc m * up e) (2 ^ suc (emax f) * down e) in
    placed f (suc m) e (digits f s (suc m) e h) (leb→le (down e) (2 ^ low f) (and_r (A && B) C (and_l (A && B && C) D h)))

-- below the largest power of two
pub bounded : (f : Format) (s : Bool) (m : ℕ) (e : ℤ) → T (fits f (fin s m e)) → m * up e < 2 ^ suc (emax f) * down e
unfolding fits
bounded f s zero e h = lt_of_le_of_lt (le_of_eq (zero-mul (up e) ∙ sym (zero-mul (down e)))) (mul-lt-mul_of_pos_right (pow_pos (suc (emax f))) (down_pos e))
bounded f s (suc m) e h =
    ltb→lt (suc m * up e) (2 ^ suc (emax f) * down e) (and_r (suc m % 2 == 1 && nat_lt (suc m) (2 ^ prec f) && nat_le (down e) (2 ^ low f)) (nat_lt (suc m * up e) (2 ^ suc (emax f) * down e)) h)

pub units_bounded : (f : Format) (s : Bool) (m : ℕ) (e : ℤ) → T (fits f (fin s m e)) → (n : ℕ) → m * up e * 2 ^ low f ≡ n * down e → n < overflow f
units_bounded f s m e h n v =
    lt_of_lt_of_le (lt_of_mul-lt-mul_right (down e) (go (down e) (2 ^ suc (emax f)) (2 ^ low f) v (mul-lt-mul_of_pos_right (bounded f s m e h) (pow_pos (low f)))))
    (le_of_eq (sym (pow-add 2 (low f) (suc (emax f)))))
  where
    go : (d B l : ℕ) → m * up e * l ≡ n * d → m * up e * l < B * d * l → n * d < l * B * d
    go d B l x y = omega arith

-- ---- what equals a fraction is finite
pub value_finite : (v : Float) (s : Bool) (a c : ℕ) → HasValue v s a c → T (finite v)
value_finite nan s a c h = absurd h
value_finite (inf t) s a c h = absurd h
value_finite (fin t m e) s a c h = tt

-- ---- rounding changes nothing
pub round_held : (f : Format) (s : Bool) (m : ℕ) (e : ℤ) → T (fits f (fin s m e)) → HasValue (round f s (m * up e) (down e)) s (m * up e) (down e)
round_held f s m e h =
    let k = held f s m e h in
    round_exact f s (m * up e) (down e) k.q k.j (down_pos e) k.short (units_bounded f s m e h (k.q * 2 ^ k.j) k.value) k.value

-- ---- two values that the format holds, with one sign and one size, are the same: so are their bits
bits_by_size : (f : Format) (x : Float) (s : Bool) (a c : ℕ) → 0 < c → HasValue x s a c
    → to_bits f x ≡ cond s (top f) 0 + (size (a * 2 ^ low f / c) - prec f) * hid f + a * 2 ^ low f / c / 2 ^ (size (a * 2 ^ low f / c) - prec f)
unfolding to_bits
bits_by_size f nan s a c C v = absurd v
bits_by_size f (inf t) s a c C v = absurd v
bits_by_size f (fin t m e) s a c C v =
    ap (λ (b : Bool). cond b (top f) 0 + (size (m * up e * 2 ^ low f / down e) - prec f) * hid f + m * up e * 2 ^ low f / down e / 2 ^ (size (m * up e * 2 ^ low f / down e) - prec f)) v.0
    ∙ ap (λ (n : ℕ). cond s (top f) 0 + (size n - prec f) * hid f + n / 2 ^ (size n - prec f)) (div_same (m * up e * 2 ^ low f) (down e) (a * 2 ^ low f) c (down_pos e) C (mul_right_comm (m * up e) (2 ^ low f) c ∙ ap (λ (n : ℕ). n * 2 ^ low f) v.1 ∙ mul_right_comm a (down e) (2 ^ low f)))

pub value_unique : (f : Format) (x y : Float) (s : Bool) (a c : ℕ) → 0 < c → T (fits f x) → T (fits f y) → HasValue x s a c → HasValue y s a c → x ≡ y
value_unique f x y s a c C p q v w = sym (of_bits-to_bits f x p) ∙ ap (from_bits f) (bits_by_size f x s a c C v ∙ sym (bits_by_size f y s a c C w)) ∙ of_bits-to_bits f y q
