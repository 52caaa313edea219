-- The bits of a number that is rounded to a format, an infinity among them: `units_bits`. And of a number with more digits than the format keeps: `packs`. Assumes nothing.
use Rattle.std.proofs.Common.{◌≡◌, ℕ, zero, suc, ◌+◌, ◌-◌, ◌*◌, ◌/◌, ◌%◌, ◌^◌, ◌<◌, ◌≤◌, min, Bool, true, false, cond, not, T, ltb, ◌⊎◌, sym, refl, ap, ◌∙◌, inl, inr, le_trans, le_of_eq, lt_of_lt_of_le, le_of_lt, mul-le-mul_right, mod-lt, mod-eq_of_lt, mul_assoc, div-lt_iff_lt-mul, mul-lt-mul_of_pos_right, mul-pos, lt_of_not-le, div-add-mod', le-div_iff_mul-le, not-le_of_lt, le_of_mul-le-mul_right, arith, ltb→lt, nltb→le, pow_pos, pow_mono, pow-add}
use Prim.Native.Nat.{compare, Ordering}
use native.Mathlib.Nat.{min-eq_left, min-eq_right}
use lib.Ieee.{inf, Format, prec, emax, low, size, odd, units, round, to_bits, hid, top, ones, nearest}
use lib.Arith.{le→nltb}
use lib.Ieee.Bits.{is_false}
use lib.Ieee.Digits.{size-le}
use lib.Ieee.Fits.{two, round_is, nearest-le}
use lib.Ieee.Exact.{units_val}
use lib.Ieee.Nearest.{closest, closest_same, div_same, nearest-ge}
use Rattle.rounding.proofs.Laws.Basics.{pow_le_back, div_at, ones_ge}
use Rattle.rounding.proofs.Laws.Nearest.{Cmp, cmp}
use Rattle.rounding.proofs.Pattern.{twice, size_at, bits_of}

-- ---- the two sides of the largest number

limit_is : (f : Format) → low f + suc (emax f) ≡ prec f + (ones f - 2)
limit_is f = let t = two f in let o = ones_ge f in omega arith

-- the digits are all there, where the number is not small
full : (f : Format) (q h : ℕ) → (h ≡ 0) ⊎ (hid f ≤ q) → 1 ≤ h → hid f ≤ q
full f q h (inl z) l = absurd (omega arith)
full f q h (inr g) l = g

over_bits : (f : Format) (q h : ℕ) → (h ≡ 0) ⊎ (hid f ≤ q) → q ≤ 2 ^ prec f → 2 ^ (low f + suc (emax f)) ≤ q * 2 ^ h → ones f * hid f ≤ h * hid f + q
over_bits f q h o a g =
    let t = two f in
    let n = ones_ge f in
    let w = twice (prec f) t in
    let i : prec f + (ones f - 2) ≤ prec f + h = pow_le_back (prec f + (ones f - 2)) (prec f + h)
    (le_trans (le_of_eq (ap (λ (x : ℕ). 2 ^ x) (sym (limit_is f))))
    (le_trans g (le_trans (mul-le-mul_right (2 ^ h) a) (le_of_eq (sym (pow-add 2 (prec f) h)))))) in
    let k : hid f ≤ q = full f q h o (omega arith) in
    go (ltb (ones f - 2) h) (ltb→lt (ones f - 2) h) (nltb→le (ones f - 2) h) k i
  where
    go : (b : Bool) → (T b → ones f - 2 < h) → (T (not b) → h ≤ ones f - 2) → hid f ≤ q → prec f + (ones f - 2) ≤ prec f + h → ones f * hid f ≤ h * hid f + q
    go true y n k i =
        let x = y tt in
        let l = ones_ge f in
        let m : ones f * hid f ≤ (h + 1) * hid f = mul-le-mul_right (hid f) (omega arith) in
        omega arith
    go false y n k i =
        let x = n tt in
        let l = ones_ge f in
        let e : h ≡ ones f - 2 = omega arith in
        let z : 2 ^ prec f ≤ q = le_of_mul-le-mul_right {k = 2 ^ h}
        (le_trans (le_of_eq (sym (pow-add 2 (prec f) h) ∙ ap (λ (v : ℕ). 2 ^ v) (ap (λ (v : ℕ). prec f + v) e ∙ sym (limit_is f)))) g)
        (pow_pos h) in
        let w = twice (prec f) (two f) in
        let j : ones f ≡ h + 2 = omega arith in
        let v = ap (λ (v : ℕ). v * hid f) j in
        omega arith

under_bits : (f : Format) (q h : ℕ) → (h ≡ 0) ⊎ (hid f ≤ q) → q ≤ 2 ^ prec f → q * 2 ^ h < 2 ^ (low f + suc (emax f)) → h * hid f + q < ones f * hid f
under_bits f q h o a l = lt_of_not-le (λ (g : ones f * hid f ≤ h * hid f + q). not-le_of_lt l (large g))
  where
    large : ones f * hid f ≤ h * hid f + q → 2 ^ (low f + suc (emax f)) ≤ q * 2 ^ h
    large g =
        let t = two f in
        let n = ones_ge f in
        let w = twice (prec f) t in
        let x : ones f * hid f ≤ (h + 2) * hid f = omega arith in
        let y : ones f ≤ h + 2 = le_of_mul-le-mul_right x (pow_pos (prec f - 1)) in
        let k : hid f ≤ q = full f q h o (omega arith) in
        go (ltb (ones f - 2) h) (ltb→lt (ones f - 2) h) (nltb→le (ones f - 2) h) k y
      where
        go : (b : Bool) → (T b → ones f - 2 < h) → (T (not b) → h ≤ ones f - 2) → hid f ≤ q → ones f ≤ h + 2 → 2 ^ (low f + suc (emax f)) ≤ q * 2 ^ h
        go true y n k m =
            let x = y tt in
            let t = two f in
            let c = ones_ge f in
            let i : prec f + (ones f - 2) ≤ prec f - 1 + h = omega arith in
            le_trans (le_of_eq (ap (λ (v : ℕ). 2 ^ v) (limit_is f))) (le_trans (pow_mono i) (le_trans (le_of_eq (pow-add 2 (prec f - 1) h)) (mul-le-mul_right (2 ^ h) k)))
        go false y n k m =
            let x = n tt in
            let c = ones_ge f in
            let w = twice (prec f) (two f) in
            let e : h ≡ ones f - 2 = omega arith in
            let j : ones f ≡ h + 2 = omega arith in
            let v = ap (λ (v : ℕ). v * hid f) j in
            let z : 2 ^ prec f ≤ q = omega arith in
            le_trans (le_of_eq (ap (λ (v : ℕ). 2 ^ v) (limit_is f ∙ ap (λ (v : ℕ). prec f + v) (sym e)) ∙ pow-add 2 (prec f) h)) (mul-le-mul_right (2 ^ h) z)

-- ---- the bits of q * 2 ^ h of the smallest values, whatever they come to

inf_bits : (f : Format) (s : Bool) → to_bits f (inf s) ≡ cond s (top f) 0 + ones f * hid f
unfolding to_bits
inf_bits f s = refl

inf_units : (f : Format) (s : Bool) (q h : ℕ) → 2 ^ (low f + suc (emax f)) ≤ q * 2 ^ h → units f s q h ≡ inf s
unfolding units
inf_units f s q h g =
    ap (λ (b : Bool). cond b (odd (suc (prec f)) s q h (low f)) (inf s))
    (is_false (ltb (q * 2 ^ h) (2 ^ (low f + suc (emax f)))) (le→nltb (q * 2 ^ h) (2 ^ (low f + suc (emax f))) g))

pub units_bits : (f : Format) (s : Bool) (q h : ℕ) → (h ≡ 0) ⊎ (hid f ≤ q) → q ≤ 2 ^ prec f → to_bits f (units f s q h) ≡ cond s (top f) 0 + min (h * hid f + q) (ones f * hid f)
units_bits f s q h o a = go (ltb (q * 2 ^ h) (2 ^ (low f + suc (emax f)))) (ltb→lt (q * 2 ^ h) (2 ^ (low f + suc (emax f)))) (nltb→le (q * 2 ^ h) (2 ^ (low f + suc (emax f))))
  where
    go : (b : Bool) → (T b → q * 2 ^ h < 2 ^ (low f + suc (emax f))) → (T (not b) → 2 ^ (low f + suc (emax f)) ≤ q * 2 ^ h) →
        to_bits f (units f s q h) ≡ cond s (top f) 0 + min (h * hid f + q) (ones f * hid f)
    go true y n =
        bits_of f s (units f s q h) q h (units_val f s q h (y tt)) o a
        ∙ ap (λ (x : ℕ). cond s (top f) 0 + x) (sym (min-eq_left (le_of_lt (under_bits f q h o a (y tt)))))
    go false y n =
        ap (to_bits f) (inf_units f s q h (n tt))
        ∙ inf_bits f s
        ∙ ap (λ (x : ℕ). cond s (top f) 0 + x) (sym (min-eq_right (over_bits f q h o a (n tt))))

-- ---- a number with digits to drop: q * 2 ^ h / 2 ^ D of the smallest values, that is q * 2 ^ k / 2 ^ S

closest_ge : (q U : ℕ) → q / U ≤ closest q U
closest_ge q U = nearest-ge (q / U) (compare (q % U * 2) U)

pub closest_le : (q U : ℕ) → closest q U ≤ suc (q / U)
closest_le q U = nearest-le (q / U) (compare (q % U * 2) U)

module _ (f : Format) (s : Bool) (q h D k S : ℕ) (same : h + S ≡ D + k) (dropped : size (q * 2 ^ h / 2 ^ D) - prec f ≡ k)
    (lead : (k ≡ 0) ⊎ (hid f ≤ closest q (2 ^ S))) (room : closest q (2 ^ S) ≤ 2 ^ prec f) where
  n_is : q * 2 ^ h * 2 ^ low f / 2 ^ (low f + D) ≡ q * 2 ^ h / 2 ^ D
  n_is =
      div_same (q * 2 ^ h * 2 ^ low f) (2 ^ (low f + D)) (q * 2 ^ h) (2 ^ D) (pow_pos (low f + D)) (pow_pos D)
      (mul_assoc (q * 2 ^ h) (2 ^ low f) (2 ^ D) ∙ ap (λ (x : ℕ). q * 2 ^ h * x) (sym (pow-add 2 (low f) D)))

  powers : q * 2 ^ h * 2 ^ low f * 2 ^ S ≡ q * (2 ^ (low f + D) * 2 ^ k)
  powers =
      let a : 2 ^ h * 2 ^ S ≡ 2 ^ D * 2 ^ k = sym (pow-add 2 h S) ∙ ap (λ (x : ℕ). 2 ^ x) same ∙ pow-add 2 D k in
      let b = ap (λ (x : ℕ). q * 2 ^ low f * x) a in
      let c = ap (λ (x : ℕ). q * (x * 2 ^ k)) (pow-add 2 (low f) D) in
      omega arith

  pub packs : to_bits f (round f s (q * 2 ^ h) (2 ^ (low f + D))) ≡ cond s (top f) 0 + min (k * hid f + closest q (2 ^ S)) (ones f * hid f)
  packs =
      ap (to_bits f)
      (round_is f s (q * 2 ^ h) (2 ^ (low f + D))
      ∙ ap (λ (j : ℕ). units f s (closest (q * 2 ^ h * 2 ^ low f) (2 ^ (low f + D) * 2 ^ j)) j) (ap (λ (x : ℕ). size x - prec f) n_is ∙ dropped)
      ∙ ap (λ (j : ℕ). units f s j k) (closest_same (q * 2 ^ h * 2 ^ low f) (2 ^ (low f + D) * 2 ^ k) q (2 ^ S) (mul-pos (pow_pos (low f + D)) (pow_pos k)) (pow_pos S) powers))
      ∙ units_bits f s (closest q (2 ^ S)) k lead room

-- q has c digits more than the format keeps
module _ (f : Format) (s : Bool) (q h D c : ℕ) (short : q < 2 ^ (prec f + c)) where
  -- a normal number
  pub packs_high : 2 ^ (prec f - 1 + c) ≤ q → D ≤ h + c → to_bits f (round f s (q * 2 ^ h) (2 ^ (low f + D))) ≡ cond s (top f) 0 + min ((h + c - D) * hid f + closest q (2 ^ c)) (ones f * hid f)
  packs_high lo g =
      let k = h + c - D in
      let i : k + D ≡ h + c = omega arith in
      let j : h + c ≡ D + k = omega arith in
      let x : hid f * 2 ^ k * 2 ^ D ≤ q * 2 ^ h = le_trans (le_of_eq (mul_assoc (hid f) (2 ^ k) (2 ^ D)
      ∙ ap (λ (v : ℕ). hid f * v) (sym (pow-add 2 k D) ∙ ap (λ (v : ℕ). 2 ^ v) (i ∙ comm h c) ∙ pow-add 2 c h)
      ∙ sym (mul_assoc (hid f) (2 ^ c) (2 ^ h)) ∙ ap (λ (v : ℕ). v * 2 ^ h) (sym (pow-add 2 (prec f - 1) c)))) (mul-le-mul_right (2 ^ h) lo) in
      let y : q * 2 ^ h < 2 ^ prec f * 2 ^ k * 2 ^ D = lt_of_lt_of_le (mul-lt-mul_of_pos_right short (pow_pos h))
      (le_of_eq (sym (mul_assoc (2 ^ prec f) (2 ^ k) (2 ^ D)
      ∙ ap (λ (v : ℕ). 2 ^ prec f * v) (sym (pow-add 2 k D) ∙ ap (λ (v : ℕ). 2 ^ v) (i ∙ comm h c) ∙ pow-add 2 c h)
      ∙ sym (mul_assoc (2 ^ prec f) (2 ^ c) (2 ^ h)) ∙ ap (λ (v : ℕ). v * 2 ^ h) (sym (pow-add 2 (prec f) c))))) in
      packs f s q h D k c j
      (size_at (prec f) k (q * 2 ^ h / 2 ^ D) (two f) ((le-div_iff_mul-le (pow_pos D)).1 x) ((div-lt_iff_lt-mul (pow_pos D)).1 y))
      (inr (le_trans ((le-div_iff_mul-le (pow_pos c)).1 (le_trans (le_of_eq (sym (pow-add 2 (prec f - 1) c))) lo)) (closest_ge q (2 ^ c))))
      (le_trans (closest_le q (2 ^ c)) ((div-lt_iff_lt-mul (pow_pos c)).1 (lt_of_lt_of_le short (le_of_eq (pow-add 2 (prec f) c)))))
    where
      comm : (a b : ℕ) → a + b ≡ b + a
      comm a b = omega arith

  -- a subnormal number
  pub packs_low : h + c < D → to_bits f (round f s (q * 2 ^ h) (2 ^ (low f + D))) ≡ cond s (top f) 0 + min (0 * hid f + closest q (2 ^ (D - h))) (ones f * hid f)
  packs_low g =
      let S = D - h in
      let j : h + S ≡ D + 0 = omega arith in
      let i : prec f + c + h ≤ prec f + D = omega arith in
      let i2 : prec f + c ≤ prec f + S = omega arith in
      let y : q * 2 ^ h < 2 ^ prec f * 2 ^ D = lt_of_lt_of_le (mul-lt-mul_of_pos_right short (pow_pos h))
      (le_trans (le_of_eq (sym (pow-add 2 (prec f + c) h))) (le_trans (pow_mono i) (le_of_eq (pow-add 2 (prec f) D)))) in
      let z : size (q * 2 ^ h / 2 ^ D) ≤ prec f = size-le (q * 2 ^ h / 2 ^ D) (prec f) ((div-lt_iff_lt-mul (pow_pos D)).1 y) in
      packs f s q h D 0 S j
      (omega arith)
      (inl refl)
      (le_trans (closest_le q (2 ^ S)) ((div-lt_iff_lt-mul (pow_pos S)).1 (lt_of_lt_of_le short (le_trans (pow_mono i2) (le_of_eq (pow-add 2 (prec f) S))))))

-- ---- the code's way to round to the even one

pub even_up : (q c : ℕ) → 0 < c → closest q (2 * c) ≡ (q + (c - 1) + q / (2 * c) % 2) / (2 * c)
even_up q c C = go (compare (q % (2 * c) * 2) (2 * c)) (cmp (q % (2 * c) * 2) (2 * c)) (q / (2 * c) % 2) (omega arith) refl
  where
    U : 0 < 2 * c
    U = omega arith

    d : q / (2 * c) * (2 * c) + q % (2 * c) ≡ q
    d = div-add-mod' q (2 * c)

    go : (o : Ordering) → Cmp o (q % (2 * c) * 2) (2 * c) → (b : ℕ) → b ≤ 1 → q / (2 * c) % 2 ≡ b → nearest (q / (2 * c)) o ≡ (q + (c - 1) + b) / (2 * c)
    go Ordering.lt x b l e = let y = d in sym (div_at (q + (c - 1) + b) (2 * c) (q / (2 * c)) (q % (2 * c) + (c - 1) + b) (omega arith) (omega arith))
    go Ordering.eq x zero l e = let y = d in ap (λ (v : ℕ). q / (2 * c) + v) e ∙ sym (div_at (q + (c - 1) + 0) (2 * c) (q / (2 * c) + 0) (q % (2 * c) + (c - 1)) (omega arith) (omega arith))
    go Ordering.eq x (suc zero) l e = let y = d in ap (λ (v : ℕ). q / (2 * c) + v) e ∙ sym (div_at (q + (c - 1) + 1) (2 * c) (q / (2 * c) + 1) 0 (omega arith) U)
    go Ordering.eq x (suc (suc b)) l e = absurd (omega arith)
    go Ordering.gt x b l e = let y = d in let m = mod-lt q U in sym (div_at (q + (c - 1) + b) (2 * c) (suc (q / (2 * c))) (q % (2 * c) + (c - 1) + b - 2 * c) (omega arith) (omega arith))

-- far below a half
pub closest_none : (q U : ℕ) → 2 * q < U → closest q U ≡ 0
closest_none q U h = go (compare (q % U * 2) U) (cmp (q % U * 2) U)
  where
    z : q / U ≡ 0
    z = div_at q U 0 q (omega arith) (omega arith)

    m : q % U ≡ q
    m = mod-eq_of_lt (let y : q < U = omega arith in y)

    go : (o : Ordering) → Cmp o (q % U * 2) U → nearest (q / U) o ≡ 0
    go Ordering.lt x = z
    go Ordering.eq x = let y = m in absurd (omega arith)
    go Ordering.gt x = let y = m in absurd (omega arith)
