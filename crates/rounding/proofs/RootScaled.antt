-- What `root_of` hands to `root_digits`, and what it makes of the answer, with the format as a parameter. Assumes nothing.
use Rattle.std.proofs.Common.{◌≡◌, ℕ, zero, suc, ◌+◌, ◌-◌, ◌*◌, ◌/◌, ◌%◌, ◌^◌, ◌<◌, ◌≤◌, ◌⊎◌, sym, refl, ap, ◌∙◌, subst, ap₂, inl, inr, le_trans, le_of_eq, lt_of_lt_of_le, lt_of_le_of_lt, mul-le-mul_right, lt_of_not-le, not-le_of_lt, arith, lit<, lit≤, pow_pos, pow_mono, pow-add, shl_lt, shl_exact}
use lib.Count.{count_leading_zeros, leading_top}
use lib.Ieee.{Format, binary32, binary64, prec, emax, low}
use Rattle.rounding.specs.Root.{root_of}
use Rattle.rounding.specs.Binary.{LaidOut}
use Rattle.rounding.specs.Steps.{Shaped, Root, Rooted, Radicand}
use Rattle.rounding.proofs.RootLaw.{law}
use Rattle.rounding.proofs.Pattern.{twice}
use Rattle.rounding.proofs.Fields.{lead_is}

-- ---- the two formats' numbers

pub record Bounds (p e : ℕ) : Type 0 where
  pub two : 2 ≤ p
  pub short : p ≤ 53
  pub wide : p < e
  pub far : e ≤ 1023

bounds_of : (f : Format) → Bounds (prec f) (emax f)
bounds_of binary32 = record { two = lit≤ tt; short = lit≤ tt; wide = lit< tt; far = lit≤ tt }
bounds_of binary64 = record { two = lit≤ tt; short = lit≤ tt; wide = lit< tt; far = lit≤ tt }

pub bounds : (p e : ℕ) → Shaped p e → Bounds p e
bounds p e s = rw (s.digits, s.largest) at (bounds_of s.format)

-- the leading digit's weight, as the code has it
pub lead : (p e : ℕ) → Bounds p e → (1 * 2 ^ (p - 1)) % 2 ^ 64 ≡ 2 ^ (p - 1)
lead p e b = lead_is p b.short b.two

-- p and e are the format's numbers, as the code has them from the format's type
pub record Sized (f : Format) (p e : ℕ) : Type 0 where
  pub digits : prec f ≡ p
  pub largest : emax f ≡ e
  pub within : Bounds p e

pub sized : {f : Format} {P E s i : ℕ} → LaidOut f P E s i → {p e : ℕ} → p ≡ P → e ≡ E → Sized f p e
sized {f} o {p} {e} u w =
    let d : prec f ≡ p = sym (u ∙ o.digits_is) in
    let l : emax f ≡ e = sym (w ∙ o.largest_is) in
    record { digits = d; largest = l; within = bounds p e (record { format = f; digits = d; largest = l }) }

width_of : (f : Format) → (prec f ≡ 24 → ⊥) → prec f ≡ 53
width_of binary32 n = absurd (n refl)
width_of binary64 n = refl

width : (p e : ℕ) → Shaped p e → (p ≡ 24 → ⊥) → p ≡ 53
width p e s n = rw (← s.digits) (width_of s.format (rw (← s.digits) at n))

-- ---- the code's numbers

abbrev pub shift : ℕ → ℕ → ℕ
shift p m = count_leading_zeros 64 m - (64 - p)

abbrev pub expo : ℕ → ℕ → ℕ → ℕ → ℕ
expo p e m k = k + (e - 1) - shift p m

abbrev pub rad : ℕ → ℕ → ℕ → ℕ → ℕ
rad p e m k = (m * 2 ^ shift p m) % 2 ^ 64 * 2 ^ (1 + expo p e m k % 2) % 2 ^ 64

-- half of it, as a product
abbrev pub half : ℕ → ℕ → ℕ → ℕ → ℕ
half p e m k = m * 2 ^ shift p m * 2 ^ (expo p e m k % 2)

pow_lt_back : (i p : ℕ) → 2 ^ i < 2 ^ p → i < p
pow_lt_back i p h = lt_of_not-le (λ (g : p ≤ i). not-le_of_lt h (pow_mono g))

module _ (p e m k : ℕ) (b : Bounds p e) (pos : 0 < m) (lt : m < 2 ^ p) (kl : k < 2 * e) where
  -- m has j + 1 digits
  pub record Length : Type 0 where
    pub j : ℕ
    pub leading : count_leading_zeros 64 m + suc j ≡ 64
    pub lower : 2 ^ j ≤ m
    pub upper : m < 2 ^ suc j
    pub fewer : j < p

  pub length : Length
  length =
      let w : p ≤ 64 = omega (arith, b.short) in
      let t = leading_top 64 m pos (lt_of_lt_of_le lt (pow_mono w)) in
      record { j = t.0; leading = t.1; lower = t.2; upper = t.3; fewer = pow_lt_back t.0 p (lt_of_le_of_lt t.2 lt) }

  pub shift_is : (n : Length) → shift p m + suc n.j ≡ p
  shift_is n = omega (arith, n.leading, n.fewer)

  pub enough : 64 - p ≤ count_leading_zeros 64 m
  enough = let n = length in omega (arith, n.leading, n.fewer)

  -- moved up, m has p digits
  lo : 2 ^ (p - 1) ≤ m * 2 ^ shift p m
  lo =
      let n = length in
      let s = shift_is n in
      let i : p - 1 ≡ n.j + shift p m = omega arith in
      le_trans (le_of_eq (ap (λ (x : ℕ). 2 ^ x) i ∙ pow-add 2 n.j (shift p m))) (mul-le-mul_right (2 ^ shift p m) n.lower)

  hi : m * 2 ^ shift p m < 2 ^ p
  hi =
      let n = length in
      let s = shift_is n in
      let i : suc n.j + shift p m ≡ p = omega arith in
      subst (λ (x : ℕ). m * 2 ^ shift p m < 2 ^ x) i (shl_lt (suc n.j) (shift p m) n.upper)

  pub rad_is : rad p e m k ≡ 2 * half p e m k
  rad_is =
      let n = length in
      let s = shift_is n in
      let d = expo p e m k in
      let a : m * 2 ^ shift p m % 2 ^ 64 ≡ m * 2 ^ shift p m = shl_exact (suc n.j) (shift p m) 64 n.upper (omega (arith, b.short)) in
      let t = pow-add 2 1 (d % 2) in
      let u = ap (λ (x : ℕ). m * 2 ^ shift p m * x) t in
      ap (λ (x : ℕ). x * 2 ^ (1 + d % 2) % 2 ^ 64) a
      ∙ shl_exact p (1 + d % 2) 64 hi (omega (arith, b.short))
      ∙ omega arith

  -- twice the half, and no more than twice that
  grows : (i : ℕ) → i < 2 → (2 ^ i ≡ 1) ⊎ (2 ^ i ≡ 2)
  grows zero h = inl refl
  grows (suc zero) h = inr refl
  grows (suc (suc i)) h = absurd (omega arith)

  module _ where
    bit : (2 ^ (expo p e m k % 2) ≡ 1) ⊎ (2 ^ (expo p e m k % 2) ≡ 2)
    bit = grows (expo p e m k % 2) (omega arith)

  pub rad_lo : 2 ^ p ≤ 2 * half p e m k
  rad_lo = go bit
    where
      go : (2 ^ (expo p e m k % 2) ≡ 1) ⊎ (2 ^ (expo p e m k % 2) ≡ 2) → 2 ^ p ≤ 2 * half p e m k
      go (inl x) = let y = ap (λ (w : ℕ). m * 2 ^ shift p m * w) x in let t = twice p b.two in let l = lo in omega arith
      go (inr x) = let y = ap (λ (w : ℕ). m * 2 ^ shift p m * w) x in let t = twice p b.two in let l = lo in omega arith

  pub rad_hi : 2 * half p e m k + 4 ≤ 4 * 2 ^ p
  rad_hi = go bit
    where
      go : (2 ^ (expo p e m k % 2) ≡ 1) ⊎ (2 ^ (expo p e m k % 2) ≡ 2) → 2 * half p e m k + 4 ≤ 4 * 2 ^ p
      go (inl x) = let y = ap (λ (w : ℕ). m * 2 ^ shift p m * w) x in let t = pow_pos p in let l = hi in omega arith
      go (inr x) = let y = ap (λ (w : ℕ). m * 2 ^ shift p m * w) x in let l = hi in omega arith

  pub radicand : Shaped p e → Radicand (rad p e m k) p
  radicand s =
      let i = rad_is in
      record { width = width p e s; low = rw i rad_lo; high = rw i (omega (arith, rad_hi)); even = rw i (omega arith) }

  -- the powers of two on both sides
  scale : m * 2 ^ k * (4 * 2 ^ (e + p - 2)) ≡ 2 * half p e m k * 2 ^ p * (2 ^ (expo p e m k / 2) * 2 ^ (expo p e m k / 2))
  scale =
      let n = length in
      let s = shift_is n in
      let z = shift p m in
      let d = expo p e m k in
      let h = d / 2 in
      let l = e + p - 2 in
      let i : k + (2 + l) ≡ 1 + z + d % 2 + p + (h + h) = omega (arith, b.two, b.wide) in
      let x : 2 ^ k * (4 * 2 ^ l) ≡ 2 ^ (k + (2 + l)) = sym (pow-add 2 k (2 + l) ∙ ap (λ (w : ℕ). 2 ^ k * w) (pow-add 2 2 l)) in
      let y : 2 ^ (1 + z + d % 2 + p + (h + h)) ≡ 2 * 2 ^ z * 2 ^ (d % 2) * 2 ^ p * (2 ^ h * 2 ^ h) =
      pow-add 2 (1 + z + d % 2 + p) (h + h)
      ∙ ap₂ (λ (v w : ℕ). v * w) (pow-add 2 (1 + z + d % 2) p ∙ ap (λ (w : ℕ). w * 2 ^ p) (pow-add 2 (1 + z) (d % 2) ∙ ap (λ (w : ℕ). w * 2 ^ (d % 2)) (pow-add 2 1 z))) (pow-add 2 h h) in
      let t = ap (λ (w : ℕ). m * w) (x ∙ ap (λ (w : ℕ). 2 ^ w) i ∙ y) in
      omega arith

  pub expo_lt : expo p e m k / 2 + 2 ≤ 2 * e + 1
  expo_lt = omega arith

  pub expo_small : expo p e m k / 2 < 2 ^ 11
  expo_small = let f = b.far in omega arith

  pub packed : expo p e m k / 2 * 2 ^ (p - 1) % 2 ^ 64 ≡ expo p e m k / 2 * 2 ^ (p - 1)
  packed = shl_exact 11 (p - 1) 64 expo_small (omega (arith, b.short))

  -- the code's answer, from the root R of what it handed over
  pub answer : (R : ℕ) → Root R (rad p e m k * 2 ^ p) → (f : Format) → prec f ≡ p → emax f ≡ e
      → Rooted f (root_of f (m * 2 ^ k) (2 ^ low f)) (expo p e m k / 2 * 2 ^ (p - 1) % 2 ^ 64 + (R + 1) / 2)
  answer R root f u w =
      let h = expo p e m k / 2 in
      let v = half p e m k in
      rw packed
      (subst (λ (x : ℕ). Rooted f (root_of f (m * 2 ^ k) (2 ^ low f)) (h * 2 ^ (x - 1) + (R + 1) / 2)) u
      (law f (m * 2 ^ k) v h R
      (rw (u, w) scale)
      (rw u rad_lo)
      (rw u rad_hi)
      (rw (u, ← rad_is) root)
      (rw w expo_lt)))
