-- The whole root by its final test, and the root of a number of 108 digits from that of its upper half. No law here speaks of how good a guess is.
-- Assumes nothing.
use Rattle.std.proofs.Common.{◌≡◌, ℕ, suc, ◌+◌, ◌-◌, ◌*◌, ◌/◌, ◌%◌, ◌^◌, ◌<◌, ◌≤◌, ap, mul-le-mul_right, mod-lt, mul-le-mul, div-add-mod', arith}
use native.Mathlib.Nat.{div-le_of_le-mul}
use Rattle.rounding.specs.Steps.{Root}
use Rattle.rounding.proofs.Laws.Isqrt.{sq_lt}

-- ---- a trial r fits

pub square_fits : (r : ℕ) → r < 2 ^ 28 → r * r ≤ 2 ^ 56
square_fits r h = let a : r ≤ 2 ^ 28 = omega arith in mul-le-mul a a

pub under_small : (r n : ℕ) → r * r ≤ n → n < 2 ^ 54 → r < 2 ^ 27
under_small r n h l = sq_lt r (2 ^ 27) (omega arith)

-- ---- the root of four digits more

pub quarter : (R N : ℕ) → Root R (16 * N) → Root (R / 4) N
quarter R N h =
    let k = R / 4 in
    let a : 4 * k ≤ R = omega arith in
    let b : suc R ≤ 4 * suc k = omega arith in
    let p : 4 * k * (4 * k) ≤ R * R = mul-le-mul a a in
    let q : suc R * suc R ≤ 4 * suc k * (4 * suc k) = mul-le-mul b b in
    record { under = omega (arith, h.under); over = omega (arith, h.over) }

-- ---- the root from that of the upper half

pub record Upper (h s : ℕ) : Type 0 where
  pub under : s * s ≤ h
  pub left : h - s * s ≤ 2 * s
  pub low : 2 ^ 26 ≤ s
  pub high : s < 2 ^ 27

pub upper : (h s : ℕ) → 2 ^ 52 ≤ h → h < 2 ^ 54 → Root s h → Upper h s
upper h s lo hi r =
    let a : 2 ^ 26 < suc s = sq_lt (2 ^ 26) (suc s) (omega (arith, r.over)) in
    record { under = r.under; left = omega (arith, r.over); low = omega arith; high = under_small s h r.under hi }

-- what is left of h, in units of the lower half: q times s, and m
pub record Lower (h s q m : ℕ) : Type 0 where
  pub sum : q * s + m ≡ (h - s * s) * 2 ^ 26
  pub rest : m < s
  pub small : q ≤ 2 ^ 27
  pub square : q * q ≤ 2 ^ 27 * q

pub lower : (h s : ℕ) → Upper h s → Lower h s ((h - s * s) * 2 ^ 26 / s) ((h - s * s) * 2 ^ 26 % s)
lower h s u =
    let x = (h - s * s) * 2 ^ 26 in
    let p : 0 < s = omega (arith, u.low) in
    let a : x ≤ s * 2 ^ 27 = omega (arith, u.left) in
    let b : x / s ≤ 2 ^ 27 = div-le_of_le-mul s a in
    record { sum = div-add-mod' x s; rest = mod-lt x p; small = b; square = mul-le-mul_right (x / s) b }

-- the lower half is one less than q
pub skips : (h s q m : ℕ) → Upper h s → Lower h s q m → m * 2 ^ 28 < q * q → Root (s * 2 ^ 27 + q - 1) (h * 2 ^ 54)
skips h s q m u l t =
    let k = s * 2 ^ 27 + q - 1 in
    let e : suc k ≡ s * 2 ^ 27 + q = omega arith in
    let f : suc k * suc k ≡ (s * 2 ^ 27 + q) * (s * 2 ^ 27 + q) = ap (λ (z : ℕ). z * z) e in
    record { under = omega arith; over = omega arith }

-- ---- the two formats

pub narrow_root : (y n R : ℕ) → n ≡ 24 → Root R (y * 2 ^ 28) → Root (R / 4) (y * 2 ^ n)
narrow_root y n R e r =
    let i : y * 2 ^ 28 ≡ 16 * (y * 2 ^ 24) = omega arith in
    rw e (quarter R (y * 2 ^ 24) (rw i at r))
