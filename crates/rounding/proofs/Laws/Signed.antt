-- A number with a sign, ±a, as a difference of two natural numbers, `pp s a` less `nn s a`: so that the order of two is one inequality, which `omega` reads.
-- Nothing here is about floats but the two tests `below` and `level`. Assumes nothing.
use Rattle.std.specs.Prelude.{◌≡◌, ℕ, ◌+◌, ◌*◌, ◌<◌, ◌≤◌, Bool, true, false, ◌||◌, T, ◌==◌, refl}
use Rattle.std.proofs.Common.{inl, inr, eq-or-lt_of_le, le_of_mul-le-mul_right, mul-le-mul_right, arith, ltb→lt, lt→ltb, eqb→eq}
use Rattle.std.specs.Float.Ieee.{below, level}
use Rattle.std.specs.Float.Ieee.Fits.{and_i, and_l, and_r, eq→eqb}
use Rattle.rounding.proofs.Laws.Basics.{or_l, or_r, or_split}

abbrev pub pp : Bool → ℕ → ℕ
pp false a = a
pp true a = 0

abbrev pub nn : Bool → ℕ → ℕ
nn false a = 0
nn true a = a

-- ±a ≤ ±b, and ±a < ±b
abbrev pub Leq : Bool → ℕ → Bool → ℕ → Type 0
Leq s a t b = pp s a + nn t b ≤ pp t b + nn s a

abbrev pub Less : Bool → ℕ → Bool → ℕ → Type 0
Less s a t b = pp s a + nn t b < pp t b + nn s a

pub below→Less : (s : Bool) (a : ℕ) (t : Bool) (b : ℕ) → T (below s a t b) → Less s a t b
below→Less false a false b h = omega (arith, ltb→lt a b h)
below→Less false a true b h = absurd h
below→Less true a false b h = omega (arith, ltb→lt 0 (a + b) h)
below→Less true a true b h = omega (arith, ltb→lt b a h)

pub Less→below : (s : Bool) (a : ℕ) (t : Bool) (b : ℕ) → Less s a t b → T (below s a t b)
Less→below false a false b h = lt→ltb a b (omega arith)
Less→below false a true b h = omega arith
Less→below true a false b h = lt→ltb 0 (a + b) (omega arith)
Less→below true a true b h = lt→ltb b a (omega arith)

pub level→eq : (s : Bool) (a : ℕ) (t : Bool) (b : ℕ) → T (level s a t b) → pp s a + nn t b ≡ pp t b + nn s a
level→eq false a false b h = omega (arith, eqb→eq a b (and_l (a == b) true h))
level→eq false a true b h = omega (arith, eqb→eq a b (and_l (a == b) (a == 0) h), eqb→eq a 0 (and_r (a == b) (a == 0) h))
level→eq true a false b h = omega (arith, eqb→eq a b (and_l (a == b) (a == 0) h), eqb→eq a 0 (and_r (a == b) (a == 0) h))
level→eq true a true b h = omega (arith, eqb→eq a b (and_l (a == b) true h))

pub eq→level : (s : Bool) (a : ℕ) (t : Bool) (b : ℕ) → pp s a + nn t b ≡ pp t b + nn s a → T (level s a t b)
eq→level false a false b h = and_i (a == b) true (eq→eqb {a = a} {b = b} (omega arith)) tt
eq→level false a true b h = and_i (a == b) (a == 0) (eq→eqb {a = a} {b = b} (omega arith)) (eq→eqb {a = a} {b = 0} (omega arith))
eq→level true a false b h = and_i (a == b) (a == 0) (eq→eqb {a = a} {b = b} (omega arith)) (eq→eqb {a = a} {b = 0} (omega arith))
eq→level true a true b h = and_i (a == b) true (eq→eqb {a = a} {b = b} (omega arith)) tt

pub Leq→le : (s : Bool) (a : ℕ) (t : Bool) (b : ℕ) → Leq s a t b → T (below s a t b || level s a t b)
Leq→le s a t b h =
    elim (eq-or-lt_of_le h) [
      | inl e ↦ or_r (below s a t b) (level s a t b) (eq→level s a t b e)
      | inr l ↦ or_l (below s a t b) (level s a t b) (Less→below s a t b l)
    ]

pub le→Leq : (s : Bool) (a : ℕ) (t : Bool) (b : ℕ) → T (below s a t b || level s a t b) → Leq s a t b
le→Leq s a t b h =
    elim (or_split (below s a t b) (level s a t b) h) [
      | inl l ↦ let k : Less s a t b = below→Less s a t b l in omega arith
      | inr e ↦ let k : pp s a + nn t b ≡ pp t b + nn s a = level→eq s a t b e in omega arith
    ]

-- ---- fractions: ±a / c ≤ ±b / d
abbrev pub Cross : Bool → ℕ → ℕ → Bool → ℕ → ℕ → Type 0
Cross s a c t b d = pp s a * d + nn t b * c ≤ pp t b * c + nn s a * d

pub scaled : (s : Bool) (a c : ℕ) (t : Bool) (b d : ℕ) → Leq s (a * d) t (b * c) → Cross s a c t b d
scaled false a c false b d h = omega arith
scaled false a c true b d h = omega arith
scaled true a c false b d h = omega arith
scaled true a c true b d h = omega arith

pub unscaled : (s : Bool) (a c : ℕ) (t : Bool) (b d : ℕ) → Cross s a c t b d → Leq s (a * d) t (b * c)
unscaled false a c false b d h = omega arith
unscaled false a c true b d h = omega arith
unscaled true a c false b d h = omega arith
unscaled true a c true b d h = omega arith

through : (p₁ n₁ d₁ p₂ n₂ d₂ p₃ n₃ d₃ : ℕ) → 0 < d₂ → p₁ * d₂ + n₂ * d₁ ≤ p₂ * d₁ + n₁ * d₂ → p₂ * d₃ + n₃ * d₂ ≤ p₃ * d₂ + n₂ * d₃ → p₁ * d₃ + n₃ * d₁ ≤ p₃ * d₁ + n₁ * d₃
through p₁ n₁ d₁ p₂ n₂ d₂ p₃ n₃ d₃ D h k =
    le_of_mul-le-mul_right (let a : (p₁ * d₂ + n₂ * d₁) * d₃ ≤ (p₂ * d₁ + n₁ * d₂) * d₃ = mul-le-mul_right d₃ h in
    let b : (p₂ * d₃ + n₃ * d₂) * d₁ ≤ (p₃ * d₂ + n₂ * d₃) * d₁ = mul-le-mul_right d₁ k in
    glue p₁ n₁ d₁ p₂ n₂ d₂ p₃ n₃ d₃ a b) D
  where
    glue : (p₁ n₁ d₁ p₂ n₂ d₂ p₃ n₃ d₃ : ℕ) → (p₁ * d₂ + n₂ * d₁) * d₃ ≤ (p₂ * d₁ + n₁ * d₂) * d₃ → (p₂ * d₃ + n₃ * d₂) * d₁ ≤ (p₃ * d₂ + n₂ * d₃) * d₁
        → (p₁ * d₃ + n₃ * d₁) * d₂ ≤ (p₃ * d₁ + n₁ * d₃) * d₂
    glue p₁ n₁ d₁ p₂ n₂ d₂ p₃ n₃ d₃ a b = omega arith

pub cross_trans : (s : Bool) (a c : ℕ) (t : Bool) (b d : ℕ) (u : Bool) (g e : ℕ) → 0 < d → Cross s a c t b d → Cross t b d u g e → Cross s a c u g e
cross_trans s a c t b d u g e D h k = through (pp s a) (nn s a) c (pp t b) (nn t b) d (pp u g) (nn u g) e D h k

pub pp_mul : (s : Bool) (a k : ℕ) → pp s (a * k) ≡ pp s a * k
pp_mul false a k = refl
pp_mul true a k = omega arith

pub nn_mul : (s : Bool) (a k : ℕ) → nn s (a * k) ≡ nn s a * k
nn_mul true a k = refl
nn_mul false a k = omega arith

-- both multiplied by g / k
pub cross_mul : (s : Bool) (a c : ℕ) (t : Bool) (b d g k : ℕ) → Cross s a c t b d → Cross s (a * g) (k * c) t (b * g) (k * d)
cross_mul s a c t b d g k h = simp (pp_mul, nn_mul) (glue (pp s a) (nn s a) (pp t b) (nn t b) c d g k h)
  where
    glue : (p n p' n' c c' g k : ℕ) → p * c' + n' * c ≤ p' * c + n * c' → p * g * (k * c') + n' * g * (k * c) ≤ p' * g * (k * c) + n * g * (k * c')
    glue p n p' n' c c' g k h = let x : (p * c' + n' * c) * (g * k) ≤ (p' * c + n * c') * (g * k) = mul-le-mul_right (g * k) h in omega arith
