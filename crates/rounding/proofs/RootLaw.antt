-- The root that `root_of` works out is the rounded root of the specification, whatever the format. Assumes nothing.
use Rattle.std.proofs.Common.{◌≡◌, ℕ, zero, suc, ◌+◌, ◌-◌, ◌*◌, ◌/◌, ◌%◌, ◌^◌, ◌<◌, ◌≤◌, Bool, true, false, T, eqb, sym, refl, ap, ◌∙◌, subst, inr, le_trans, le_of_eq, lt_of_lt_of_le, le_of_lt, lt_irrefl, mul-le-mul_right, zero-lt-suc, div-lt_iff_lt-mul, mul-lt-mul_of_pos_right, mul-pos, lt_of_not-le, le-div_iff_mul-le, zero-add, mul-div_cancel, arith, eqb→eq, pow_pos, pow_mono, pow-add}
use Prim.Native.Nat.{compare, Ordering}
use native.Mathlib.Nat.{pow-succ', eq_of_mul-eq-mul_right}
use lib.Arith.{digits_div, digits_mod}
use lib.Ieee.{Float, Format, prec, emax, low, size, nearest, round, of_bits, to_bits, hid, ones}
use lib.Ieee.Fits.{two, round-fits}
use lib.Ieee.Bits.{of_bits-to_bits}
use lib.Ieee.Exact.{HasValue}
use lib.Ieee.Nearest.{closest, closest_same, div_same}
use lib.Ieee.Order.{drop}
use lib.Ieee.Scale.{grid, overflow, round_val}
use Rattle.rounding.specs.Root.{isqrt, root_of}
use Rattle.rounding.specs.Steps.{Root, Rooted}
use Rattle.rounding.proofs.Pattern.{twice, size_at, bits_of}
use Rattle.rounding.proofs.Laws.Isqrt.{sq_lt, isqrt_root}
use Rattle.rounding.proofs.Laws.Nearest.{Cmp, cmp}
use Rattle.rounding.proofs.Laws.RootNearest.{over, over_le, root_of_is, four}

-- ---- the root of M * P * P is between R * P and (R + 1) * P, for the root R of M

above : (M P R r : ℕ) → Root R M → Root r (M * (P * P)) → R * P ≤ r
above M P R r h k =
    let a : R * R * (P * P) ≤ M * (P * P) = mul-le-mul_right (P * P) h.under in
    let b : R * P * (R * P) < suc r * suc r = omega (arith, k.over) in
    let c : R * P < suc r = sq_lt (R * P) (suc r) b in
    omega arith

below : (M P R r : ℕ) → 0 < P → Root R M → Root r (M * (P * P)) → r < suc R * P
below M P R r p h k =
    let a : M * (P * P) < suc R * suc R * (P * P) = mul-lt-mul_of_pos_right h.over (mul-pos p p) in
    let b : r * r < suc R * P * (suc R * P) = omega (arith, k.under) in
    sq_lt r (suc R * P) b

-- ---- rounding A / (4 * P) where A is 2 * R * P and a little more

down_to : (q x u : ℕ) (o : Ordering) → Cmp o x u → x < u → nearest q o ≡ q
down_to q x u Ordering.lt c h = refl
down_to q x u Ordering.eq c h = absurd (lt_irrefl u (subst (λ (z : ℕ). z < u) c h))
down_to q x u Ordering.gt c h = let z : suc u ≤ u = omega arith in absurd (lt_irrefl u z)

up_to : (q x u : ℕ) (o : Ordering) → Cmp o x u → u < x → nearest q o ≡ suc q
up_to q x u Ordering.lt c h = let z : suc u ≤ u = omega arith in absurd (lt_irrefl u z)
up_to q x u Ordering.eq c h = absurd (lt_irrefl u (subst (λ (z : ℕ). u < z) c h))
up_to q x u Ordering.gt c h = refl

closest_at : (A q u v : ℕ) → A ≡ q * u + v → v < u → closest A u ≡ nearest q (compare (v * 2) u)
closest_at A q u v e h =
    ap (λ (a : ℕ). closest a u) e
    ∙ ap (λ (a : ℕ). nearest a (compare ((q * u + v) % u * 2) u)) (digits_div q h)
    ∙ ap (λ (a : ℕ). nearest q (compare (a * 2) u)) (digits_mod q h)

half_up : (A P R : ℕ) → 0 < P → 2 * (R * P) ≤ A → A < 2 * (suc R * P) → (R % 2 ≡ 1 → 2 * (R * P) < A) → closest A (4 * P) ≡ (R + 1) / 2
half_up A P R p lo hi odd = go (R % 2) refl odd
  where
    go : (b : ℕ) → R % 2 ≡ b → (b ≡ 1 → 2 * (R * P) < A) → closest A (4 * P) ≡ (R + 1) / 2
    go zero e o =
        let q = R / 2 in
        let r : R ≡ 2 * q = omega arith in
        let t : R * P ≡ 2 * q * P = ap (λ (x : ℕ). x * P) r in
        let v = A - 2 * (R * P) in
        let w : v * 2 < 4 * P = omega arith in
        closest_at A q (4 * P) v (omega arith) (omega arith) ∙ down_to q (v * 2) (4 * P) (compare (v * 2) (4 * P)) (cmp (v * 2) (4 * P)) w ∙ omega arith
    go (suc b) e o =
        let q = R / 2 in
        let r : R ≡ 2 * q + 1 = omega arith in
        let t : R * P ≡ (2 * q + 1) * P = ap (λ (x : ℕ). x * P) r in
        let s : 2 * (R * P) < A = o (omega arith) in
        let v = A - 4 * (q * P) in
        let w : 4 * P < v * 2 = omega arith in
        closest_at A q (4 * P) v (omega arith) (omega arith) ∙ up_to q (v * 2) (4 * P) (compare (v * 2) (4 * P)) (cmp (v * 2) (4 * P)) w ∙ omega arith

-- ---- the rounded root

exact : (a b : ℕ) → over (eqb a b) ≡ 0 → a ≡ b
exact a b h = go (eqb a b) (eqb→eq a b) h
  where
    go : (t : Bool) → (T t → a ≡ b) → over t ≡ 0 → a ≡ b
    go true k e = k tt
    go false k e = absurd (lt_irrefl 0 (subst (λ (x : ℕ). 0 < x) e (zero-lt-suc 0)))

-- ---- the root R of y * W, in its place: W is 2 ^ prec, and y is even, at least W and below 4 * W

root_ge : (y W R : ℕ) → W ≤ y → Root R (y * W) → W ≤ R
root_ge y W R h r =
    let a : W * W ≤ y * W = mul-le-mul_right W h in
    let b : W < suc R = sq_lt W (suc R) (omega (arith, r.over)) in
    omega arith

pub root_le : (y W R : ℕ) → y + 4 ≤ 4 * W → Root R (y * W) → R + 1 < 2 * W
root_le y W R h r =
    let w = W - 1 in
    let e : W ≡ suc w = omega arith in
    let k : y ≤ 4 * w = omega arith in
    let a : y * W ≤ 4 * w * suc w = subst (λ (x : ℕ). y * x ≤ 4 * w * suc w) (sym e) (mul-le-mul_right (suc w) k) in
    let b : R < 2 * w + 1 = sq_lt R (2 * w + 1) (omega (arith, r.under)) in
    omega arith

-- an odd number's square is no even number
odd_square : (R v W : ℕ) → R % 2 ≡ 1 → R * R ≡ 2 * v * W → ⊥
odd_square R v W o e =
    let q = R / 2 in
    let r : R ≡ 2 * q + 1 = omega arith in
    let s : R * R ≡ (2 * q + 1) * (2 * q + 1) = ap (λ (x : ℕ). x * x) r in
    let t : 2 * (2 * (q * q) + 2 * q) + 1 ≡ 2 * (v * W) = omega arith in
    no (2 * (q * q) + 2 * q) (v * W) t
  where
    no : (a b : ℕ) → 2 * a + 1 ≡ 2 * b → ⊥
    no a b h = omega arith

cancel : (a b c : ℕ) → 0 < c → a * c ≡ b * c → a ≡ b
cancel a b c p h = eq_of_mul-eq-mul_right c p a b h

-- n smallest values, that is y * W * P * P quarters of one, squared
module _ (f : Format) (n v h R : ℕ)
    (scale : n * (4 * 2 ^ low f) ≡ 2 * v * 2 ^ prec f * (2 ^ h * 2 ^ h))
    (lo : 2 ^ prec f ≤ 2 * v)
    (hi : 2 * v + 4 ≤ 4 * 2 ^ prec f)
    (root : Root R (2 * v * 2 ^ prec f))
    (reaches : h + 2 ≤ ones f) where
  whole : n * 4 ^ suc (low f) ≡ 2 * v * 2 ^ prec f * (2 ^ h * 2 ^ h) * 2 ^ low f
  whole =
      let a : 4 ^ suc (low f) ≡ 4 * (2 ^ low f * 2 ^ low f) = pow-succ' 4 (low f) ∙ ap (λ (x : ℕ). 4 * x) (four (low f)) in
      let b = ap (λ (x : ℕ). n * x) a in
      let c = ap (λ (x : ℕ). x * 2 ^ low f) scale in
      omega arith

  radicand : n * 4 ^ suc (low f) / 2 ^ low f ≡ 2 * v * 2 ^ prec f * (2 ^ h * 2 ^ h)
  radicand = ap (λ (x : ℕ). x / 2 ^ low f) whole ∙ mul-div_cancel (2 * v * 2 ^ prec f * (2 ^ h * 2 ^ h)) (pow_pos (low f))

  -- for the whole root r, and what is left over
  module _ (r : ℕ) (is : Root r (2 * v * 2 ^ prec f * (2 ^ h * 2 ^ h))) (s : ℕ) (few : s ≤ 1) (none : s ≡ 0 → r * r ≡ 2 * v * 2 ^ prec f * (2 ^ h * 2 ^ h)) where
    A : ℕ
    A = 2 * r + s

    no_tie : R % 2 ≡ 1 → 2 * (R * 2 ^ h) < A
    unfolding A
    no_tie o = lt_of_not-le (λ (g : A ≤ 2 * (R * 2 ^ h)).
        let a : R * 2 ^ h ≤ r = above (2 * v * 2 ^ prec f) (2 ^ h) R r root is in
        let z : s ≡ 0 = omega arith in
        let e : r ≡ R * 2 ^ h = omega arith in
        let k : R * 2 ^ h * (R * 2 ^ h) ≡ 2 * v * 2 ^ prec f * (2 ^ h * 2 ^ h) = subst (λ (x : ℕ). x * x ≡ 2 * v * 2 ^ prec f * (2 ^ h * 2 ^ h)) e (none z) in
        let t : R * R * (2 ^ h * 2 ^ h) ≡ 2 * v * 2 ^ prec f * (2 ^ h * 2 ^ h) = omega arith in
        odd_square R v (2 ^ prec f) o (cancel (R * R) (2 * v * 2 ^ prec f) (2 ^ h * 2 ^ h) (mul-pos (pow_pos h) (pow_pos h)) t))

    rounds : closest A (4 * 2 ^ h) ≡ (R + 1) / 2
    unfolding A
    rounds =
        let a : R * 2 ^ h ≤ r = above (2 * v * 2 ^ prec f) (2 ^ h) R r root is in
        let b : r < suc R * 2 ^ h = below (2 * v * 2 ^ prec f) (2 ^ h) R r (pow_pos h) root is in
        half_up A (2 ^ h) R (pow_pos h) (omega arith) (omega arith) no_tie

    den : ℕ
    den = 2 * 2 ^ suc (low f)

    den_is : den ≡ 4 * 2 ^ low f
    unfolding den
    den_is = let a = pow-succ' 2 (low f) in omega arith

    den_pos : 0 < den
    den_pos = subst (λ (x : ℕ). 0 < x) (sym den_is) (mul-pos (zero-lt-suc 3) (pow_pos (low f)))

    -- the whole smallest values in the root
    units_is : A * 2 ^ low f / den ≡ A / 4
    units_is = div_same (A * 2 ^ low f) den A 4 den_pos (zero-lt-suc 3) (let a = ap (λ (x : ℕ). A * x) den_is in omega arith)

    dropped : drop (prec f) (A * 2 ^ low f) den ≡ h
    unfolding A
    dropped =
        let P = 2 ^ h in
        let W = 2 ^ prec f in
        let a : R * P ≤ r = above (2 * v * W) P R r root is in
        let b : r < suc R * P = below (2 * v * W) P R r (pow_pos h) root is in
        let w : W ≡ 2 * hid f = twice (prec f) (two f) in
        let c : W * P ≤ R * P = mul-le-mul_right P (root_ge (2 * v) W R lo root) in
        let d : (R + 1) * P ≤ 2 * W * P = mul-le-mul_right P (le_of_lt (root_le (2 * v) W R hi root)) in
        let k : W * P ≡ 2 * hid f * P = ap (λ (x : ℕ). x * P) w in
        ap (λ (x : ℕ). size x - prec f) units_is
        ∙ size_at (prec f) h (A / 4) (two f)
        ((le-div_iff_mul-le (zero-lt-suc 3)).1 (omega arith))
        ((div-lt_iff_lt-mul (zero-lt-suc 3)).1 (omega arith))

    grid_is : grid f A den ≡ (R + 1) / 2 * 2 ^ h
    grid_is =
        ap (λ (j : ℕ). closest (A * 2 ^ low f) (den * 2 ^ j) * 2 ^ j) dropped
        ∙ ap (λ (x : ℕ). x * 2 ^ h)
        (closest_same (A * 2 ^ low f) (den * 2 ^ h) A (4 * 2 ^ h) (mul-pos den_pos (pow_pos h)) (mul-pos (zero-lt-suc 3) (pow_pos h)) (let a = ap (λ (x : ℕ). A * (x * 2 ^ h)) den_is in omega arith)
        ∙ rounds)

    fine : (R + 1) / 2 * 2 ^ h < overflow f
    fine =
        let q : (R + 1) / 2 < 2 ^ prec f = (let a = root_le (2 * v) (2 ^ prec f) R hi root in omega arith) in
        let t = two f in
        let e : prec f + h ≤ low f + suc (emax f) = omega arith in
        lt_of_lt_of_le (mul-lt-mul_of_pos_right q (pow_pos h)) (le_trans (le_of_eq (sym (pow-add 2 (prec f) h))) (pow_mono e))

    rounded : Rooted f (round f false A den) (h * hid f + (R + 1) / 2)
    rounded =
        let w : 2 ^ prec f ≡ 2 * hid f = twice (prec f) (two f) in
        let a = root_ge (2 * v) (2 ^ prec f) R lo root in
        let b = root_le (2 * v) (2 ^ prec f) R hi root in
        let q : (R + 1) / 2 < 2 ^ prec f = omega arith in
        let g : hid f ≤ (R + 1) / 2 = omega arith in
        let val : HasValue (round f false A den) false ((R + 1) / 2 * 2 ^ h) (2 ^ low f) =
        subst (λ (x : ℕ). HasValue (round f false A den) false x (2 ^ low f)) grid_is (round_val f A den (subst (λ (x : ℕ). x < overflow f) (sym grid_is) fine)) in
        let e : to_bits f (round f false A den) ≡ h * hid f + (R + 1) / 2 = bits_of f false (round f false A den) ((R + 1) / 2) h val (inr g) (le_of_lt q) ∙ zero-add (h * hid f + (R + 1) / 2) in
        let m : (h + 2) * hid f ≤ ones f * hid f = mul-le-mul_right (hid f) reaches in
        record {
          value = subst (λ (x : ℕ). of_bits f x ≡ round f false A den) e (of_bits-to_bits f (round f false A den) (round-fits f false A den));
          finite = omega arith;
        }

  pub law : Rooted f (root_of f n (2 ^ low f)) (h * hid f + (R + 1) / 2)
  unfolding A den
  law =
      let N = n * 4 ^ suc (low f) / 2 ^ low f in
      let r = isqrt N in
      let t = eqb (r * r * 2 ^ low f) (n * 4 ^ suc (low f)) in
      let is : Root r (2 * v * 2 ^ prec f * (2 ^ h * 2 ^ h)) = subst (λ (x : ℕ). Root r x) radicand (isqrt_root N) in
      let none : over t ≡ 0 → r * r ≡ 2 * v * 2 ^ prec f * (2 ^ h * 2 ^ h) = λ z. cancel (r * r) (2 * v * 2 ^ prec f * (2 ^ h * 2 ^ h))
      (2 ^ low f) (pow_pos (low f)) (exact (r * r * 2 ^ low f) (n * 4 ^ suc (low f)) z ∙ whole) in
      subst (λ (x : Float). Rooted f x (h * hid f + (R + 1) / 2))
      (sym (root_of_is f n (2 ^ low f)))
      (rounded r is (over t) (over_le t) none)
