-- `round` gives the format's nearest value: no number that the format holds is nearer to a / c (`round_nearest_value`, which holds so of every operation that rounds).
-- In units of the format's smallest value, the result is g and any other such number is u, and their middle, (g + u) / 2, lies on u's side of a / c or on it
-- (`round_nearest`). Assumes nothing.
use Rattle.std.specs.Prelude.{◌≡◌, ℕ, zero, suc, ◌+◌, ◌-◌, ◌*◌, ◌/◌, ◌%◌, ◌^◌, ◌<◌, ◌≤◌, Bool, true, false, not, T, ◌⊎◌, ℤ, ◌==◌, nat_le, Float}
use Rattle.std.proofs.Common.{sym, ap, ◌∙◌, subst, inl, inr, le_trans, le_of_eq, lt_of_lt_of_le, mul-le-mul_right, mul-lt-mul_of_pos_right, mul-pos, mul_assoc, mul_right_comm, le-div_iff_mul-le, div-add-mod', mod-lt, eq-or-lt_of_le, lt_of_mul-lt-mul_right, le_of_mul-le-mul_right, arith, leb→le, eqb→eq, pow-add, pow_pos, pow_mono}
use Prim.Native.Nat.{compare, Ordering}
use Rattle.std.proofs.Math.Dec.{is_le, compare_is_eq, nleb→lt, eqb_refl}
use Rattle.std.proofs.Math.Arith.{lt_of_le-ne}
use Rattle.std.specs.Float.{nan, inf, fin, Format}
use Rattle.std.specs.Float.Ieee.{prec, low, up, down, size, nearest, round, fits}
use Rattle.std.specs.Float.Ieee.Digits.{size_reaches}
use Rattle.std.specs.Float.Ieee.Fits.{two, down_pos}
use Rattle.std.specs.Float.Ieee.Nearest.{closest, nearest-ge}
use Rattle.std.specs.Float.Ieee.Order.{drop}
use Rattle.std.specs.Float.Ieee.Scale.{grid, finite, round_val, round_under}
use Rattle.std.specs.Float.Ieee.Positive.{num, den, den_pos, value→cross}
use Rattle.rounding.proofs.Laws.Representable.{held}
use Rattle.rounding.proofs.Laws.Rounding.{minus_of, round_minus}

-- ---- what `compare` says
abbrev pub Cmp : Ordering → ℕ → ℕ → Type 0
Cmp Ordering.lt a b = a < b
Cmp Ordering.eq a b = a ≡ b
Cmp Ordering.gt a b = b < a

pub cmp : (a b : ℕ) → Cmp (compare a b) a b
cmp a b = go (compare a b) (leb→le a b) (nleb→lt a b) (eqb→eq a b) (λ (e : a ≡ b). subst (λ (x : ℕ). T (a == x)) e (eqb_refl a))
  where
    go : (o : Ordering) → (T (is_le o) → a ≤ b) → (T (not (is_le o)) → b < a) → (T (compare_is_eq o) → a ≡ b) → (a ≡ b → T (compare_is_eq o)) → Cmp o a b
    go Ordering.lt h k e n = lt_of_le-ne (h tt) n
    go Ordering.eq h k e n = e tt
    go Ordering.gt h k e n = k tt

-- ---- c * U is within U / 2 of n
pub record Within (n U c : ℕ) : Type 0 where
  pub above : 2 * (c * U) ≤ 2 * n + U
  pub below : 2 * n ≤ 2 * (c * U) + U

near : (n U w r : ℕ) (o : Ordering) → w * U + r ≡ n → r < U → Cmp o (r * 2) U → Within n U (nearest w o)
near n U w r Ordering.lt e h c = record { above = omega arith; below = omega arith }
near n U w r Ordering.eq e h c = go (w % 2) (omega arith)
  where
    go : (b : ℕ) → b ≤ 1 → Within n U (w + b)
    go zero k = record { above = omega arith; below = omega arith }
    go (suc zero) k = record { above = omega arith; below = omega arith }
    go (suc (suc b)) k = absurd (omega arith)
near n U w r Ordering.gt e h c = record { above = omega arith; below = omega arith }

pub closest_within : (n U : ℕ) → 0 < U → Within n U (closest n U)
closest_within n U h = near n U (n / U) (n % U) (compare (n % U * 2) U) (div-add-mod' n U) (mod-lt n h) (cmp (n % U * 2) U)

-- ---- g is no farther from n / d than u is
pub record NoNearer (n d g u : ℕ) : Type 0 where
  pub below : u < g → (g + u) * d ≤ 2 * n
  pub above : g < u → 2 * n ≤ (g + u) * d

-- among the multiples of P
multiples : (n d P c i : ℕ) → Within n (d * P) c → 0 < P → NoNearer n d (c * P) (i * P)
multiples n d P c i w p = record {
  below = λ h.
      let k : i < c = small i c P h in
      let m : (i + 1) * (d * P) ≤ c * (d * P) = mul-le-mul_right (d * P) (omega arith) in
      omega (arith, w.above);
  above = λ h.
      let k : c < i = small c i P h in
      let m : (c + 1) * (d * P) ≤ i * (d * P) = mul-le-mul_right (d * P) (omega arith) in
      omega (arith, w.below);
}
  where
    small : (a b P : ℕ) → a * P < b * P → a < b
    small a b P h = lt_of_mul-lt-mul_right P h

-- a number with fewer digits, below all of those that are kept
finer : (n d P c H u : ℕ) → Within n (d * P) c → 0 < P → u < H * P → H ≤ c → H * P * d ≤ n → NoNearer n d (c * P) u
finer n d P c H u w p h k m = record {
  below = λ l. go (eq-or-lt_of_le k);
  above = λ l. let x = mul-le-mul_right P k in absurd (omega arith);
}
  where
    go : (H ≡ c) ⊎ (H < c) → (c * P + u) * d ≤ 2 * n
    go (inl e) =
        let a : (c * P + u) * d ≤ (H * P + H * P) * d = mul-le-mul_right d (let x = ap (λ (y : ℕ). y * P) e in omega arith) in
        omega arith
    go (inr l) =
        let a : (c * P + u) * d ≤ (c * P + H * P) * d = mul-le-mul_right d (omega arith) in
        let b : (H + 1) * (d * P) ≤ c * (d * P) = mul-le-mul_right (d * P) (omega arith) in
        omega (arith, w.above)

back : (j k : ℕ) → k ≤ j → j - k + k ≡ j
back j k h = omega arith

-- q * 2 ^ j stands for any number that the format holds
pub round_nearest : (f : Format) (a c q j : ℕ) → 0 < c → q < 2 ^ prec f → NoNearer (a * 2 ^ low f) c (grid f a c) (q * 2 ^ j)
round_nearest f a c q j C Q = go (nat_le k j) (leb→le k j) (nleb→lt k j)
  where
    n : ℕ
    n = a * 2 ^ low f

    k : ℕ
    k = drop (prec f) n c

    w : Within n (c * 2 ^ k) (closest n (c * 2 ^ k))
    w = closest_within n (c * 2 ^ k) (mul-pos C (pow_pos k))

    go : (b : Bool) → (T b → k ≤ j) → (T (not b) → j < k) → NoNearer n c (closest n (c * 2 ^ k) * 2 ^ k) (q * 2 ^ j)
    go true h l =
        let e : q * 2 ^ (j - k) * 2 ^ k ≡ q * 2 ^ j = mul_assoc q (2 ^ (j - k)) (2 ^ k) ∙ ap (λ (x : ℕ). q * x) (sym (pow-add 2 (j - k) k) ∙ ap (λ (x : ℕ). 2 ^ x) (back j k (h tt))) in
        subst (λ (x : ℕ). NoNearer n c (closest n (c * 2 ^ k) * 2 ^ k) x) e (multiples n c (2 ^ k) (closest n (c * 2 ^ k)) (q * 2 ^ (j - k)) w (pow_pos k))
    go false h l =
        let p = prec f in
        let H = 2 ^ (p - 1) in
        let P = two f in
        let jk : j < k = l tt in
        let x : p + j ≤ p - 1 + k = omega arith in
        let lo : q * 2 ^ j < H * 2 ^ k = lt_of_lt_of_le (mul-lt-mul_of_pos_right Q (pow_pos j)) (le_trans (le_of_eq (sym (pow-add 2 p j))) (le_trans (pow_mono x) (le_of_eq (pow-add 2 (p - 1) k)))) in
        let y : p - 1 + k < size (n / c) = omega arith in
        let m : H * 2 ^ k * c ≤ n = (le-div_iff_mul-le C).0 (le_trans (le_of_eq (sym (pow-add 2 (p - 1) k))) (size_reaches (n / c) (p - 1 + k) y)) in
        let z : H ≤ n / (c * 2 ^ k) = (le-div_iff_mul-le (mul-pos C (pow_pos k))).1 (le_trans (le_of_eq (sym (mul_assoc H c (2 ^ k)) ∙ mul_right_comm H c (2 ^ k))) m) in
        finer n c (2 ^ k) (closest n (c * 2 ^ k)) H (q * 2 ^ j) w (pow_pos k) lo (le_trans z (nearest-ge (n / (c * 2 ^ k)) (compare (n % (c * 2 ^ k) * 2) (c * 2 ^ k)))) m

-- ---- the same with no scaling in it

-- v is no farther from a / c than w is, in size: the middle of the two, (v + w) / 2, is on w's side of a / c or on it. Each of v and w is num / den.
pub record NoFartherFrom (a c : ℕ) (v w : Float) : Type 0 where
  pub below : num w * den v < num v * den w → (num v * den w + num w * den v) * c ≤ 2 * (den v * den w) * a
  pub above : num v * den w < num w * den v → 2 * (den v * den w) * a ≤ (num v * den w + num w * den v) * c

-- num and den of v and w in units of 1 / l
pub sum_is : (nv dv nw dw g u l : ℕ) → nv * l ≡ g * dv → nw * l ≡ u * dw → (nv * dw + nw * dv) * l ≡ (g + u) * (dv * dw)
sum_is nv dv nw dw g u l p q = let a = ap (λ (x : ℕ). x * dw) p in let b = ap (λ (x : ℕ). x * dv) q in omega arith

pub order : (nv dv nw dw g u l : ℕ) → 0 < dv → 0 < dw → 0 < l → nv * l ≡ g * dv → nw * l ≡ u * dw → nw * dv < nv * dw → u < g
order nv dv nw dw g u l X W L p q h =
    let a : nw * dv * l < nv * dw * l = mul-lt-mul_of_pos_right h L in
    let b = ap (λ (x : ℕ). x * dw) p in
    let c = ap (λ (x : ℕ). x * dv) q in
    let d : u * (dv * dw) < g * (dv * dw) = omega arith in
    lt_of_mul-lt-mul_right (dv * dw) d

middle_below : (S M D l a c : ℕ) → 0 < l → S * l ≡ M * D → M * c ≤ 2 * (a * l) → S * c ≤ 2 * D * a
middle_below S M D l a c L e h =
    let x : M * c * D ≤ 2 * (a * l) * D = mul-le-mul_right D h in
    let y = ap (λ (z : ℕ). z * c) e in
    let z : S * c * l ≤ 2 * D * a * l = omega arith in
    le_of_mul-le-mul_right z L

middle_above : (S M D l a c : ℕ) → 0 < l → S * l ≡ M * D → 2 * (a * l) ≤ M * c → 2 * D * a ≤ S * c
middle_above S M D l a c L e h =
    let x : 2 * (a * l) * D ≤ M * c * D = mul-le-mul_right D h in
    let y = ap (λ (z : ℕ). z * c) e in
    let z : 2 * D * a * l ≤ S * c * l = omega arith in
    le_of_mul-le-mul_right z L

by_units : (a c g l : ℕ) (v : Float) (s : Bool) (n : ℕ) (k : ℤ) (u : ℕ) → 0 < l → num v * l ≡ g * den v → n * up k * l ≡ u * down k → NoNearer (a * l) c g u → NoFartherFrom a c v (fin s n k)
by_units a c g l v s n k u L gv uv near =
    let S = sum_is (num v) (den v) (n * up k) (down k) g u l gv uv in
    record {
      below = λ o. middle_below (num v * down k + n * up k * den v) (g + u) (den v * down k) l a c L S (near.below (order (num v) (den v) (n * up k) (down k) g u l (den_pos v) (down_pos k) L gv uv o));
      above = λ o. middle_above (num v * down k + n * up k * den v) (g + u) (den v * down k) l a c L S (near.above (order (n * up k) (down k) (num v) (den v) u g l (down_pos k) (den_pos v) L uv gv o));
    }

-- a sign changes no size
minus_cross : (v : Float) (g l : ℕ) → num v * l ≡ g * den v → num (minus_of v) * l ≡ g * den (minus_of v)
minus_cross nan g l e = e
minus_cross (inf s) g l e = e
minus_cross (fin s m k) g l e = e

plus_finite : (v : Float) → T (finite (minus_of v)) → T (finite v)
plus_finite nan h = h
plus_finite (inf s) h = h
plus_finite (fin s m e) h = tt

round_cross : (f : Format) (a c : ℕ) → T (finite (round f false a c)) → num (round f false a c) * 2 ^ low f ≡ grid f a c * den (round f false a c)
round_cross f a c t = value→cross (round f false a c) (grid f a c) (2 ^ low f) (round_val f a c (round_under f a c t))

signed_cross : (f : Format) (s : Bool) (a c : ℕ) → T (finite (round f s a c)) → num (round f s a c) * 2 ^ low f ≡ grid f a c * den (round f s a c)
signed_cross f false a c t = round_cross f a c t
signed_cross f true a c t =
    let e = round_minus f a c in
    rw e (minus_cross (round f false a c) (grid f a c) (2 ^ low f) (round_cross f a c (plus_finite (round f false a c) (rw e at t))))

-- `fin s n k` stands for any number of that sign, zero included, that the format holds. One of the other sign is farther from ±a / c than zero is.
pub round_nearest_value : (f : Format) (s : Bool) (a c n : ℕ) (k : ℤ) → 0 < c → T (finite (round f s a c)) → T (fits f (fin s n k)) → NoFartherFrom a c (round f s a c) (fin s n k)
round_nearest_value f s a c n k C t h =
    let u = held f s n k h in
    by_units a c (grid f a c) (2 ^ low f) (round f s a c) s n k (u.q * 2 ^ u.j) (pow_pos (low f)) (signed_cross f s a c t) u.value (round_nearest f a c u.q u.j C u.short)
