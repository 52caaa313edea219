-- Rounding goes to the nearest whole number, a half away from zero (`round_of_nearest`): no whole number, in the format or out of it, is nearer to x, and of two that are
-- equally near it is the one farther from zero. Assumes nothing.
use Rattle.std.specs.Prelude.{◌≡◌, ℕ, suc, ◌+◌, ◌-◌, ◌*◌, ◌/◌, ◌%◌, ◌<◌, ◌≤◌, Bool, true, false, not, T, ℤ, nat_le, Float}
use Rattle.std.proofs.Common.{sym, ap, ◌∙◌, mul-pos, mul-le-mul_right, div-add-mod', mod-lt, arith, leb→le}
use Rattle.std.proofs.Math.Nat.{eq_of_mul-eq-mul_right}
use Rattle.std.proofs.Math.Dec.{nleb→lt}
use Rattle.std.specs.Float.{nan, inf, fin, Format}
use Rattle.std.specs.Float.Ieee.{up, down, fits}
use Rattle.std.specs.Float.Ieee.Fits.{down_pos}
use Rattle.std.specs.Float.Ieee.Exact.{HasValue}
use Rattle.std.specs.Float.Ieee.Positive.{num, den}
use Rattle.std.specs.Float.Ieee.Scale.{finite}
use Rattle.rounding.specs.declared.whole.Way.TheVariants.{HalfAway}
use Rattle.rounding.specs.Whole.{one_if, ways, round_of}
use Rattle.rounding.proofs.Laws.Whole.{whole_size, whole_value}

-- how far ±a and ±b lie apart
abbrev pub between : Bool → ℕ → Bool → ℕ → ℕ
between false a false b = a - b + (b - a)
between false a true b = a + b
between true a false b = a + b
between true a true b = a - b + (b - a)

abbrev pub negative : Float → Bool
negative nan = false
negative (inf s) = s
negative (fin s m e) = s

-- x and y, both finite, lie `apart x y / (den x * den y)` apart
abbrev pub apart : Float → Float → ℕ
apart x y = between (negative x) (num x * den y) (negative y) (num y * den x)

-- r lies no farther from x than y does, and of two that are equally near r is no nearer to zero
pub record Nearer (x r y : Float) : Type 0 where
  pub near : apart x r * den y ≤ apart x y * den r
  pub tie : apart x r * den y ≡ apart x y * den r → num y * den r ≤ num r * den y

-- ---- the sizes alone: a is q * c + r, and goes to q or to one more
abbrev gap : ℕ → ℕ → ℕ
gap a b = a - b + (b - a)

-- no multiple of c is nearer to a than K * c is, nor is any beyond zero, and none that is as near is larger
record NearerSize (a c K k : ℕ) : Type 0 where
  like : gap a (K * c) ≤ gap a (k * c)
  unlike : gap a (K * c) ≤ a + k * c
  like_tie : gap a (K * c) ≡ gap a (k * c) → k ≤ K
  unlike_tie : gap a (K * c) ≡ a + k * c → k ≤ K

not_past : (k K c : ℕ) → (suc K * c ≤ k * c → ⊥) → k ≤ K
not_past k K c h = go (nat_le k K) (leb→le k K) (nleb→lt k K)
  where
    go : (b : Bool) → (T b → k ≤ K) → (T (not b) → K < k) → k ≤ K
    go true y n = y tt
    go false y n = absurd (h (mul-le-mul_right c (n tt)))

down_near : (a c q r k : ℕ) → q * c + r ≡ a → 2 * r < c → NearerSize a c (q + 0) k
down_near a c q r k e h = record {
  like = go (nat_le k q) (leb→le k q) (nleb→lt k q);
  unlike = omega arith;
  like_tie = λ i. not_past k (q + 0) c (λ z. omega arith);
  unlike_tie = λ i. not_past k (q + 0) c (λ z. omega arith);
}
  where
    go : (b : Bool) → (T b → k ≤ q) → (T (not b) → q < k) → gap a ((q + 0) * c) ≤ gap a (k * c)
    go true y n = let m : k * c ≤ q * c = mul-le-mul_right c (y tt) in omega arith
    go false y n = let m : suc q * c ≤ k * c = mul-le-mul_right c (n tt) in omega arith

up_near : (a c q r k : ℕ) → q * c + r ≡ a → r < c → c ≤ 2 * r → NearerSize a c (q + 1) k
up_near a c q r k e l h = record {
  like = go (nat_le k q) (leb→le k q) (nleb→lt k q);
  unlike = omega arith;
  like_tie = λ i. not_past k (q + 1) c (λ z. omega arith);
  unlike_tie = λ i. not_past k (q + 1) c (λ z. omega arith);
}
  where
    go : (b : Bool) → (T b → k ≤ q) → (T (not b) → q < k) → gap a ((q + 1) * c) ≤ gap a (k * c)
    go true y n = let m : k * c ≤ q * c = mul-le-mul_right c (y tt) in omega arith
    go false y n = let m : suc q * c ≤ k * c = mul-le-mul_right c (n tt) in omega arith

half_near : (a c k : ℕ) → 0 < c → NearerSize a c (whole_size HalfAway a c) k
half_near a c k C = go (nat_le c (2 * (a % c))) (leb→le c (2 * (a % c))) (nleb→lt c (2 * (a % c)))
  where
    go : (b : Bool) → (T b → c ≤ 2 * (a % c)) → (T (not b) → 2 * (a % c) < c) → NearerSize a c (a / c + one_if b) k
    go true y n = up_near a c (a / c) (a % c) k (div-add-mod' a c) (mod-lt a C) (y tt)
    go false y n = down_near a c (a / c) (a % c) k (div-add-mod' a c) (n tt)

-- ---- with the signs, and over any denominators
gap_mul : (a b g : ℕ) → gap (a * g) (b * g) ≡ gap a b * g
gap_mul a b g = go (nat_le a b) (leb→le a b) (nleb→lt a b)
  where
    split : (a d g B : ℕ) → (a + d) * g ≡ B → gap (a * g) B ≡ d * g
    split a d g B h = omega arith

    split_back : (a d g B : ℕ) → (a + d) * g ≡ B → gap B (a * g) ≡ d * g
    split_back a d g B h = omega arith

    go : (x : Bool) → (T x → a ≤ b) → (T (not x) → b < a) → gap (a * g) (b * g) ≡ gap a b * g
    go true y n =
        let h = y tt in
        let i : a + (b - a) ≡ b = omega arith in
        let z : gap a b ≡ b - a = omega arith in
        split a (b - a) g (b * g) (ap (λ (x : ℕ). x * g) i) ∙ ap (λ (x : ℕ). x * g) (sym z)
    go false y n =
        let h = n tt in
        let i : b + (a - b) ≡ a = omega arith in
        let z : gap a b ≡ a - b = omega arith in
        split_back b (a - b) g (a * g) (ap (λ (x : ℕ). x * g) i) ∙ ap (λ (x : ℕ). x * g) (sym z)

between_mul : (s : Bool) (a : ℕ) (t : Bool) (b g : ℕ) → between s (a * g) t (b * g) ≡ between s a t b * g
between_mul false a false b g = gap_mul a b g
between_mul false a true b g = omega arith
between_mul true a false b g = omega arith
between_mul true a true b g = gap_mul a b g

near_signed : (s : Bool) (a c K : ℕ) (t : Bool) (k : ℕ) → NearerSize a c K k → between s a s (K * c) ≤ between s a t (k * c)
near_signed false a c K false k h = h.like
near_signed false a c K true k h = h.unlike
near_signed true a c K false k h = h.unlike
near_signed true a c K true k h = h.like

tie_signed : (s : Bool) (a c K : ℕ) (t : Bool) (k : ℕ) → NearerSize a c K k → between s a s (K * c) ≡ between s a t (k * c) → k ≤ K
tie_signed false a c K false k h i = h.like_tie i
tie_signed false a c K true k h i = h.unlike_tie i
tie_signed true a c K false k h i = h.unlike_tie i
tie_signed true a c K true k h i = h.like_tie i

-- how far ±a / c is from the whole number P / R, which is K
spread : (s : Bool) (a c : ℕ) (t : Bool) (K P R : ℕ) → P * 1 ≡ K * R → between s (a * R) t (P * c) ≡ between s a t (K * c) * R
spread s a c t K P R e =
    let i = ap (λ (x : ℕ). x * c) e in
    let j : P * c ≡ K * c * R = omega arith in
    ap (λ (x : ℕ). between s (a * R) t x) j ∙ between_mul s a t (K * c) R

nearer_of : (s : Bool) (m : ℕ) (e : ℤ) (r y : Float) (t : Bool) (K k : ℕ) → HasValue r s K 1 → HasValue y t k 1 → NearerSize (m * up e) (down e) K k → Nearer (fin s m e) r y
nearer_of s m e nan y t K k v w h = absurd v
nearer_of s m e (inf g) y t K k v w h = absurd v
nearer_of s m e (fin g j i) nan t K k v w h = absurd w
nearer_of s m e (fin g j i) (inf u) t K k v w h = absurd w
nearer_of s m e (fin g j i) (fin u n d) t K k v w h =
    let a = m * up e in
    let c = down e in
    let R = down i in
    let D = down d in
    let G = between s a s (K * c) in
    let H = between s a t (k * c) in
    let x : between s (a * R) g (j * up i * c) * D ≡ G * R * D = rw v.0 (ap (λ (z : ℕ). z * D) (spread s a c s K (j * up i) R v.1)) in
    let y : between s (a * D) u (n * up d * c) * R ≡ H * D * R = rw w.0 (ap (λ (z : ℕ). z * R) (spread s a c t k (n * up d) D w.1)) in
    record {
      near = rw (x, y) (scaled_le G H R D (near_signed s a c K t k h));
      tie = λ z. sizes k K R D (n * up d) (j * up i) w.1 v.1 (tie_signed s a c K t k h (scaled_eq G H R D (down_pos i) (down_pos d) (rw (x, y) at z)));
    }
  where
    scaled_le : (G H R D : ℕ) → G ≤ H → G * R * D ≤ H * D * R
    scaled_le G H R D l = let q : G * (R * D) ≤ H * (R * D) = mul-le-mul_right (R * D) l in omega arith

    scaled_eq : (G H R D : ℕ) → 0 < R → 0 < D → G * R * D ≡ H * D * R → G ≡ H
    scaled_eq G H R D p o z = let q : G * (R * D) ≡ H * (R * D) = omega arith in eq_of_mul-eq-mul_right (R * D) (mul-pos p o) G H q

    sizes : (k K R D N P : ℕ) → N * 1 ≡ k * D → P * 1 ≡ K * R → k ≤ K → N * R ≤ P * D
    sizes k K R D N P a b l =
        let q : k * (R * D) ≤ K * (R * D) = mul-le-mul_right (R * D) l in
        let x = ap (λ (z : ℕ). z * R) a in
        let y = ap (λ (z : ℕ). z * D) b in
        omega arith

round_value : (f : Format) (s : Bool) (m : ℕ) (e : ℤ) → T (fits f (fin s m e)) → HasValue (round_of f (fin s m e)) s (whole_size HalfAway (m * up e) (down e)) 1
round_value f false m e h = whole_value f (ways HalfAway HalfAway) false m e h
round_value f true m e h = whole_value f (ways HalfAway HalfAway) true m e h

pub round_of_nearest : (f : Format) (x y : Float) (t : Bool) (k : ℕ) → T (fits f x) → T (finite x) → HasValue y t k 1 → Nearer x (round_of f x) y
round_of_nearest f nan y t k h p v = absurd p
round_of_nearest f (inf s) y t k h p v = absurd p
round_of_nearest f (fin s m e) y t k h p v =
    nearer_of s m e (round_of f (fin s m e)) y t (whole_size HalfAway (m * up e) (down e)) k (round_value f s m e h) v (half_near (m * up e) (down e) k (down_pos e))
