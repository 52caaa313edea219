-- `sqrt_of` is right: of all that the format holds, no number is nearer to the root (`sqrt_nearest`). The statement has no scaling in it, and no `isqrt`. Assumes nothing.
use Rattle.std.specs.Prelude.{◌≡◌, ℕ, zero, suc, ◌+◌, ◌-◌, ◌*◌, ◌/◌, ◌%◌, ◌^◌, ◌<◌, ◌≤◌, Bool, true, false, cond, T, ℤ, ◌==◌, nat_eq, refl, Float}
use Rattle.std.proofs.Common.{sym, ap, ◌∙◌, subst, le_trans, le_of_eq, lt_of_le_of_lt, lt_irrefl, mul-le-mul, mul-le-mul_right, mul-lt-mul_of_pos_right, le_of_mul-le-mul_right, mul-pos, div-mul-le_self, div-lt_iff_lt-mul, zero-lt-suc, arith, eqb→eq, lit≤, pow-add, pow_pos, pow_mono}
use Prim.Native.Nat.{compare}
use Rattle.std.proofs.Math.Nat.{div-div-eq-div-mul, pow-succ'}
use Rattle.std.proofs.Math.Dec.{not_T}
use Rattle.std.proofs.Math.Pow.{pow-lt}
use Rattle.std.specs.Float.{nan, fin, Format}
use Rattle.std.specs.Float.Ieee.{size, prec, emax, low, up, down, round, fits}
use Rattle.std.specs.Float.Ieee.Fits.{two, down_pos, kept-lt, nearest-le}
use Rattle.std.specs.Float.Ieee.Bits.{cond_no}
use Rattle.std.specs.Float.Ieee.Exact.{HasValue}
use Rattle.std.specs.Float.Ieee.Scale.{grid, overflow, round_val, round_under, finite}
use Rattle.std.specs.Float.Ieee.Positive.{num, den, den_pos, value→cross}
use Rattle.rounding.specs.Root.{isqrt, root_of, sqrt_of}
use Rattle.rounding.specs.Steps.{Root}
use Rattle.std.specs.Float.Ieee.Digits.{size-le}
use Rattle.std.specs.Float.Ieee.Nearest.{closest}
use Rattle.rounding.proofs.Laws.Basics.{emax_ge}
use Rattle.rounding.proofs.Laws.Isqrt.{isqrt_root, sq_lt}
use Rattle.rounding.proofs.Laws.Nearest.{NoNearer, round_nearest, sum_is, order}
use Rattle.rounding.proofs.Laws.Representable.{Representable, held, bounded, value_finite}

-- v is no farther from the root of x than w is: the middle of the two, (v + w) / 2, is on w's side of the root or on it, so its square is on that side of x.
-- Each of the three is num / den.
pub record NoFarther (x v w : Float) : Type 0 where
  pub below : num w * den v < num v * den w → (num v * den w + num w * den v) * (num v * den w + num w * den v) * den x ≤ 4 * (den v * den w * (den v * den w)) * num x
  pub above : num v * den w < num w * den v → 4 * (den v * den w * (den v * den w)) * num x ≤ (num v * den w + num w * den v) * (num v * den w + num w * den v) * den x

-- ---- what is left over: at most 1, and 0 only where the test passes

abbrev pub over : Bool → ℕ
over true = 0
over false = 1

pub over_is : (b : Bool) → cond b 0 1 ≡ over b
over_is true = refl
over_is false = refl

pub over_le : (b : Bool) → over b ≤ 1
over_le true = omega arith
over_le false = omega arith

pub root_of_is : (f : Format) (a d : ℕ) → root_of f a d ≡ round f false (2 * isqrt (a * 4 ^ suc (low f) / d) + over (isqrt (a * 4 ^ suc (low f) / d) * isqrt (a * 4 ^ suc (low f) / d) * d == a * 4 ^ suc (low f))) (2 * 2 ^ suc (low f))
unfolding root_of
root_of_is f a d =
    let n = a * 4 ^ suc (low f) in
    let r = isqrt (n / d) in
    ap (λ (s : ℕ). round f false (2 * r + s) (2 * 2 ^ suc (low f))) (over_is (r * r * d == n))

-- ---- the middle of g and u, by the whole root r

middle_below : (g u A l r s n d : ℕ) → A ≡ 2 * r + s → s ≤ 1 → 0 < l → (g + u) * (4 * l) ≤ 2 * (A * l) → Root r (n / d) → (g + u) * (g + u) * d ≤ n
middle_below g u A l r s n d e k L h root =
    let a : (g + u) * 4 * l ≤ 2 * A * l = omega arith in
    let b : (g + u) * 4 ≤ 2 * A = le_of_mul-le-mul_right a L in
    let c : g + u ≤ r = omega arith in
    le_trans (mul-le-mul_right d (mul-le-mul c c)) (le_trans (mul-le-mul_right d root.under) (div-mul-le_self n d))

middle_above : (g u A l r n d : ℕ) (t : Bool) → (T t → r * r * d ≡ n) → A ≡ 2 * r + over t → 0 < l → 0 < d → 2 * (A * l) ≤ (g + u) * (4 * l) → Root r (n / d) → n ≤ (g + u) * (g + u) * d
middle_above g u A l r n d true x e L D h root =
    let a : 2 * A * l ≤ (g + u) * 4 * l = omega arith in
    let b : 2 * A ≤ (g + u) * 4 = le_of_mul-le-mul_right a L in
    let c : r ≤ g + u = omega arith in
    le_trans (le_of_eq (sym (x tt))) (mul-le-mul_right d (mul-le-mul c c))
middle_above g u A l r n d false x e L D h root =
    let a : 2 * A * l ≤ (g + u) * 4 * l = omega arith in
    let b : 2 * A ≤ (g + u) * 4 = le_of_mul-le-mul_right a L in
    let c : suc r ≤ g + u = omega arith in
    let z : suc n ≤ suc r * suc r * d = (div-lt_iff_lt-mul D).0 root.over in
    let y : suc r * suc r * d ≤ (g + u) * (g + u) * d = mul-le-mul_right d (mul-le-mul c c) in
    omega arith

-- ---- the values, as fractions

-- S * l is M * D, so S / D is M / l
squares : (S M D l : ℕ) → S * l ≡ M * D → S * S * (l * l) ≡ M * M * (D * D)
squares S M D l e = let a = ap (λ (x : ℕ). x * (S * l)) e in let b = ap (λ (x : ℕ). M * D * x) e in omega arith

scaled_below : (S M D l nx dx n : ℕ) → 0 < l → S * l ≡ M * D → n ≡ 4 * nx * (l * l) → M * M * dx ≤ n → S * S * dx ≤ 4 * (D * D) * nx
scaled_below S M D l nx dx n L e k h =
    let a : M * M * dx * (D * D) ≤ n * (D * D) = mul-le-mul_right (D * D) h in
    let b = ap (λ (x : ℕ). x * dx) (squares S M D l e) in
    let c = ap (λ (x : ℕ). x * (D * D)) k in
    let d : S * S * dx * (l * l) ≤ 4 * (D * D) * nx * (l * l) = omega arith in
    le_of_mul-le-mul_right d (mul-pos L L)

scaled_above : (S M D l nx dx n : ℕ) → 0 < l → S * l ≡ M * D → n ≡ 4 * nx * (l * l) → n ≤ M * M * dx → 4 * (D * D) * nx ≤ S * S * dx
scaled_above S M D l nx dx n L e k h =
    let a : n * (D * D) ≤ M * M * dx * (D * D) = mul-le-mul_right (D * D) h in
    let b = ap (λ (x : ℕ). x * dx) (squares S M D l e) in
    let c = ap (λ (x : ℕ). x * (D * D)) k in
    let d : 4 * (D * D) * nx * (l * l) ≤ S * S * dx * (l * l) = omega arith in
    le_of_mul-le-mul_right d (mul-pos L L)

pub four : (k : ℕ) → 4 ^ k ≡ 2 ^ k * 2 ^ k
four zero = refl
four (suc k) = let a = pow-succ' 4 k in let b = pow-succ' 2 k in let c = four k in rw (a, b, c) (omega arith)

-- ---- the theorem

pub sqrt_fin : (f : Format) (s : Bool) (m : ℕ) (e : ℤ) → 0 < m → sqrt_of f (fin s m e) ≡ cond s nan (root_of f (m * up e) (down e))
unfolding sqrt_of
sqrt_fin f s zero e h = absurd (lt_irrefl 0 h)
sqrt_fin f s (suc m) e h = cond_no (suc m == 0) (fin s (suc m) e) (cond s nan (root_of f (suc m * up e) (down e))) (not_T (suc m == 0) (λ t. no (eqb→eq (suc m) 0 t)))
  where
    no : suc m ≡ 0 → ⊥
    no z = omega arith

pub sqrt_pos : (f : Format) (m : ℕ) (e : ℤ) → 0 < m → sqrt_of f (fin false m e) ≡ root_of f (m * up e) (down e)
sqrt_pos f m e h = sqrt_fin f false m e h

root_nearest : (f : Format) (m : ℕ) (e : ℤ) (n : ℕ) (k : ℤ) → Representable f n k → T (finite (root_of f (m * up e) (down e))) → NoFarther (fin false m e) (root_of f (m * up e) (down e)) (fin false n k)
root_nearest f m e n k h t =
    let a = m * up e in
    let d = down e in
    let l = 2 ^ low f in
    let N = a * 4 ^ suc (low f) in
    let r = isqrt (N / d) in
    let b = nat_eq (r * r * d) N in
    let A = 2 * r + over b in
    let c = 2 * 2 ^ suc (low f) in
    let v = root_of f a d in
    let is : v ≡ round f false A c = root_of_is f a d in
    let ce : c ≡ 4 * l = (let z = pow-succ' 2 (low f) in omega arith) in
    let C : 0 < c = subst (λ (x : ℕ). 0 < x) (sym ce) (mul-pos (zero-lt-suc 3) (pow_pos (low f))) in
    let g = grid f A c in
    let u = h.q * 2 ^ h.j in
    let val : HasValue v false g l = subst (λ (x : Float). HasValue x false g l) (sym is) (round_val f A c (round_under f A c (subst (λ (x : Float). T (finite x)) is t))) in
    let gv : num v * l ≡ g * den v = value→cross v g l val in
    let L = pow_pos (low f) in
    let W = down_pos k in
    let X = den_pos v in
    let near = subst (λ (x : ℕ). NoNearer (A * l) x g u) ce (round_nearest f A c h.q h.j C h.short) in
    let root = isqrt_root (N / d) in
    let S = sum_is (num v) (den v) (n * up k) (down k) g u l gv h.value in
    let Ne : N ≡ 4 * a * (l * l) = ap (λ (x : ℕ). a * x) (pow-succ' 4 (low f) ∙ ap (λ (x : ℕ). 4 * x) (four (low f))) ∙ omega arith in
    record {
      below = λ o.
          scaled_below (num v * down k + n * up k * den v) (g + u) (den v * down k) l a d N L S Ne
          (middle_below g u A l r (over b) N d refl (over_le b) L (near.below (order (num v) (den v) (n * up k) (down k) g u l X W L gv h.value o)) root);
      above = λ o.
          scaled_above (num v * down k + n * up k * den v) (g + u) (den v * down k) l a d N L S Ne
          (middle_above g u A l r N d b (eqb→eq (r * r * d) N) refl L (down_pos e) (near.above (order (n * up k) (down k) (num v) (den v) u g l W X L h.value gv o)) root);
    }

-- ---- the root is finite

-- a whole root r of what lies below 2 * B * T * T
root_lt : (r q B T : ℕ) → r * r ≤ q → q < 2 * B * (T * T) → 2 ≤ B → r < B * T
root_lt r q B T h k b =
    let a : 2 * (B * (T * T)) ≤ B * (B * (T * T)) = mul-le-mul_right (B * (T * T)) b in
    sq_lt r (B * T) (omega arith)

-- a / c below 2 ^ emax is rounded to no more than that
grid_le : (f : Format) (a c : ℕ) → 0 < c → a * 2 ^ low f < 2 ^ (emax f + low f) * c → grid f a c < overflow f
grid_le f a c C h =
    let n = a * 2 ^ low f in
    let p = prec f in
    let k = size (n / c) - p in
    let z : size (n / c) ≤ emax f + low f = size-le (n / c) (emax f + low f) ((div-lt_iff_lt-mul C).1 h) in
    let w : n / (c * 2 ^ k) < 2 ^ p = subst (λ (x : ℕ). x < 2 ^ p) (div-div-eq-div-mul n c (2 ^ k)) (kept-lt p (n / c)) in
    let y : closest n (c * 2 ^ k) ≤ 2 ^ p = le_trans (nearest-le (n / (c * 2 ^ k)) (compare (n % (c * 2 ^ k) * 2) (c * 2 ^ k))) w in
    let b = emax_ge f in
    let t = two f in
    let i : p + k < low f + suc (emax f) = omega arith in
    lt_of_le_of_lt (mul-le-mul_right (2 ^ k) y) (lt_of_le_of_lt (le_of_eq (sym (pow-add 2 p k))) (pow-lt i))

root_finite : (f : Format) (a d : ℕ) → 0 < d → a < 2 ^ suc (emax f) * d → T (finite (root_of f a d))
root_finite f a d D h =
    let l = 2 ^ low f in
    let T' = 2 ^ suc (low f) in
    let B = 2 ^ emax f in
    let N = a * 4 ^ suc (low f) in
    let r = isqrt (N / d) in
    let b = nat_eq (r * r * d) N in
    let A = 2 * r + over b in
    let c = 2 * 2 ^ suc (low f) in
    let te : T' ≡ 2 * l = pow-succ' 2 (low f) in
    let be = pow-succ' 2 (emax f) in
    let q : N / d < 2 * B * (T' * T') =
    (div-lt_iff_lt-mul D).1
    (subst (λ (x : ℕ). a * x < 2 * B * (T' * T') * d) (sym (four (suc (low f))))
    (let x = mul-lt-mul_of_pos_right (subst (λ (y : ℕ). a < y * d) be h) (mul-pos (pow_pos (suc (low f))) (pow_pos (suc (low f)))) in omega arith)) in
    let rl : r < B * T' = root_lt r (N / d) B T' (isqrt_root (N / d)).under q (pow_mono {i = 1} (le_trans (lit≤ tt) (emax_ge f))) in
    let few = over_le b in
    let al : A * l < 2 ^ (emax f + low f) * c =
    subst (λ (x : ℕ). A * l < x * c) (sym (pow-add 2 (emax f) (low f)))
    (let x : A < 2 * (B * T') = omega arith in let y = mul-lt-mul_of_pos_right x (pow_pos (low f)) in omega arith) in
    let C : 0 < c = mul-pos (zero-lt-suc 1) (pow_pos (suc (low f))) in
    subst (λ (x : Float). T (finite x)) (sym (root_of_is f a d)) (value_finite (round f false A c) false (grid f A c) l (round_val f A c (grid_le f A c C al)))

pub sqrt_finite : (f : Format) (m : ℕ) (e : ℤ) → 0 < m → T (fits f (fin false m e)) → T (finite (sqrt_of f (fin false m e)))
sqrt_finite f m e p h = subst (λ (v : Float). T (finite v)) (sym (sqrt_pos f m e p)) (root_finite f (m * up e) (down e) (down_pos e) (bounded f false m e h))

-- Of a number above zero: `n * 2 ^ k` stands for any number, zero included, that the format holds.
pub sqrt_nearest : (f : Format) (m : ℕ) (e : ℤ) (n : ℕ) (k : ℤ) → 0 < m → T (fits f (fin false m e)) → T (fits f (fin false n k)) → NoFarther (fin false m e) (sqrt_of f (fin false m e)) (fin false n k)
sqrt_nearest f m e n k p t h =
    let i = sqrt_pos f m e p in
    subst (λ (v : Float). NoFarther (fin false m e) v (fin false n k)) (sym i) (root_nearest f m e n k (held f false n k h) (subst (λ (v : Float). T (finite v)) i (sqrt_finite f m e p t)))
