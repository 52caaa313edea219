-- `sqrt_of` keeps the order: of two numbers that are not below zero, the larger has no smaller root (`sqrt_mono`). Assumes nothing.
use Rattle.std.specs.Prelude.{◌≡◌, ℕ, zero, suc, ◌+◌, ◌*◌, ◌/◌, ◌^◌, ◌<◌, ◌≤◌, Bool, true, false, T, ◌⊎◌, ℤ, pos, ◌==◌, refl, Float}
use Rattle.std.proofs.Common.{sym, ap, subst, inl, inr, le_trans, lt_of_le_of_lt, le_of_mul-le-mul_right, mul-le-mul_right, mul-pos, div-mul-le_self, le-div_iff_mul-le, zero-lt-suc, le_antisymm, eq-or-lt_of_le, arith, eqb→eq, pow_pos}
use Rattle.std.proofs.Math.Dec.{eqb_refl}
use Rattle.std.specs.Float.{nan, inf, fin, Format, binary32, binary64}
use Rattle.std.specs.Float.Ieee.{low, up, down, round, le}
use Rattle.std.specs.Float.Ieee.Fits.{up_pos, down_pos}
use Rattle.std.specs.Float.Ieee.Order.{round_mono}
use Rattle.rounding.specs.Root.{isqrt, root_of, sqrt_of}
use Rattle.rounding.specs.Steps.{Root}
use Rattle.rounding.proofs.Laws.Isqrt.{isqrt_root, sq_lt}
use Rattle.rounding.proofs.Laws.RootNearest.{over, root_of_is, sqrt_pos}
use Rattle.rounding.proofs.Laws.Order.{Le, le→Le, Le→le, Le-right, Le-trans, top, zeros}
use Rattle.rounding.specs.Numbers.{IsNum}
use Rattle.rounding.specs.Numbers.{nought}

-- ---- the root of a fraction

-- r is the whole root of N / d and t that of M / k, where N / d ≤ M / k
module _ (N d M k r t : ℕ) (D : 0 < d) (K : 0 < k) (h : N * k ≤ M * d) (rr : Root r (N / d)) (tr : Root t (M / k)) where
  whole : r * r * d ≤ N
  whole = le_trans (mul-le-mul_right d rr.under) (div-mul-le_self N d)

  roots : r ≤ t
  roots =
      let a : r * r * d * k ≤ N * k = mul-le-mul_right k whole in
      let b : r * r * k * d ≤ M * d = omega arith in
      let c : r * r ≤ M / k = (le-div_iff_mul-le K).1 (le_of_mul-le-mul_right b D) in
      let e : r < suc t = sq_lt r (suc t) (lt_of_le_of_lt c tr.over) in
      omega arith

  -- where the larger root is exact and the two are the same, so is the smaller
  exact : t * t * k ≡ M → r ≡ t → r * r * d ≡ N
  exact e s =
      let a : M * d ≡ t * t * k * d = ap (λ (x : ℕ). x * d) (sym e) in
      let b : r * r * (d * k) ≡ t * t * (d * k) = ap (λ (x : ℕ). x * x * (d * k)) s in
      let c : N * k ≤ r * r * d * k = omega arith in
      le_antisymm whole (le_of_mul-le-mul_right c K)

  halves : (b c : Bool) → (r * r * d ≡ N → T b) → (T c → t * t * k ≡ M) → 2 * r + over b ≤ 2 * t + over c
  halves true true p q = let a = roots in omega arith
  halves true false p q = let a = roots in omega arith
  halves false false p q = let a = roots in omega arith
  halves false true p q = go (eq-or-lt_of_le roots)
    where
      go : (r ≡ t) ⊎ (r < t) → 2 * r + 1 ≤ 2 * t + 0
      go (inl e) = absurd (p (exact (q tt) e))
      go (inr l) = omega arith

pub root_mono : (f : Format) (a d b k : ℕ) → 0 < d → 0 < k → a * k ≤ b * d → T (le (root_of f a d) (root_of f b k))
root_mono f a d b k D K h =
    let p = 4 ^ suc (low f) in
    let N = a * p in
    let M = b * p in
    let r = isqrt (N / d) in
    let t = isqrt (M / k) in
    let c = 2 * 2 ^ suc (low f) in
    let C : 0 < c = mul-pos (zero-lt-suc 1) (pow_pos (suc (low f))) in
    let g : N * k ≤ M * d = (let x = mul-le-mul_right p h in omega arith) in
    let l = halves N d M k r t D K g (isqrt_root (N / d)) (isqrt_root (M / k)) (r * r * d == N) (t * t * k == M) (λ e. subst (λ (x : ℕ). T (r * r * d == x)) e (eqb_refl (r * r * d))) (eqb→eq (t * t * k) M) in
    rw (root_of_is f a d, root_of_is f b k) (round_mono f (2 * r + over (r * r * d == N)) c (2 * t + over (t * t * k == M)) c C C (mul-le-mul_right c l))

-- ---- zero

round_nought : (f : Format) → round f false 0 1 ≡ nought
unfolding round
round_nought binary32 = refl
round_nought binary64 = refl

-- a zero of either sign is at most any root
zero_least : (f : Format) (s : Bool) (e : ℤ) (a d : ℕ) → Le (fin s 0 e) (root_of f a d)
zero_least f s e a d =
    let c = 2 * 2 ^ suc (low f) in
    let C : 0 < c = mul-pos (zero-lt-suc 1) (pow_pos (suc (low f))) in
    let A = 2 * isqrt (a * 4 ^ suc (low f) / d) + over (isqrt (a * 4 ^ suc (low f) / d) * isqrt (a * 4 ^ suc (low f) / d) * d == a * 4 ^ suc (low f)) in
    rw (root_of_is f a d)
    (Le-trans (fin s 0 e) nought (round f false A c) (zeros s e false (pos 0))
    (le→Le nought (round f false A c) (subst (λ (x : Float). T (le x (round f false A c))) (round_nought f) (round_mono f 0 1 A c (zero-lt-suc 0) C (omega arith)))))

sqrt_zero : (f : Format) (s : Bool) (e : ℤ) → sqrt_of f (fin s 0 e) ≡ fin s 0 e
unfolding sqrt_of
sqrt_zero f s e = refl

sqrt_inf : (f : Format) → sqrt_of f (inf false) ≡ inf false
unfolding sqrt_of
sqrt_inf f = refl

-- ---- any number

some : (m : ℕ) (e : ℤ) → 0 < suc m * up e
some m e = mul-pos (zero-lt-suc m) (up_pos e)

-- a root is a number
sqrt_num : (f : Format) (x : Float) → Le nought x → IsNum (sqrt_of f x)
sqrt_num f nan h = absurd h
sqrt_num f (inf true) h = absurd h
sqrt_num f (inf false) h = rw (sqrt_inf f) tt
sqrt_num f (fin s zero e) h = rw (sqrt_zero f s e) tt
sqrt_num f (fin false (suc m) e) h = rw (sqrt_pos f (suc m) e (zero-lt-suc m)) (Le-right (fin false 0 (pos 0)) (root_of f (suc m * up e) (down e)) (zero_least f false (pos 0) (suc m * up e) (down e)))
sqrt_num f (fin true (suc m) e) h = absurd (let p = some m e in omega arith)

sqrt-Le : (f : Format) (x y : Float) → Le nought x → Le x y → Le (sqrt_of f x) (sqrt_of f y)
sqrt-Le f nan y h k = absurd h
sqrt-Le f (inf true) y h k = absurd h
sqrt-Le f (inf false) nan h k = absurd k
sqrt-Le f (inf false) (inf true) h k = absurd k
sqrt-Le f (inf false) (inf false) h k = rw (sqrt_inf f) tt
sqrt-Le f (inf false) (fin t n d) h k = absurd k
sqrt-Le f (fin s m e) nan h k = absurd k
sqrt-Le f (fin s m e) (inf true) h k = absurd k
sqrt-Le f (fin s m e) (inf false) h k = rw (sqrt_inf f) (top (sqrt_of f (fin s m e)) (sqrt_num f (fin s m e) h))
sqrt-Le f (fin s zero e) (fin t zero d) h k = rw (sqrt_zero f s e, sqrt_zero f t d) k
sqrt-Le f (fin s zero e) (fin false (suc n) d) h k = rw (sqrt_zero f s e, sqrt_pos f (suc n) d (zero-lt-suc n)) (zero_least f s e (suc n * up d) (down d))
sqrt-Le f (fin false zero e) (fin true (suc n) d) h k = absurd (let p = mul-pos (some n d) (down_pos e) in omega arith)
sqrt-Le f (fin true zero e) (fin true (suc n) d) h k = absurd (let p = mul-pos (some n d) (down_pos e) in omega arith)
sqrt-Le f (fin true (suc m) e) (fin t n d) h k = absurd (let p = some m e in omega arith)
sqrt-Le f (fin false (suc m) e) (fin false zero d) h k = absurd (let p = mul-pos (some m e) (down_pos d) in omega arith)
sqrt-Le f (fin false (suc m) e) (fin true n d) h k = absurd (let p = mul-pos (some m e) (down_pos d) in omega arith)
sqrt-Le f (fin false (suc m) e) (fin false (suc n) d) h k =
    rw (sqrt_pos f (suc m) e (zero-lt-suc m), sqrt_pos f (suc n) d (zero-lt-suc n))
    (le→Le (root_of f (suc m * up e) (down e)) (root_of f (suc n * up d) (down d)) (root_mono f (suc m * up e) (down e) (suc n * up d) (down d) (down_pos e) (down_pos d) (omega arith)))

pub sqrt_mono : (f : Format) (x y : Float) → T (le nought x) → T (le x y) → T (le (sqrt_of f x) (sqrt_of f y))
sqrt_mono f x y h k = Le→le (sqrt_of f x) (sqrt_of f y) (sqrt-Le f x y (le→Le nought x h) (le→Le x y k))

pub root_number : (f : Format) (x : Float) → T (le nought x) → IsNum (sqrt_of f x)
root_number f x h = sqrt_num f x (le→Le nought x h)
