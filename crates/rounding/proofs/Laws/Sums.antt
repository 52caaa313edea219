-- A sum grows with each of its terms, and a difference x - y grows with x and shrinks as y grows, wherever the results are no nan. Assumes nothing.
use Rattle.std.specs.Prelude.{◌≡◌, ℕ, ◌+◌, ◌-◌, ◌*◌, ◌<◌, ◌≤◌, Bool, true, false, cond, not, T, ℤ, nat_lt, refl, Float}
use Rattle.std.proofs.Common.{ap, mul-pos, mul-le-mul_right, arith, ltb→lt, nltb→le}
use Rattle.std.specs.Float.{nan, inf, fin, Format}
use Rattle.std.specs.Float.Ieee.{up, down, round, sum, add, sub, neg, le}
use Rattle.std.specs.Float.Ieee.Fits.{down_pos}
use Rattle.std.specs.Float.Ieee.Scale.{finite}
use Rattle.rounding.proofs.Laws.Signed.{pp, nn, Cross, pp_mul, nn_mul}
use Rattle.rounding.proofs.Laws.Order.{Le, le→Le, le_bottom, le_top, le_trans, le_refl}
use Rattle.rounding.specs.Numbers.{IsNum}
use Rattle.rounding.proofs.Laws.Rounding.{neg_anti, round_order, round_num}

-- ---- `sum` rounds the number ±z / c, which is ±a / c + ±b / c
abbrev pub Total : Bool → ℕ → Bool → ℕ → Bool → ℕ → Type 0
Total s a t b r z = pp r z + (nn s a + nn t b) ≡ nn r z + (pp s a + pp t b)

abbrev pub Rounds : Format → Bool → ℕ → Bool → ℕ → ℕ → Type 0
Rounds f s a t b c = (r : Bool) × (z : ℕ) × (sum f s a t b c ≡ round f r z c) × Total s a t b r z

pub sum_rounds : (f : Format) (s : Bool) (a : ℕ) (t : Bool) (b c : ℕ) → Rounds f s a t b c
unfolding sum
sum_rounds f false a false b c = (false, a + b, refl, omega arith)
sum_rounds f true a true b c = (true, a + b, refl, omega arith)
sum_rounds f false a true b c = go (nat_lt a b) (ltb→lt a b) (nltb→le a b)
  where
    go : (x : Bool) → (T x → a < b) → (T (not x) → b ≤ a)
        → (r : Bool) × (z : ℕ) × (cond x (round f true (b - a) c) (round f false (a - b) c) ≡ round f r z c) × Total false a true b r z
    go true p q = (true, b - a, refl, let h : a < b = p tt in omega arith)
    go false p q = (false, a - b, refl, let h : b ≤ a = q tt in omega arith)
sum_rounds f true a false b c = go (nat_lt a b) (nat_lt b a) (ltb→lt a b) (nltb→le a b) (ltb→lt b a) (nltb→le b a)
  where
    go : (x y : Bool) → (T x → a < b) → (T (not x) → b ≤ a) → (T y → b < a) → (T (not y) → a ≤ b)
        → (r : Bool) × (z : ℕ) × (cond x (round f false (b - a) c) (round f y (a - b) c) ≡ round f r z c) × Total true a false b r z
    go true y p q u v = (false, b - a, refl, let h : a < b = p tt in omega arith)
    go false true p q u v = (true, a - b, refl, let h : b < a = u tt in omega arith)
    go false false p q u v = (false, a - b, refl, let h : b ≤ a = q tt in let k : a ≤ b = v tt in omega arith)

-- ---- the arithmetic: with X / dx ≤ X' / dx' and Y / dy ≤ Y' / dy', the totals over dx * dy and dx' * dy' are in order
glue : (p n p' n' q m c c' d P N P' N' : ℕ)
    → P + (n * d + m * c) ≡ N + (p * d + q * c)
    → P' + (n' * d + m * c') ≡ N' + (p' * d + q * c')
    → p * c' + n' * c ≤ p' * c + n * c'
    → P * c' + N' * c ≤ P' * c + N * c'
glue p n p' n' q m c c' d P N P' N' e e' h =
    let a : (P + (n * d + m * c)) * c' ≡ (N + (p * d + q * c)) * c' = ap (λ (z : ℕ). z * c') e in
    let b : (P' + (n' * d + m * c')) * c ≡ (N' + (p' * d + q * c')) * c = ap (λ (z : ℕ). z * c) e' in
    let x : (p * c' + n' * c) * d ≤ (p' * c + n * c') * d = mul-le-mul_right d h in
    omega arith

widen : (P N P' N' c c' d : ℕ) → P * c' + N' * c ≤ P' * c + N * c' → P * (c' * d) + N' * (c * d) ≤ P' * (c * d) + N * (c' * d)
widen P N P' N' c c' d h = let x : (P * c' + N' * c) * d ≤ (P' * c + N * c') * d = mul-le-mul_right d h in omega arith

widen' : (P N P' N' c c' d : ℕ) → P * c' + N' * c ≤ P' * c + N * c' → P * (d * c') + N' * (d * c) ≤ P' * (d * c) + N * (d * c')
widen' P N P' N' c c' d h = let x : (P * c' + N' * c) * d ≤ (P' * c + N * c') * d = mul-le-mul_right d h in omega arith

-- the first term grows
totals : (s : Bool) (a c : ℕ) (s' : Bool) (a' c' : ℕ) (t : Bool) (b d : ℕ) (r : Bool) (z : ℕ) (r' : Bool) (z' : ℕ)
    → Total s (a * d) t (b * c) r z → Total s' (a' * d) t (b * c') r' z' → Cross s a c s' a' c' → Cross r z (c * d) r' z' (c' * d)
totals s a c s' a' c' t b d r z r' z' e e' h =
    widen (pp r z) (nn r z) (pp r' z') (nn r' z') c c' d
    (glue (pp s a) (nn s a) (pp s' a') (nn s' a') (pp t b) (nn t b) c c' d (pp r z) (nn r z) (pp r' z') (nn r' z')
    (simp (pp_mul, nn_mul) at e) (simp (pp_mul, nn_mul) at e') h)

turn : (P N a b c d : ℕ) → P + (a + b) ≡ N + (c + d) → P + (b + a) ≡ N + (d + c)
turn P N a b c d h = omega arith

-- the second term grows
totals' : (s : Bool) (a c : ℕ) (t : Bool) (b d : ℕ) (t' : Bool) (b' d' : ℕ) (r : Bool) (z : ℕ) (r' : Bool) (z' : ℕ)
    → Total s (a * d) t (b * c) r z → Total s (a * d') t' (b' * c) r' z' → Cross t b d t' b' d' → Cross r z (c * d) r' z' (c * d')
totals' s a c t b d t' b' d' r z r' z' e e' h =
    widen' (pp r z) (nn r z) (pp r' z') (nn r' z') d d' c
    (glue (pp t b) (nn t b) (pp t' b') (nn t' b') (pp s a) (nn s a) d d' c (pp r z) (nn r z) (pp r' z') (nn r' z')
    (turn (pp r z) (nn r z) (nn s a * d) (nn t b * c) (pp s a * d) (pp t b * c) (simp (pp_mul, nn_mul) at e))
    (turn (pp r' z') (nn r' z') (nn s a * d') (nn t' b' * c) (pp s a * d') (pp t' b' * c) (simp (pp_mul, nn_mul) at e')) h)

-- ---- the sum
add_ninf : (f : Format) (y : Float) → IsNum (add f (inf true) y) → add f (inf true) y ≡ inf true
unfolding add
add_ninf f nan p = absurd p
add_ninf f (inf true) p = refl
add_ninf f (inf false) p = absurd p
add_ninf f (fin t n d) p = refl

add_pinf : (f : Format) (y : Float) → IsNum (add f (inf false) y) → add f (inf false) y ≡ inf false
unfolding add
add_pinf f nan p = absurd p
add_pinf f (inf true) p = absurd p
add_pinf f (inf false) p = refl
add_pinf f (fin t n d) p = refl

add_fin_left : (f : Format) (s : Bool) (m : ℕ) (e : ℤ) (s' : Bool) (m' : ℕ) (e' : ℤ) (t : Bool) (n : ℕ) (d : ℤ)
    → Le (fin s m e) (fin s' m' e') → T (le (add f (fin s m e) (fin t n d)) (add f (fin s' m' e') (fin t n d)))
unfolding add
add_fin_left f s m e s' m' e' t n d h =
    let u = sum_rounds f s (m * up e * down d) t (n * up d * down e) (down e * down d) in
    let v = sum_rounds f s' (m' * up e' * down d) t (n * up d * down e') (down e' * down d) in
    rw (u.2, v.2)
    (round_order f u.0 u.1 (down e * down d) v.0 v.1 (down e' * down d) (mul-pos (down_pos e) (down_pos d)) (mul-pos (down_pos e') (down_pos d))
    (totals s (m * up e) (down e) s' (m' * up e') (down e') t (n * up d) (down d) u.0 u.1 v.0 v.1 u.3 v.3 h))

add_fin_right : (f : Format) (s : Bool) (m : ℕ) (e : ℤ) (t : Bool) (n : ℕ) (d : ℤ) (t' : Bool) (n' : ℕ) (d' : ℤ)
    → Le (fin t n d) (fin t' n' d') → T (le (add f (fin s m e) (fin t n d)) (add f (fin s m e) (fin t' n' d')))
unfolding add
add_fin_right f s m e t n d t' n' d' h =
    let u = sum_rounds f s (m * up e * down d) t (n * up d * down e) (down e * down d) in
    let v = sum_rounds f s (m * up e * down d') t' (n' * up d' * down e) (down e * down d') in
    rw (u.2, v.2)
    (round_order f u.0 u.1 (down e * down d) v.0 v.1 (down e * down d') (mul-pos (down_pos e) (down_pos d)) (mul-pos (down_pos e) (down_pos d'))
    (totals' s (m * up e) (down e) t (n * up d) (down d) t' (n' * up d') (down d') u.0 u.1 v.0 v.1 u.3 v.3 h))

add-Le : (f : Format) (x x' y y' : Float) → Le x x' → Le y y' → IsNum (add f x y) → IsNum (add f x' y') → T (le (add f x y) (add f x' y'))
unfolding add
add-Le f nan x' y y' h k p q = absurd h
add-Le f (inf true) x' y y' h k p q = rw (add_ninf f y p) (le_bottom (add f x' y') q)
add-Le f (inf false) nan y y' h k p q = absurd h
add-Le f (inf false) (inf true) y y' h k p q = absurd h
add-Le f (inf false) (inf false) y y' h k p q = rw (add_pinf f y' q) (le_top (add f (inf false) y) p)
add-Le f (inf false) (fin s' m' e') y y' h k p q = absurd h
add-Le f (fin s m e) nan y y' h k p q = absurd h
add-Le f (fin s m e) (inf true) y y' h k p q = absurd h
add-Le f (fin s m e) (inf false) y y' h k p q = rw (add_pinf f y' q) (le_top (add f (fin s m e) y) p)
add-Le f (fin s m e) (fin s' m' e') nan y' h k p q = absurd k
add-Le f (fin s m e) (fin s' m' e') (inf true) y' h k p q = le_bottom (add f (fin s' m' e') y') q
add-Le f (fin s m e) (fin s' m' e') (inf false) nan h k p q = absurd k
add-Le f (fin s m e) (fin s' m' e') (inf false) (inf true) h k p q = absurd k
add-Le f (fin s m e) (fin s' m' e') (inf false) (inf false) h k p q = le_top (inf false) tt
add-Le f (fin s m e) (fin s' m' e') (inf false) (fin t' n' d') h k p q = absurd k
add-Le f (fin s m e) (fin s' m' e') (fin t n d) nan h k p q = absurd k
add-Le f (fin s m e) (fin s' m' e') (fin t n d) (inf true) h k p q = absurd k
add-Le f (fin s m e) (fin s' m' e') (fin t n d) (inf false) h k p q = le_top (add f (fin s m e) (fin t n d)) p
add-Le f (fin s m e) (fin s' m' e') (fin t n d) (fin t' n' d') h k p q =
    le_trans (add f (fin s m e) (fin t n d)) (add f (fin s' m' e') (fin t n d)) (add f (fin s' m' e') (fin t' n' d'))
    (add_fin_left f s m e s' m' e' t n d h) (add_fin_right f s' m' e' t n d t' n' d' k)

pub add_mono : (f : Format) (x x' y y' : Float) → T (le x x') → T (le y y') → IsNum (add f x y) → IsNum (add f x' y') → T (le (add f x y) (add f x' y'))
add_mono f x x' y y' h k p q = add-Le f x x' y y' (le→Le x x' h) (le→Le y y' k) p q

-- ---- the difference
pub sub_mono : (f : Format) (x x' y y' : Float) → T (le x x') → T (le y' y) → IsNum (sub f x y) → IsNum (sub f x' y') → T (le (sub f x y) (sub f x' y'))
unfolding sub
sub_mono f x x' y y' h k p q = add_mono f x x' (neg y) (neg y') h (neg_anti y' y k) p q

-- ---- where the results are numbers
pub add_num_left : (f : Format) (x y : Float) → IsNum (add f x y) → IsNum x
unfolding add
add_num_left f nan y p = p
add_num_left f (inf s) y p = tt
add_num_left f (fin s m e) y p = tt

pub add_num_right : (f : Format) (x y : Float) → IsNum (add f x y) → IsNum y
unfolding add
add_num_right f nan y p = absurd p
add_num_right f (inf s) nan p = p
add_num_right f (inf s) (inf t) p = tt
add_num_right f (inf s) (fin t n d) p = tt
add_num_right f (fin s m e) nan p = p
add_num_right f (fin s m e) (inf t) p = tt
add_num_right f (fin s m e) (fin t n d) p = tt

neg_num : (x : Float) → IsNum (neg x) → IsNum x
unfolding neg
neg_num nan p = p
neg_num (inf s) p = tt
neg_num (fin s m e) p = tt

pub sub_num_left : (f : Format) (x y : Float) → IsNum (sub f x y) → IsNum x
unfolding sub
sub_num_left f x y p = add_num_left f x (neg y) p

pub sub_num_right : (f : Format) (x y : Float) → IsNum (sub f x y) → IsNum y
unfolding sub
sub_num_right f x y p = neg_num y (add_num_right f x (neg y) p)

sum_num : (f : Format) (s : Bool) (a : ℕ) (t : Bool) (b c : ℕ) → IsNum (sum f s a t b c)
sum_num f s a t b c = let u = sum_rounds f s a t b c in rw u.2 (round_num f u.0 u.1 c)

-- a finite term makes no nan
pub add_num : (f : Format) (x y : Float) → IsNum x → T (finite y) → IsNum (add f x y)
unfolding add
add_num f nan y p q = p
add_num f (inf s) nan p q = q
add_num f (inf s) (inf t) p q = absurd q
add_num f (inf s) (fin t n d) p q = tt
add_num f (fin s m e) nan p q = q
add_num f (fin s m e) (inf t) p q = tt
add_num f (fin s m e) (fin t n d) p q = sum_num f s (m * up e * down d) t (n * up d * down e) (down e * down d)

neg_finite : (y : Float) → T (finite y) → T (finite (neg y))
unfolding neg
neg_finite nan p = p
neg_finite (inf s) p = p
neg_finite (fin s m e) p = tt

pub sub_num : (f : Format) (x m : Float) → IsNum x → T (finite m) → IsNum (sub f x m)
unfolding sub
sub_num f x m p q = add_num f x (neg m) p (neg_finite m q)

-- ---- with the other argument fixed
pub add_mono_left : (f : Format) (x y m : Float) → T (le x y) → IsNum (add f x m) → IsNum (add f y m) → T (le (add f x m) (add f y m))
add_mono_left f x y m h p q = add_mono f x y m m h (le_refl m (add_num_right f x m p)) p q

pub add_mono_right : (f : Format) (m x y : Float) → T (le x y) → IsNum (add f m x) → IsNum (add f m y) → T (le (add f m x) (add f m y))
add_mono_right f m x y h p q = add_mono f m m x y (le_refl m (add_num_left f m x p)) h p q

pub sub_mono_left : (f : Format) (x y m : Float) → T (le x y) → IsNum (sub f x m) → IsNum (sub f y m) → T (le (sub f x m) (sub f y m))
sub_mono_left f x y m h p q = sub_mono f x y m m h (le_refl m (sub_num_right f x m p)) p q

pub sub_anti_right : (f : Format) (m x y : Float) → T (le x y) → IsNum (sub f m x) → IsNum (sub f m y) → T (le (sub f m y) (sub f m x))
sub_anti_right f m x y h p q = sub_mono f m m y x (le_refl m (sub_num_left f m x p)) h q p
