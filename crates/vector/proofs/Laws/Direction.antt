-- A direction that `normalize_or` makes has its three components between -2 and 2, so none of them is infinite or a NaN. Assumes nothing.
-- A component c is compared with the powers of two. Where 2 ^ k ≤ |c| ≤ 2 ^ (k + 1), the length is at least the root of the square of 2 ^ k, all of them rounded,
-- so that |c| over the length is at most 2 ^ (k + 1) over that root, which antt works out for each k.
use Rattle.std.specs.Prelude.{◌≡◌, ◌⊎◌, Bool, true, ◌&&◌, ℤ, pos, negsuc, T, Float}
use Rattle.std.proofs.Math.Path.{refl}
use Rattle.std.proofs.Common.{sym, ap, ◌∙◌, subst, mul-pos, zero-lt-suc, mul-le-mul_right, arith, true≢false, lt→ltb, pow_pos}
use Rattle.std.proofs.Math.Logic.{inl, inr}
use Prim.Native.Nat.{ℕ, zero, suc, ◌+◌, ◌*◌, ◌^◌, ◌≤◌, ◌<◌}
use Rattle.std.proofs.Math.Bool.{false}
use Rattle.std.specs.Float.{nan, inf, fin, Format}
use Rattle.std.specs.Float.Ieee.{binary32, up, down, round, add, mul, div, neg, lt, le, fits, of_bits}
use Rattle.std.specs.Float.Ieee.Fits.{and_l, and_r, up_pos, add-fits, mul-fits}
use Rattle.std.specs.Float.Ieee.Positive.{positive, positive-finite, first_pos, above_of_le}
use Rattle.std.specs.Float.Ieee.Scale.{finite}
use Rattle.rounding.specs.Root.{sqrt_of}
use Rattle.rounding.proofs.Laws.Order.{le→Le, Le→le, le_num_left, le_trans, le_of_lt, le_or_lt, lt→not_le, lt_num_right, zeros}
use Rattle.rounding.specs.Numbers.{IsNum}
use Rattle.rounding.proofs.Laws.Rounding.{Signed, round_signed, round_minus, neg_is, neg_anti}
use Rattle.rounding.proofs.Laws.Representable.{held}
use Rattle.rounding.proofs.Laws.Sums.{add_num_left, add_num_right}
use Rattle.rounding.proofs.Laws.Products.{mul_mono, mul_mono_right, mul_mono_signed, mul_num_finite}
use Rattle.rounding.proofs.Laws.Quotients.{div_fin}
use Rattle.rounding.proofs.Laws.Least.{signed_least, minus_le, sum_least, add_at_least_left, add_at_least_right, div_anti}
use Rattle.rounding.proofs.Laws.RootOrder.{sqrt_mono}
use Rattle.rounding.specs.Numbers.{nought}
use Rattle.vector.specs.Single.{single, 0f, 1f}
use Rattle.vector.specs.Coords.{length_squared_of, length_of, vector_mul, normalize_or, normalize_or_zero, zero_vector, vector_finite}
use Rattle.vector.proofs.Laws.{like, square_least, length_squared_least, Directed, normalize_or_cases}
use Rattle.vector.specs.declared.coords.Vector.{Vector}

-- ---- the square of each component is at most the length's

record Squares (a : Vector) : Type 0 where
  square_x : T (le (mul binary32 a.x a.x) (length_squared_of a))
  square_y : T (le (mul binary32 a.y a.y) (length_squared_of a))
  square_z : T (le (mul binary32 a.z a.z) (length_squared_of a))

squares : (a : Vector) → IsNum (length_squared_of a) → Squares a
unfolding length_squared_of
squares a n =
    let f = binary32 in
    let x = mul f a.x a.x in
    let y = mul f a.y a.y in
    let z = mul f a.z a.z in
    let k : IsNum (add f x y) = add_num_left f (add f x y) z n in
    let p : T (le nought x) = square_least f a.x (add_num_left f x y k) in
    let q : T (le nought y) = square_least f a.y (add_num_right f x y k) in
    let r : T (le nought z) = square_least f a.z (add_num_right f (add f x y) z n) in
    let s : T (le nought (add f x y)) = sum_least f x y p q k in
    let t : T (le (add f x y) (add f (add f x y) z)) = add_at_least_left f (add f x y) z (add-fits f x y) s r n in
    record {
      square_x = le_trans x (add f x y) (add f (add f x y) z) (add_at_least_left f x y (mul-fits f a.x a.x) p q k) t;
      square_y = le_trans y (add f x y) (add f (add f x y) z) (add_at_least_right f x y (mul-fits f a.y a.y) p q k) t;
      square_z = add_at_least_right f (add f x y) z (mul-fits f a.z a.z) s r n;
    }

-- ---- what has a root above zero is at least the smallest value, 2 ^ -149

abbrev least : Float
least = fin false 1 (negsuc 148)

root_zero : (f : Format) (s : Bool) (e : ℤ) → sqrt_of f (fin s 0 e) ≡ fin s 0 e
unfolding sqrt_of
root_zero f s e = refl

some : (m : ℕ) (e : ℤ) → 0 < suc m * up e
some m e = mul-pos (zero-lt-suc m) (up_pos e)

smallest : (N D B r : ℕ) → 0 < N → 0 < B → N * B ≡ r * D → 1 * 1 * D + 0 * B ≤ N * B + 0 * D
smallest N D B r n b v =
    let p : 0 < r = first_pos r D (subst (λ (z : ℕ). 0 < z) v (mul-pos n b)) in
    let q : 1 * D ≤ r * D = mul-le-mul_right D p in
    omega arith

at_least : (d : Float) → T (fits binary32 d) → T (le nought d) → T (lt nought (sqrt_of binary32 d)) → T (le least d)
at_least nan F h l = absurd (le→Le nought nan h)
at_least (inf true) F h l = absurd (le→Le nought (inf true) h)
at_least (inf false) F h l = Le→le least (inf false) tt
at_least (fin s zero e) F h l = absurd (lt→not_le nought (fin s 0 e) (rw (root_zero binary32 s e) at l) (Le→le (fin s 0 e) nought (zeros s e false (pos 0))))
at_least (fin true (suc m) e) F h l = absurd (let p = some m e in let k = le→Le nought (fin true (suc m) e) h in omega arith)
at_least (fin false (suc m) e) F h l =
    let k = held binary32 false (suc m) e F in
    Le→le least (fin false (suc m) e) (smallest (suc m * up e) (down e) (2 ^ 149) (k.q * 2 ^ k.j) (some m e) (pow_pos 149) k.value)

-- ---- 1 over a length, times a component

abbrev one : Float
one = fin false 1 (pos 0)

-- the single 2.0
abbrev pub two : Float
two = fin false 1 (pos 1)

pub two_is : single 0x4000_0000 ≡ two
unfolding of_bits
two_is = refl

-- 1 over the root of d
abbrev over : Float → Float
over d = div binary32 one (sqrt_of binary32 d)

above_zero : (x : Float) → T (finite x) → T (lt nought x) → T (positive x)
above_zero nan p h = p
above_zero (inf s) p h = absurd p
above_zero (fin true m e) p h = absurd (lt→not_le nought (fin true m e) h (minus_le m e))
above_zero (fin false zero e) p h = absurd (lt→not_le nought (fin false 0 e) h (Le→le (fin false 0 e) nought (zeros false e false (pos 0))))
above_zero (fin false (suc m) e) p h = lt→ltb 0 (suc m) (zero-lt-suc m)

over_signed : (x : Float) → T (positive x) → Signed false (div binary32 one x)
over_signed nan p = absurd p
over_signed (inf s) p = absurd p
over_signed (fin true m e) p = absurd p
over_signed (fin false zero e) p = absurd p
over_signed (fin false (suc m) e) p = rw (div_fin binary32 false 1 (pos 0) m e) (round_signed binary32 false (1 * 1 * down e) (suc m * up e * 1))

finite_under : (x y : Float) → Signed false x → T (le x y) → T (finite y) → T (finite x)
finite_under nan y s h p = absurd s
finite_under (inf true) y s h p = absurd (true≢false s)
finite_under (inf false) nan s h p = p
finite_under (inf false) (inf t) s h p = p
finite_under (inf false) (fin t n d) s h p = absurd (le→Le (inf false) (fin t n d) h)
finite_under (fin t m e) y s h p = tt

-- ---- the powers of two, from 2 ^ -74 on

-- 2 ^ (k - 74)
unfoldable power : ℕ → Float
power k = fin false (2 ^ k) (negsuc 73)

power_pos : (k : ℕ) → T (positive (power k))
unfolding power
power_pos k = lt→ltb 0 (2 ^ k) (pow_pos k)

power_num : (k : ℕ) → IsNum (power k)
unfolding power
power_num k = tt

-- the next power over the root of this one's square is at most 2
unfoldable check : ℕ → Bool
unfolding power sqrt_of mul div le
check k = positive (sqrt_of binary32 (mul binary32 (power k) (power k))) && le (mul binary32 (power (suc k)) (over (mul binary32 (power k) (power k)))) two

record Passed (k : ℕ) : Type 0 where
  root : T (positive (sqrt_of binary32 (mul binary32 (power k) (power k))))
  small : T (le (mul binary32 (power (suc k)) (over (mul binary32 (power k) (power k)))) two)

passed : (k : ℕ) → T (check k) → Passed k
unfolding check
passed k t =
    let a = positive (sqrt_of binary32 (mul binary32 (power k) (power k))) in
    let b = le (mul binary32 (power (suc k)) (over (mul binary32 (power k) (power k)))) two in
    record { root = and_l a b t; small = and_r a b t }

-- the first n powers
unfoldable checks : ℕ → Bool
unfolding check
checks zero = true
checks (suc n) = check n && checks n

all_checked : T (checks 138)
unfolding checks
all_checked = tt

-- 2 ^ -74 over the root of the smallest value
first_small : T (le (mul binary32 (power 0) (over least)) two)
unfolding power mul div sqrt_of le
first_small = tt

-- the square of 2 ^ 64 is too large
top_square : T (le (inf false) (mul binary32 (power 138) (power 138)))
unfolding power mul le
top_square = tt

-- ---- a number between -2 and 2

pub record Between (v : Float) : Type 0 where
  pub low : T (le (neg two) v)
  pub high : T (le v two)

minus_two : T (le (neg two) nought)
unfolding le neg
minus_two = tt

plus : (v : Float) → Signed false v → T (le v two) → Between v
plus v s h = record { low = le_trans (neg two) nought v minus_two (signed_least v s); high = h }

neg_neg : neg (neg two) ≡ two
unfolding neg
neg_neg = refl

turned : (v : Float) → Between v → Between (neg v)
turned v h = record { low = neg_anti v two h.high; high = rw neg_neg at (neg_anti (neg two) v h.low) }

-- ---- the sign of a component

nan_square : (d : Float) → T (le (mul binary32 nan nan) d) → ⊥
unfolding mul
nan_square d h = le→Le nan d h

inf_square : (s : Bool) → mul binary32 (inf s) (inf s) ≡ inf false
unfolding mul
inf_square s = ap inf (like s)

minus_square : (m : ℕ) (e : ℤ) → mul binary32 (fin true m e) (fin true m e) ≡ mul binary32 (fin false m e) (fin false m e)
unfolding mul
minus_square m e = refl

mul_signed : (m : ℕ) (e : ℤ) (r : Float) → Signed false r → T (finite r) → Signed false (mul binary32 (fin false m e) r)
unfolding mul
mul_signed m e nan s p = absurd p
mul_signed m e (inf t) s p = absurd p
mul_signed m e (fin true n d) s p = absurd (true≢false s)
mul_signed m e (fin false n d) s p = round_signed binary32 false (m * up e * (n * up d)) (down e * down d)

mul_minus : (m : ℕ) (e : ℤ) (r : Float) → Signed false r → T (finite r) → mul binary32 (fin true m e) r ≡ neg (mul binary32 (fin false m e) r)
unfolding mul
mul_minus m e nan s p = absurd p
mul_minus m e (inf t) s p = absurd p
mul_minus m e (fin true n d) s p = absurd (true≢false s)
mul_minus m e (fin false n d) s p =
    round_minus binary32 (m * up e * (n * up d)) (down e * down d) ∙ sym (neg_is (round binary32 false (m * up e * (n * up d)) (down e * down d)))

of_root : (d : Float) → IsNum (sqrt_of binary32 d) → IsNum d
unfolding sqrt_of
of_root nan n = n
of_root (inf s) n = tt
of_root (fin s m e) n = tt

squared_fits : (a : Vector) → T (fits binary32 (length_squared_of a))
unfolding length_squared_of
squared_fits a = add-fits binary32 _ _

-- ---- d is the square of a length that is finite and above zero, c a component, m * 2 ^ e its size
module _ (d : Float) (F : T (fits binary32 d)) (least_d : T (le nought d)) (bounded : T (finite (sqrt_of binary32 d))) (some_d : T (lt nought (sqrt_of binary32 d))) where
  root_positive : T (positive (sqrt_of binary32 d))
  root_positive = above_zero (sqrt_of binary32 d) bounded some_d

  signed : Signed false (over d)
  signed = over_signed (sqrt_of binary32 d) root_positive

  over_le : (q : Float) → T (le nought q) → T (le q d) → T (positive (sqrt_of binary32 q)) → T (le (over d) (over q))
  over_le q h k p = div_anti binary32 1 (pos 0) (sqrt_of binary32 q) (sqrt_of binary32 d) p (sqrt_mono binary32 q d h k)

  over_least : T (le (over d) (over least))
  over_least = over_le least (unfold le in tt) (at_least d F least_d some_d) (unfold sqrt_of in tt)

  over_finite : T (finite (over d))
  over_finite = finite_under (over d) (over least) signed over_least (unfold sqrt_of div in tt)

  -- c is at most p, and q is at most d
  times : (c p q : Float) → T (finite c) → T (positive p) → T (le c p) → T (le (over d) (over q)) → T (le (mul binary32 c (over d)) (mul binary32 p (over q)))
  times c p q C P h k =
      let f = binary32 in
      le_trans (mul f c (over d)) (mul f p (over d)) (mul f p (over q))
      (mul_mono_signed f c p (over d) h signed (mul_num_finite f c (over d) C over_finite) (mul_num_finite f p (over d) (positive-finite p P) over_finite))
      (mul_mono_right f p (over d) (over q) P k)

  -- a power that is at most c has a square that is at most d
  squared : (p : Float) (m : ℕ) (e : ℤ) → T (positive p) → T (le p (fin false m e)) → T (le (mul binary32 (fin false m e) (fin false m e)) d) → T (le (mul binary32 p p) d)
  squared p m e P h k =
      let f = binary32 in
      let c = fin false m e in
      let C : T (positive c) = above_of_le p c P h in
      le_trans (mul f p p) (mul f c c) d (le_trans (mul f p p) (mul f p c) (mul f c c) (mul_mono_right f p p c P h) (mul_mono f p c c h C)) k

  not_inf : T (le (inf false) d) → ⊥
  not_inf h = absurd_root (sqrt_of binary32 d) bounded (rw (root_inf binary32) at (sqrt_mono binary32 (inf false) d (Le→le nought (inf false) tt) h))
    where
      root_inf : (f : Format) → sqrt_of f (inf false) ≡ inf false
      root_inf f = unfold sqrt_of in refl

      absurd_root : (x : Float) → T (finite x) → T (le (inf false) x) → ⊥
      absurd_root nan p h = p
      absurd_root (inf s) p h = p
      absurd_root (fin s m e) p h = le→Le (inf false) (fin s m e) h

  -- c lies between a power and the next
  step : (m : ℕ) (e : ℤ) → T (le (mul binary32 (fin false m e) (fin false m e)) d) → (n : ℕ) → Passed n → T (le (power n) (fin false m e)) → T (le (fin false m e) (power (suc n)))
      → T (le (mul binary32 (fin false m e) (over d)) two)
  step m e k n o l h =
      let f = binary32 in
      let c = fin false m e in
      let q = mul f (power n) (power n) in
      let s : T (le q d) = squared (power n) m e (power_pos n) l k in
      le_trans (mul f c (over d)) (mul f (power (suc n)) (over q)) two
      (times c (power (suc n)) q tt (power_pos (suc n)) h (over_le q (square_least f (power n) (le_num_left q d s)) s o.root))
      o.small

  -- c is at most a power
  walk : (m : ℕ) (e : ℤ) → T (le (mul binary32 (fin false m e) (fin false m e)) d) → (n : ℕ) → T (checks n) → T (le (fin false m e) (power n)) → T (le (mul binary32 (fin false m e) (over d)) two)
  unfolding checks
  walk m e k zero t h =
      le_trans (mul binary32 (fin false m e) (over d)) (mul binary32 (power 0) (over least)) two (times (fin false m e) (power 0) least tt (power_pos 0) h over_least) first_small
  walk m e k (suc n) t h =
      elim (le_or_lt (fin false m e) (power n) tt (power_num n)) [
        | inl l ↦ walk m e k n (and_r (check n) (checks n) t) l
        | inr l ↦ step m e k n (passed n (and_l (check n) (checks n) t)) (le_of_lt (power n) (fin false m e) l) h
      ]

  -- c is at most 2 ^ 64, whose square is infinite
  size_bounded : (m : ℕ) (e : ℤ) → T (le (mul binary32 (fin false m e) (fin false m e)) d) → T (le (mul binary32 (fin false m e) (over d)) two)
  size_bounded m e k =
      elim (le_or_lt (fin false m e) (power 138) tt (power_num 138)) [
        | inl l ↦ walk m e k 138 all_checked l
        | inr l ↦ absurd (not_inf (le_trans (inf false) (mul binary32 (power 138) (power 138)) d top_square (squared (power 138) m e (power_pos 138) (le_of_lt (power 138) (fin false m e) l) k)))
      ]

  -- ---- with its sign
  component : (c : Float) → T (le (mul binary32 c c) d) → Between (mul binary32 c (over d))
  component nan k = absurd (nan_square d k)
  component (inf s) k = absurd (not_inf (rw (inf_square s) at k))
  component (fin false m e) k = plus (mul binary32 (fin false m e) (over d)) (mul_signed m e (over d) signed over_finite) (size_bounded m e k)
  component (fin true m e) k =
      rw (mul_minus m e (over d) signed over_finite)
      (turned (mul binary32 (fin false m e) (over d)) (plus (mul binary32 (fin false m e) (over d)) (mul_signed m e (over d) signed over_finite) (size_bounded m e (rw (minus_square m e) at k))))

-- ---- the law

pub record VectorBetween (v : Vector) : Type 0 where
  pub in_x : Between v.x
  pub in_y : Between v.y
  pub in_z : Between v.z

ones : 1f ≡ one
unfolding of_bits
ones = refl

noughts : 0f ≡ nought
unfolding of_bits
noughts = refl

pub directed_bounded : (a r : Vector) → Directed a r → VectorBetween r
unfolding length_of vector_mul
directed_bounded a r h =
    let d = length_squared_of a in
    let l : T (lt nought (sqrt_of binary32 d)) = rw noughts at h.some in
    let n : IsNum d = of_root d (lt_num_right nought (sqrt_of binary32 d) l) in
    let p : T (le nought d) = length_squared_least a n in
    let q = squares a n in
    let fd : T (fits binary32 d) = squared_fits a in
    let e : r ≡ vector_mul a (over d) = rw ones at h.is in
    rw e
    (record {
      in_x = component d fd p h.bounded l a.x q.square_x;
      in_y = component d fd p h.bounded l a.y q.square_y;
      in_z = component d fd p h.bounded l a.z q.square_z;
    })

pub normalize_or_bounded : (a fallback : Vector) → (normalize_or a fallback ≡ fallback) ⊎ VectorBetween (normalize_or a fallback)
normalize_or_bounded a fallback = elim (normalize_or_cases a fallback) [ inl e ↦ inl e | inr h ↦ inr (directed_bounded a (normalize_or a fallback) h) ]

-- ---- so every component is finite

pub between_finite : (v : Float) → Between v → T (finite v)
unfolding neg
between_finite nan h = absurd (le→Le nan two h.high)
between_finite (inf true) h = absurd (le→Le (neg two) (inf true) h.low)
between_finite (inf false) h = absurd (le→Le (inf false) two h.high)
between_finite (fin s m e) h = tt

passes : (b : Bool) → T b → b ≡ true
passes true t = refl
passes false t = absurd t

pub vector_finite_lem : (v : Vector) → VectorBetween v → vector_finite v ≡ true
unfolding vector_finite
vector_finite_lem v h = rw (passes (finite v.x) (between_finite v.x h.in_x), passes (finite v.y) (between_finite v.y h.in_y), passes (finite v.z) (between_finite v.z h.in_z))

pub normalize_or_finite : (a fallback : Vector) → (normalize_or a fallback ≡ fallback) ⊎ (vector_finite (normalize_or a fallback) ≡ true)
normalize_or_finite a fallback = elim (normalize_or_bounded a fallback) [ inl e ↦ inl e | inr h ↦ inr (vector_finite_lem (normalize_or a fallback) h) ]

-- so a finite fallback makes every result finite
pub normalize_or_keeps_finite : (a fallback : Vector) → vector_finite fallback ≡ true → vector_finite (normalize_or a fallback) ≡ true
normalize_or_keeps_finite a fallback h = elim (normalize_or_finite a fallback) [ inl e ↦ rw e h | inr g ↦ g ]

zero_finite : vector_finite zero_vector ≡ true
unfolding vector_finite zero_vector of_bits
zero_finite = refl

pub normalize_or_zero_finite : (a : Vector) → vector_finite (normalize_or_zero a) ≡ true
unfolding normalize_or_zero
normalize_or_zero_finite a = normalize_or_keeps_finite a zero_vector zero_finite
