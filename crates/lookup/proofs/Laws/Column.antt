-- The column of a grid that a coordinate x falls into: floor ((x - m) / cell), cut to the range of the grid. It keeps the order, whatever m is, for every cell that is not negative:
-- where a nan comes up, the column is 0 and no smaller x has a larger one. Assumes nothing.
use Rattle.std.specs.Prelude.{◌≡◌, ℕ, zero, suc, ◌+◌, ◌-◌, ◌*◌, ◌^◌, ◌<◌, ◌≤◌, min, Bool, true, false, cond, ◌||◌, T, ◌⊎◌, ℤ, pos, negsuc, ◌==◌, refl, Float}
use Rattle.std.proofs.Common.{sym, ap, ◌∙◌, inl, inr, ⊎_elim, zero-le, mul-pos, zero-mul, arith, true≢false}
use Rattle.std.proofs.Math.Nat.{zero-min}
use Rattle.std.proofs.Math.Dec.{eqb-suc-zero}
use Rattle.std.specs.Float.{nan, inf, fin, Format, binary32}
use Rattle.std.specs.Float.Ieee.{fits, up, down, round, sub, div, unlike, lt, le, is_nan, to_unsigned}
use Rattle.std.specs.Float.Ieee.Fits.{up_pos, down_pos, div-fits}
use Rattle.std.specs.Float.Ieee.Exact.{HasValue}
use Rattle.std.specs.Float.Ieee.Positive.{above, above_of_le, positive}
use Rattle.rounding.specs.Whole.{floor_of}
use Rattle.lookup.specs.Column.{bucket, col}
use Rattle.rounding.proofs.Laws.Order.{Le, le→Le, Le→le, Le-right, le_of_lt}
use Rattle.rounding.proofs.Laws.Basics.{or_split}
use Rattle.rounding.proofs.Laws.Rounding.{Signed, round_signed, round_zero, zero_of}
use Rattle.std.specs.Float.Ieee.Scale.{finite}
use Rattle.rounding.proofs.Laws.Sums.{sub_mono_left, sub_anti_right, sub_num}
use Rattle.rounding.proofs.Laws.Quotients.{div-Le, div_fin, unlike_false}
use Rattle.rounding.proofs.Laws.Count.{Low, low_cast, to_unsigned_mono}
use Rattle.rounding.proofs.Laws.Whole.{cast_floor}
use Rattle.rounding.proofs.Laws.Stored.{back, either}
use Rattle.lookup.specs.Column.{Width}

-- the order, or the smaller is `Low`
abbrev Weak : Float → Float → Type 0
Weak x y = T (le x y) ⊎ Low x

signed_low : (x : Float) → Signed true x → Low x
signed_low nan h = absurd h
signed_low (inf t) h = h
signed_low (fin true m e) h = tt
signed_low (fin false m e) h = absurd (true≢false (sym h))

value_low : (x : Float) (c : ℕ) → 0 < c → HasValue x false 0 c → Low x
value_low nan c C h = absurd h
value_low (inf t) c C h = absurd h
value_low (fin true m e) c C h = tt
value_low (fin false m e) c C h = zero_of m (up e * c) 0 0 (mul-pos (up_pos e) C) (let k : m * up e * c ≡ 0 * down e = h.1 in omega arith)

zero_low : (s : Bool) → Low (fin s 0 (pos 0))
zero_low true = tt
zero_low false = refl

-- x / +0
over_zero : (f : Format) (m : ℕ) (e d : ℤ) → Low (div f (fin true m e) (fin false zero d))
unfolding div
over_zero f m e d = go (m == 0)
  where
    go : (b : Bool) → Low (cond b nan (inf true))
    go true = tt
    go false = refl

over_zero_is : (f : Format) (m : ℕ) (e d : ℤ) → div f (fin false (suc m) e) (fin false zero d) ≡ inf false
unfolding div
over_zero_is f m e d = rw (eqb-suc-zero m)

wide : (n : ℕ) (d e : ℤ) → 0 < suc n * up d * down e
wide n d e = mul-pos (mul-pos (let h : 0 < suc n = omega arith in h) (up_pos d)) (down_pos e)

low_div : (f : Format) (x c : Float) → Width c → Low x → Low (div f x c)
unfolding div
low_div f nan c h k = tt
low_div f (inf s) nan h k = tt
low_div f (inf s) (inf t) h k = tt
low_div f (inf s) (fin true n d) h k = absurd (true≢false h)
low_div f (inf s) (fin false n d) h k = unlike_false s ∙ k
low_div f (fin s m e) nan h k = tt
low_div f (fin s m e) (inf true) h k = absurd (true≢false h)
low_div f (fin s m e) (inf false) h k = zero_low (unlike s false)
low_div f (fin s m e) (fin true n d) h k = absurd (true≢false h)
low_div f (fin true m e) (fin false zero d) h k = over_zero f m e d
low_div f (fin false m e) (fin false zero d) h k = rw k tt
low_div f (fin true m e) (fin false (suc n) d) h k =
    rw (div_fin f true m e n d) (signed_low (round f true (m * up e * down d) (suc n * up d * down e)) (round_signed f true (m * up e * down d) (suc n * up d * down e)))
low_div f (fin false m e) (fin false (suc n) d) h k =
    rw (div_fin f false m e n d, k, zero-mul (up e), zero-mul (down d))
    (let c = suc n * up d * down e in value_low (round f false 0 c) c (wide n d e) (round_zero f false c (wide n d e)))

none_below : (a d b c : ℕ) → 0 < a → 0 < d → a * d + b * c ≤ 0 → ⊥
none_below a d b c A D h = let k : 0 < a * d = mul-pos A D in omega arith

weak_div : (f : Format) (x y c : Float) → Width c → Le x y → Weak (div f x c) (div f y c)
unfolding div
weak_div f nan y c h k = absurd k
weak_div f (inf s) y nan h k = inr tt
weak_div f (inf s) y (inf t) h k = inr tt
weak_div f (inf s) y (fin true n d) h k = absurd (true≢false h)
weak_div f (inf true) y (fin false n d) h k = inr refl
weak_div f (inf false) nan (fin false n d) h k = absurd k
weak_div f (inf false) (inf true) (fin false n d) h k = absurd k
weak_div f (inf false) (inf false) (fin false n d) h k = inl (Le→le (inf false) (inf false) tt)
weak_div f (inf false) (fin t p g) (fin false n d) h k = absurd k
weak_div f (fin s m e) y nan h k = inr tt
weak_div f (fin s m e) y (inf true) h k = absurd (true≢false h)
weak_div f (fin s m e) y (inf false) h k = inr (zero_low (unlike s false))
weak_div f (fin s m e) y (fin true n d) h k = absurd (true≢false h)
weak_div f (fin s m e) y (fin false (suc n) d) h k = inl (div-Le f (fin s m e) y n d k)
weak_div f (fin true m e) y (fin false zero d) h k = inr (over_zero f m e d)
weak_div f (fin false zero e) y (fin false zero d) h k = inr tt
weak_div f (fin false (suc m) e) nan (fin false zero d) h k = absurd k
weak_div f (fin false (suc m) e) (inf true) (fin false zero d) h k = absurd k
weak_div f (fin false (suc m) e) (inf false) (fin false zero d) h k = inl (rw (over_zero_is f m e d) (Le→le (inf false) (inf false) tt))
weak_div f (fin false (suc m) e) (fin true p g) (fin false zero d) h k = absurd (none_below (suc m * up e) (down g) (p * up g) (down e) (mul-pos (omega arith) (up_pos e)) (down_pos g) (omega arith))
weak_div f (fin false (suc m) e) (fin false zero g) (fin false zero d) h k = absurd (none_below (suc m * up e) (down g) 0 0 (mul-pos (omega arith) (up_pos e)) (down_pos g) (omega arith))
weak_div f (fin false (suc m) e) (fin false (suc p) g) (fin false zero d) h k = inl (rw (over_zero_is f m e d, over_zero_is f p g d) (Le→le (inf false) (inf false) tt))

weak_sub : (f : Format) (x y m : Float) → Le x y → Weak (sub f x m) (sub f y m)
unfolding sub
weak_sub f nan y m h = absurd h
weak_sub f (inf true) y nan h = inr tt
weak_sub f (inf true) y (inf true) h = inr tt
weak_sub f (inf true) y (inf false) h = inr refl
weak_sub f (inf true) y (fin t n d) h = inr refl
weak_sub f (inf false) nan m h = absurd h
weak_sub f (inf false) (inf true) m h = absurd h
weak_sub f (inf false) (inf false) nan h = inr tt
weak_sub f (inf false) (inf false) (inf true) h = inl (Le→le (inf false) (inf false) tt)
weak_sub f (inf false) (inf false) (inf false) h = inr tt
weak_sub f (inf false) (inf false) (fin t n d) h = inl (Le→le (inf false) (inf false) tt)
weak_sub f (inf false) (fin t n d) m h = absurd h
weak_sub f (fin s m e) y nan h = inr tt
weak_sub f (fin s m e) y (inf false) h = inr refl
weak_sub f (fin s m e) nan (inf true) h = absurd h
weak_sub f (fin s m e) (inf true) (inf true) h = absurd h
weak_sub f (fin s m e) (inf false) (inf true) h = inl (Le→le (inf false) (inf false) tt)
weak_sub f (fin s m e) (fin t n d) (inf true) h = inl (Le→le (inf false) (inf false) tt)
weak_sub f (fin s m e) y (fin t n d) h = inl (sub_mono_left f (fin s m e) y (fin t n d) (Le→le (fin s m e) y h) (sub_num f (fin s m e) (fin t n d) tt tt) (sub_num f y (fin t n d) (Le-right (fin s m e) y h) tt))

-- ---- the column as one expression
nan_cast : (w : ℕ) (x : Float) → T (is_nan x) → to_unsigned w x ≡ 0
unfolding is_nan to_unsigned
nan_cast w nan h = refl
nan_cast w (inf s) h = absurd h
nan_cast w (fin s m e) h = absurd h

zero_cast : to_unsigned 64 (fin false 0 (pos 0)) ≡ 0
unfolding to_unsigned
zero_cast = refl

none_cast : (i : Float) → T (is_nan i || lt i (fin false 0 (pos 0))) → to_unsigned 64 i ≡ 0
none_cast i h =
    elim (or_split (is_nan i) (lt i (fin false 0 (pos 0))) h) [
      | inl n ↦ nan_cast 64 i n
      | inr l ↦ let k : to_unsigned 64 i ≤ to_unsigned 64 (fin false 0 (pos 0)) = to_unsigned_mono 64 i (fin false 0 (pos 0)) (le_of_lt i (fin false 0 (pos 0)) l) in omega (arith, zero_cast)
    ]

pub bucket_is : (f : Format) (off cell : Float) (count : ℕ) → bucket f off cell count ≡ min (to_unsigned 64 (floor_of f (div f off cell))) (count - 1)
unfolding bucket
bucket_is f off cell count = go (is_nan (floor_of f (div f off cell)) || lt (floor_of f (div f off cell)) (fin false 0 (pos 0))) (none_cast (floor_of f (div f off cell)))
  where
    go : (b : Bool) → (T b → to_unsigned 64 (floor_of f (div f off cell)) ≡ 0)
        → cond b 0 (min (to_unsigned 64 (floor_of f (div f off cell))) (count - 1)) ≡ min (to_unsigned 64 (floor_of f (div f off cell))) (count - 1)
    go true p = rw (p tt) (sym (zero-min (count - 1)))
    go false p = refl

-- so neither the floor nor the tests for a nan and for a negative number change the column
pub bucket_cut : (f : Format) (off cell : Float) (count : ℕ) → bucket f off cell count ≡ min (to_unsigned 64 (div f off cell)) (count - 1)
bucket_cut f off cell count = bucket_is f off cell count ∙ ap (λ (z : ℕ). min z (count - 1)) (cast_floor 64 f (div f off cell) (div-fits f off cell))

-- ---- it keeps the order
weak_bucket : (f : Format) (x y cell : Float) (count : ℕ) → Width cell → Weak x y → bucket f x cell count ≤ bucket f y cell count
weak_bucket f x y cell count w h = rw (bucket_cut f x cell count, bucket_cut f y cell count) (capped (to_unsigned 64 (div f x cell)) (to_unsigned 64 (div f y cell)) (count - 1) (cast (div f x cell) (div f y cell) (quotients h)))
  where
    capped : (a b k : ℕ) → a ≤ b → min a k ≤ min b k
    capped a b k h = omega arith

    cast : (x y : Float) → Weak x y → to_unsigned 64 x ≤ to_unsigned 64 y
    cast x y h = elim h [ inl l ↦ to_unsigned_mono 64 x y l | inr l ↦ rw (low_cast 64 x l) zero-le ]

    quotients : Weak x y → Weak (div f x cell) (div f y cell)
    quotients h = elim h [ inl l ↦ weak_div f x y cell w (le→Le x y l) | inr l ↦ inr (low_div f x cell w l) ]

pub col_mono : (f : Format) (m cell : Float) (count : ℕ) (x y : Float) → Width cell → T (le x y) → col f m cell count x ≤ col f m cell count y
unfolding col
col_mono f m cell count x y w h = weak_bucket f (sub f x m) (sub f y m) cell count w (weak_sub f x y m (le→Le x y h))

-- of a point p between a and b: no side condition on m, which may be infinite or a nan
pub col_between : (f : Format) (m cell : Float) (count : ℕ) (a p b : Float) → Width cell → T (le a p) → T (le p b)
    → (col f m cell count a ≤ col f m cell count p) × (col f m cell count p ≤ col f m cell count b)
col_between f m cell count a p b w h k = (col_mono f m cell count a p w h, col_mono f m cell count p b w k)

pub col_lt : (f : Format) (m cell : Float) (count : ℕ) (x : Float) → 0 < count → col f m cell count x < count
unfolding col
col_lt f m cell count x h = rw (bucket_is f (sub f x m) cell count) (omega arith)

-- which widths there are: a nan, +0 and all above
pub width_above : (c : Float) → T (above c) → Width c
width_above nan h = tt
width_above (inf true) h = absurd h
width_above (inf false) h = refl
width_above (fin true m e) h = absurd h
width_above (fin false m e) h = refl

-- at least some positive number
pub width_ge : (lo c : Float) → T (positive lo) → T (le lo c) → Width c
width_ge lo c p h = width_above c (above_of_le lo c p h)

-- ---- the columns where an infinity stands. With m = +infinity, or an infinite cell, every x has the column 0.
pub low_bucket : (f : Format) (off cell : Float) (count : ℕ) → Width cell → Low off → bucket f off cell count ≡ 0
low_bucket f off cell count w h = rw (bucket_cut f off cell count, low_cast 64 (div f off cell) (low_div f off cell w h)) (zero-min (count - 1))

low_sub_inf : (f : Format) (x : Float) → Low (sub f x (inf false))
unfolding sub
low_sub_inf f nan = tt
low_sub_inf f (inf true) = refl
low_sub_inf f (inf false) = tt
low_sub_inf f (fin s m e) = refl

pub col_m_inf : (f : Format) (cell : Float) (count : ℕ) (x : Float) → Width cell → col f (inf false) cell count x ≡ 0
unfolding col
col_m_inf f cell count x w = low_bucket f (sub f x (inf false)) cell count w (low_sub_inf f x)

low_over_inf : (f : Format) (x : Float) → Low (div f x (inf false))
unfolding div
low_over_inf f nan = tt
low_over_inf f (inf s) = tt
low_over_inf f (fin s m e) = zero_low (unlike s false)

pub col_cell_inf : (f : Format) (m : Float) (count : ℕ) (x : Float) → col f m (inf false) count x ≡ 0
unfolding col
col_cell_inf f m count x = rw (bucket_cut f (sub f x m) (inf false) count, low_cast 64 (div f (sub f x m) (inf false)) (low_over_inf f (sub f x m))) (zero-min (count - 1))

-- with m = -infinity and a finite cell every x but -infinity has the last column
pub col_m_minus_inf : (f : Format) (n : ℕ) (d : ℤ) (count : ℕ) (x : Float) → T (lt (inf true) x) → col f (inf true) (fin false n d) count x ≡ min (2 ^ 64 - 1) (count - 1)
unfolding col lt
col_m_minus_inf f n d count nan h = absurd h
col_m_minus_inf f n d count (inf true) h = absurd h
col_m_minus_inf f n d count (inf false) h = refl
col_m_minus_inf f n d count (fin s m e) h = refl

-- ---- a negative cell, and -0, turn the order round: at m = 0 with two columns, -1 has the column 1, and 1 the column 0
turned : (col binary32 (fin false 0 (pos 0)) (fin true 1 (pos 0)) 2 (fin true 1 (pos 0)) ≡ 1) × (col binary32 (fin false 0 (pos 0)) (fin true 1 (pos 0)) 2 (fin false 1 (pos 0)) ≡ 0)
unfolding col
turned = (refl, refl)

turned_zero : (col binary32 (fin false 0 (pos 0)) (fin true 0 (pos 0)) 2 (fin true 1 (pos 0)) ≡ 1) × (col binary32 (fin false 0 (pos 0)) (fin true 0 (pos 0)) 2 (fin false 1 (pos 0)) ≡ 0)
unfolding col
turned_zero = (refl, refl)

-- 0.7 in binary32 is 11744051 / 2 ^ 24, and 0.1 is 13421773 / 2 ^ 27: the quotient of the two, 6.99999977.., rounds to 7
example : col binary32 (fin false 0 (pos 0)) (fin false 13421773 (negsuc 26)) 100 (fin false 11744051 (negsuc 23)) ≡ 7
unfolding col
example = refl

-- ---- two edges that are equal numbers, as the two zeros, give the same columns
weak_sub_right : (f : Format) (x m n : Float) → T (finite m) → T (finite n) → T (le m n) → Weak (sub f x n) (sub f x m)
unfolding sub
weak_sub_right f nan m n p q h = inr tt
weak_sub_right f (inf s) m n p q h = inl (sub_anti_right f (inf s) m n h (sub_num f (inf s) m tt p) (sub_num f (inf s) n tt q))
weak_sub_right f (fin s a e) m n p q h = inl (sub_anti_right f (fin s a e) m n h (sub_num f (fin s a e) m tt p) (sub_num f (fin s a e) n tt q))

pub col_equal : (f : Format) (m n cell : Float) (count : ℕ) (x : Float) → Width cell → T (finite m) → T (finite n) → T (le m n) → T (le n m)
    → col f m cell count x ≡ col f n cell count x
unfolding col
col_equal f m n cell count x w p q h k =
    let a = weak_bucket f (sub f x n) (sub f x m) cell count w (weak_sub_right f x m n p q h) in
    let b = weak_bucket f (sub f x m) (sub f x n) cell count w (weak_sub_right f x n m q p k) in
    omega arith

-- ---- an edge that is stored and read back has the same columns: only the sign of a zero is lost
pub col_back : (m cell : Float) (count : ℕ) (x : Float) → T (fits binary32 m) → Width cell → col binary32 (back m) cell count x ≡ col binary32 m cell count x
col_back m cell count x h w =
    ⊎_elim (λ e. ap (λ (y : Float). col binary32 y cell count x) e)
    (λ z. col_equal binary32 (back m) m cell count x w z.left z.right z.up z.down)
    (either m h)
