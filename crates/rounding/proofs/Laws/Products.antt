-- A product x * c grows with x, for a c that is not negative and has the sign bit clear: a number above 0, +0 or +infinity, wherever the results are no nan.
-- For a c that is finite and above 0 they never are. And a product is the same either way round. Assumes nothing.
use Rattle.std.specs.Prelude.{◌≡◌, ℕ, zero, suc, ◌*◌, ◌<◌, Bool, true, false, cond, T, ℤ, ◌==◌, refl, Float}
use Rattle.std.proofs.Common.{ap, mul_comm as times_comm, mul-pos, zero-lt-suc, true≢false}
use Rattle.std.proofs.Math.Dec.{eqb-suc-zero}
use Rattle.std.specs.Float.{nan, inf, fin, Format}
use Rattle.std.specs.Float.Ieee.{up, down, round, unlike, mul, le}
use Rattle.std.specs.Float.Ieee.Fits.{up_pos, down_pos}
use Rattle.std.specs.Float.Ieee.Scale.{finite}
use Rattle.std.specs.Float.Ieee.Positive.{positive}
use Rattle.rounding.proofs.Laws.Signed.{cross_mul}
use Rattle.rounding.proofs.Laws.Order.{Le, le→Le, Le→le, le_bottom, le_top, Le-right, infs}
use Rattle.rounding.specs.Numbers.{IsNum}
use Rattle.rounding.proofs.Laws.Rounding.{Signed, round_order, round_num}
use Rattle.rounding.proofs.Laws.Quotients.{unlike_false}

unlike_comm : (s t : Bool) → unlike s t ≡ unlike t s
unlike_comm true true = refl
unlike_comm true false = refl
unlike_comm false true = refl
unlike_comm false false = refl

pub mul_comm : (f : Format) (x y : Float) → mul f x y ≡ mul f y x
unfolding mul
mul_comm f nan nan = refl
mul_comm f nan (inf t) = refl
mul_comm f nan (fin t n d) = refl
mul_comm f (inf s) nan = refl
mul_comm f (inf s) (inf t) = ap inf (unlike_comm s t)
mul_comm f (inf s) (fin t n d) = ap (λ (u : Bool). cond (n == 0) nan (inf u)) (unlike_comm s t)
mul_comm f (fin s m e) nan = refl
mul_comm f (fin s m e) (inf t) = ap (λ (u : Bool). cond (m == 0) nan (inf u)) (unlike_comm s t)
mul_comm f (fin s m e) (fin t n d) = rw (unlike_comm s t, times_comm (m * up e) (n * up d), times_comm (down e) (down d))

-- ---- by a finite number that is not negative
pub mul_fin : (f : Format) (s : Bool) (m : ℕ) (e : ℤ) (n : ℕ) (d : ℤ) → mul f (fin s m e) (fin false n d) ≡ round f s (m * up e * (n * up d)) (down d * down e)
unfolding mul
mul_fin f s m e n d = rw (unlike_false s, times_comm (down e) (down d))

pub mul_inf : (f : Format) (s : Bool) (n : ℕ) (d : ℤ) → mul f (inf s) (fin false (suc n) d) ≡ inf s
unfolding mul
mul_inf f s n d = rw (eqb-suc-zero n, unlike_false s)

mul_fin_num : (f : Format) (x : Float) (n : ℕ) (d : ℤ) → IsNum x → IsNum (mul f x (fin false (suc n) d))
mul_fin_num f nan n d p = absurd p
mul_fin_num f (inf s) n d p = rw (mul_inf f s n d) tt
mul_fin_num f (fin s m e) n d p = rw (mul_fin f s m e (suc n) d) (round_num f s (m * up e * (suc n * up d)) (down d * down e))

finite-Le : (f : Format) (s : Bool) (m : ℕ) (e : ℤ) (t : Bool) (k : ℕ) (g : ℤ) (n : ℕ) (d : ℤ) → Le (fin s m e) (fin t k g) → T (le (mul f (fin s m e) (fin false n d)) (mul f (fin t k g) (fin false n d)))
finite-Le f s m e t k g n d h =
    rw (mul_fin f s m e n d, mul_fin f t k g n d)
    (round_order f s (m * up e * (n * up d)) (down d * down e) t (k * up g * (n * up d)) (down d * down g) (mul-pos (down_pos d) (down_pos e)) (mul-pos (down_pos d) (down_pos g))
    (cross_mul s (m * up e) (down e) t (k * up g) (down g) (n * up d) (down d) h))

mul-Le : (f : Format) (x y : Float) (n : ℕ) (d : ℤ) → Le x y → T (le (mul f x (fin false (suc n) d)) (mul f y (fin false (suc n) d)))
mul-Le f nan y n d h = absurd h
mul-Le f (inf true) y n d h = rw (mul_inf f true n d) (le_bottom (mul f y (fin false (suc n) d)) (mul_fin_num f y n d (Le-right (inf true) y h)))
mul-Le f (inf false) nan n d h = absurd h
mul-Le f (inf false) (inf true) n d h = absurd h
mul-Le f (inf false) (inf false) n d h = rw (mul_inf f false n d) (le_top (inf false) tt)
mul-Le f (inf false) (fin t k g) n d h = absurd h
mul-Le f (fin s m e) nan n d h = absurd h
mul-Le f (fin s m e) (inf true) n d h = absurd h
mul-Le f (fin s m e) (inf false) n d h = rw (mul_inf f false n d) (le_top (mul f (fin s m e) (fin false (suc n) d)) (mul_fin_num f (fin s m e) n d tt))
mul-Le f (fin s m e) (fin t k g) n d h = finite-Le f s m e t k g (suc n) d h

pub mul_num : (f : Format) (x c : Float) → IsNum x → T (positive c) → IsNum (mul f x c)
mul_num f x nan p q = absurd q
mul_num f x (inf s) p q = absurd q
mul_num f x (fin true n d) p q = absurd q
mul_num f x (fin false zero d) p q = absurd q
mul_num f x (fin false (suc n) d) p q = mul_fin_num f x n d p

pub mul_mono : (f : Format) (x y c : Float) → T (le x y) → T (positive c) → T (le (mul f x c) (mul f y c))
mul_mono f x y nan h p = absurd p
mul_mono f x y (inf s) h p = absurd p
mul_mono f x y (fin true n d) h p = absurd p
mul_mono f x y (fin false zero d) h p = absurd p
mul_mono f x y (fin false (suc n) d) h p = mul-Le f x y n d (le→Le x y h)

pub mul_mono_right : (f : Format) (c x y : Float) → T (positive c) → T (le x y) → T (le (mul f c x) (mul f c y))
mul_mono_right f c x y p h = rw (mul_comm f c x, mul_comm f c y) (mul_mono f x y c h p)

-- ---- by +0: the results are zeros
mul_by_zero-Le : (f : Format) (x y : Float) (d : ℤ) → Le x y → IsNum (mul f x (fin false zero d)) → IsNum (mul f y (fin false zero d)) → T (le (mul f x (fin false zero d)) (mul f y (fin false zero d)))
unfolding mul
mul_by_zero-Le f nan y d h p q = absurd p
mul_by_zero-Le f (inf s) y d h p q = absurd p
mul_by_zero-Le f (fin s m e) nan d h p q = absurd q
mul_by_zero-Le f (fin s m e) (inf t) d h p q = absurd q
mul_by_zero-Le f (fin s m e) (fin t k g) d h p q = finite-Le f s m e t k g zero d h

-- ---- by +infinity: the results are infinities
nonzero : (f : Format) (s : Bool) (m : ℕ) (e : ℤ) → IsNum (mul f (fin s m e) (inf false)) → (0 < m) × (mul f (fin s m e) (inf false) ≡ inf s)
unfolding mul
nonzero f s zero e p = absurd p
nonzero f s (suc m) e p = (zero-lt-suc m, rw (eqb-suc-zero m, unlike_false s))

infinite : (f : Format) (s : Bool) → mul f (inf s) (inf false) ≡ inf s
unfolding mul
infinite f s = ap inf (unlike_false s)

mul_by_inf-Le : (f : Format) (x y : Float) → Le x y → IsNum (mul f x (inf false)) → IsNum (mul f y (inf false)) → T (le (mul f x (inf false)) (mul f y (inf false)))
mul_by_inf-Le f nan y h p q = absurd h
mul_by_inf-Le f (inf true) y h p q = rw (infinite f true) (le_bottom (mul f y (inf false)) q)
mul_by_inf-Le f (inf false) nan h p q = absurd h
mul_by_inf-Le f (inf false) (inf true) h p q = absurd h
mul_by_inf-Le f (inf false) (inf false) h p q = rw (infinite f false) (le_top (inf false) tt)
mul_by_inf-Le f (inf false) (fin t k g) h p q = absurd h
mul_by_inf-Le f (fin s m e) nan h p q = absurd h
mul_by_inf-Le f (fin s m e) (inf true) h p q = absurd h
mul_by_inf-Le f (fin s m e) (inf false) h p q = rw (infinite f false) (le_top (mul f (fin s m e) (inf false)) p)
mul_by_inf-Le f (fin s m e) (fin t k g) h p q =
    rw ((nonzero f s m e p).1, (nonzero f t k g q).1)
    (Le→le (inf s) (inf t) (infs s t (m * up e) (down e) (k * up g) (down g) (mul-pos (nonzero f s m e p).0 (up_pos e)) (down_pos g) h))

-- ---- by any number that is not below 0 and whose sign bit is clear
pub mul_mono_signed : (f : Format) (x y c : Float) → T (le x y) → Signed false c → IsNum (mul f x c) → IsNum (mul f y c) → T (le (mul f x c) (mul f y c))
mul_mono_signed f x y nan h k p q = absurd k
mul_mono_signed f x y (inf true) h k p q = absurd (true≢false k)
mul_mono_signed f x y (inf false) h k p q = mul_by_inf-Le f x y (le→Le x y h) p q
mul_mono_signed f x y (fin true n d) h k p q = absurd (true≢false k)
mul_mono_signed f x y (fin false zero d) h k p q = mul_by_zero-Le f x y d (le→Le x y h) p q
mul_mono_signed f x y (fin false (suc n) d) h k p q = mul-Le f x y n d (le→Le x y h)

pub mul_mono_signed_right : (f : Format) (c x y : Float) → Signed false c → T (le x y) → IsNum (mul f c x) → IsNum (mul f c y) → T (le (mul f c x) (mul f c y))
mul_mono_signed_right f c x y k h p q = rw (mul_comm f c x, mul_comm f c y) (mul_mono_signed f x y c h k (rw (mul_comm f c x) at p) (rw (mul_comm f c y) at q))

-- ---- where the results are numbers: the factors are, and two finite factors make one
pub mul_num_left : (f : Format) (x y : Float) → IsNum (mul f x y) → IsNum x
unfolding mul
mul_num_left f nan y p = p
mul_num_left f (inf s) y p = tt
mul_num_left f (fin s m e) y p = tt

pub mul_num_right : (f : Format) (x y : Float) → IsNum (mul f x y) → IsNum y
mul_num_right f x y p = mul_num_left f y x (rw (mul_comm f x y) at p)

pub mul_num_finite : (f : Format) (x y : Float) → T (finite x) → T (finite y) → IsNum (mul f x y)
unfolding mul
mul_num_finite f nan y p q = p
mul_num_finite f (inf s) y p q = absurd p
mul_num_finite f (fin s m e) nan p q = q
mul_num_finite f (fin s m e) (inf t) p q = absurd q
mul_num_finite f (fin s m e) (fin t n d) p q = round_num f (unlike s t) (m * up e * (n * up d)) (down e * down d)
