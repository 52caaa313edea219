-- A quotient x / c grows with x, for a c that is not negative and has the sign bit clear: a number above 0, +0 or +infinity, wherever the results are no nan.
-- For a c that is finite and above 0 they never are. Assumes nothing.
use Rattle.std.specs.Prelude.{◌≡◌, ℕ, zero, suc, ◌*◌, ◌<◌, Bool, true, false, T, ℤ, pos, refl, Float}
use Rattle.std.proofs.Common.{mul-pos, zero-lt-suc, true≢false}
use Rattle.std.proofs.Math.Dec.{eqb-suc-zero}
use Rattle.std.specs.Float.{nan, inf, fin, Format}
use Rattle.std.specs.Float.Ieee.{up, down, round, unlike, div, le}
use Rattle.std.specs.Float.Ieee.Fits.{up_pos, down_pos}
use Rattle.std.specs.Float.Ieee.Positive.{positive}
use Rattle.rounding.proofs.Laws.Signed.{cross_mul}
use Rattle.rounding.proofs.Laws.Order.{Le, le→Le, Le→le, le_bottom, le_top, Le-right, zeros, infs}
use Rattle.rounding.specs.Numbers.{IsNum}
use Rattle.rounding.proofs.Laws.Rounding.{Signed, round_order, round_num}

pub unlike_false : (s : Bool) → unlike s false ≡ s
unlike_false true = refl
unlike_false false = refl

pub div_fin : (f : Format) (s : Bool) (m : ℕ) (e : ℤ) (n : ℕ) (d : ℤ) → div f (fin s m e) (fin false (suc n) d) ≡ round f s (m * up e * down d) (suc n * up d * down e)
unfolding div
div_fin f s m e n d = rw (eqb-suc-zero n, unlike_false s)

pub div_inf : (f : Format) (s : Bool) (n : ℕ) (d : ℤ) → div f (inf s) (fin false n d) ≡ inf s
unfolding div
div_inf f s n d = rw (unlike_false s)

div_by_inf : (f : Format) (s : Bool) (m : ℕ) (e : ℤ) → div f (fin s m e) (inf false) ≡ fin s 0 (pos 0)
unfolding div
div_by_inf f s m e = rw (unlike_false s)

-- ---- by a number above 0
div_fin_num : (f : Format) (x : Float) (n : ℕ) (d : ℤ) → IsNum x → IsNum (div f x (fin false (suc n) d))
div_fin_num f nan n d p = absurd p
div_fin_num f (inf s) n d p = rw (div_inf f s (suc n) d) tt
div_fin_num f (fin s m e) n d p = rw (div_fin f s m e n d) (round_num f s (m * up e * down d) (suc n * up d * down e))

pub div-Le : (f : Format) (x y : Float) (n : ℕ) (d : ℤ) → Le x y → T (le (div f x (fin false (suc n) d)) (div f y (fin false (suc n) d)))
div-Le f nan y n d h = absurd h
div-Le f (inf true) y n d h = rw (div_inf f true (suc n) d) (le_bottom (div f y (fin false (suc n) d)) (div_fin_num f y n d (Le-right (inf true) y h)))
div-Le f (inf false) nan n d h = absurd h
div-Le f (inf false) (inf true) n d h = absurd h
div-Le f (inf false) (inf false) n d h = rw (div_inf f false (suc n) d) (le_top (inf false) tt)
div-Le f (inf false) (fin s' m' e') n d h = absurd h
div-Le f (fin s m e) nan n d h = absurd h
div-Le f (fin s m e) (inf true) n d h = absurd h
div-Le f (fin s m e) (inf false) n d h = rw (div_inf f false (suc n) d) (le_top (div f (fin s m e) (fin false (suc n) d)) (div_fin_num f (fin s m e) n d tt))
div-Le f (fin s m e) (fin s' m' e') n d h =
    rw (div_fin f s m e n d, div_fin f s' m' e' n d)
    (round_order f s (m * up e * down d) (suc n * up d * down e) s' (m' * up e' * down d) (suc n * up d * down e')
    (mul-pos (mul-pos (zero-lt-suc n) (up_pos d)) (down_pos e)) (mul-pos (mul-pos (zero-lt-suc n) (up_pos d)) (down_pos e'))
    (cross_mul s (m * up e) (down e) s' (m' * up e') (down e') (down d) (suc n * up d) h))

pub div_num : (f : Format) (x c : Float) → IsNum x → T (positive c) → IsNum (div f x c)
div_num f x nan p q = absurd q
div_num f x (inf s) p q = absurd q
div_num f x (fin true n d) p q = absurd q
div_num f x (fin false zero d) p q = absurd q
div_num f x (fin false (suc n) d) p q = div_fin_num f x n d p

pub div_mono : (f : Format) (x y c : Float) → T (le x y) → T (positive c) → T (le (div f x c) (div f y c))
div_mono f x y nan h p = absurd p
div_mono f x y (inf s) h p = absurd p
div_mono f x y (fin true n d) h p = absurd p
div_mono f x y (fin false zero d) h p = absurd p
div_mono f x y (fin false (suc n) d) h p = div-Le f x y n d (le→Le x y h)

-- ---- by +infinity: the results are zeros
div_by_inf-Le : (f : Format) (x y : Float) → IsNum (div f x (inf false)) → IsNum (div f y (inf false)) → T (le (div f x (inf false)) (div f y (inf false)))
unfolding div
div_by_inf-Le f nan y p q = absurd p
div_by_inf-Le f (inf s) y p q = absurd p
div_by_inf-Le f (fin s m e) nan p q = absurd q
div_by_inf-Le f (fin s m e) (inf t) p q = absurd q
div_by_inf-Le f (fin s m e) (fin t n d) p q = Le→le (fin (unlike s false) 0 (pos 0)) (fin (unlike t false) 0 (pos 0)) (zeros (unlike s false) (pos 0) (unlike t false) (pos 0))

-- ---- by +0: the results are infinities
nonzero : (f : Format) (s : Bool) (m : ℕ) (e d : ℤ) → IsNum (div f (fin s m e) (fin false zero d)) → (0 < m) × (div f (fin s m e) (fin false zero d) ≡ inf s)
unfolding div
nonzero f s zero e d p = absurd p
nonzero f s (suc m) e d p = (zero-lt-suc m, rw (eqb-suc-zero m, unlike_false s))

div_by_zero-Le : (f : Format) (x y : Float) (d : ℤ) → Le x y → IsNum (div f x (fin false zero d)) → IsNum (div f y (fin false zero d)) → T (le (div f x (fin false zero d)) (div f y (fin false zero d)))
div_by_zero-Le f nan y d h p q = absurd h
div_by_zero-Le f (inf true) y d h p q = rw (div_inf f true zero d) (le_bottom (div f y (fin false zero d)) q)
div_by_zero-Le f (inf false) nan d h p q = absurd h
div_by_zero-Le f (inf false) (inf true) d h p q = absurd h
div_by_zero-Le f (inf false) (inf false) d h p q = rw (div_inf f false zero d) (le_top (inf false) tt)
div_by_zero-Le f (inf false) (fin t n g) d h p q = absurd h
div_by_zero-Le f (fin s m e) nan d h p q = absurd h
div_by_zero-Le f (fin s m e) (inf true) d h p q = absurd h
div_by_zero-Le f (fin s m e) (inf false) d h p q = rw (div_inf f false zero d) (le_top (div f (fin s m e) (fin false zero d)) p)
div_by_zero-Le f (fin s m e) (fin t n g) d h p q =
    rw ((nonzero f s m e d p).1, (nonzero f t n g d q).1)
    (Le→le (inf s) (inf t) (infs s t (m * up e) (down e) (n * up g) (down g) (mul-pos (nonzero f s m e d p).0 (up_pos e)) (down_pos g) h))

-- ---- by any number that is not below 0 and whose sign bit is clear
pub div_mono_signed : (f : Format) (x y c : Float) → T (le x y) → Signed false c → IsNum (div f x c) → IsNum (div f y c) → T (le (div f x c) (div f y c))
div_mono_signed f x y nan h k p q = absurd k
div_mono_signed f x y (inf true) h k p q = absurd (true≢false k)
div_mono_signed f x y (inf false) h k p q = div_by_inf-Le f x y p q
div_mono_signed f x y (fin true n d) h k p q = absurd (true≢false k)
div_mono_signed f x y (fin false zero d) h k p q = div_by_zero-Le f x y d (le→Le x y h) p q
div_mono_signed f x y (fin false (suc n) d) h k p q = div-Le f x y n d (le→Le x y h)
