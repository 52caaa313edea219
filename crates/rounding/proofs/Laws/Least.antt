-- What is not below zero: a sum of two such numbers is at least each of them, where it is a number, and a quotient by one shrinks as that one grows. Assumes nothing.
use Rattle.std.specs.Prelude.{◌≡◌, ℕ, zero, suc, ◌+◌, ◌*◌, ◌≤◌, Bool, true, false, T, ℤ, pos, Float}
use Rattle.std.proofs.Math.Path.{refl}
use Rattle.std.proofs.Common.{sym, ◌∙◌, subst, mul-pos, zero-lt-suc, mul-le-mul_right, arith}
use Rattle.std.specs.Float.{nan, inf, fin, Format}
use Rattle.std.specs.Float.Ieee.{up, down, add, div, le, fits}
use Rattle.std.specs.Float.Ieee.Fits.{up_pos, down_pos}
use Rattle.std.specs.Float.Ieee.Positive.{positive}
use Rattle.std.specs.Float.Ieee.Scale.{round_same}
use Rattle.rounding.proofs.Laws.Order.{Le, le→Le, Le→le, le_trans}
use Rattle.rounding.specs.Numbers.{IsNum}
use Rattle.rounding.proofs.Laws.Rounding.{Signed, round_signed, round_order}
use Rattle.rounding.proofs.Laws.Width.{narrow_fin, narrow_same}
use Rattle.rounding.proofs.Laws.Sums.{add_mono}
use Rattle.rounding.proofs.Laws.Quotients.{div_fin}
use Rattle.rounding.specs.Numbers.{nought}

-- ---- what has the sign bit clear is at least zero, and what has it set at most

pub signed_least : (x : Float) → Signed false x → T (le nought x)
signed_least nan h = absurd h
signed_least (inf s) h = subst (λ (t : Bool). T (le nought (inf t))) (sym h) (Le→le nought (inf false) tt)
signed_least (fin s m e) h = subst (λ (t : Bool). T (le nought (fin t m e))) (sym h) (Le→le nought (fin false m e) (omega arith))

pub minus_le : (m : ℕ) (e : ℤ) → T (le (fin true m e) nought)
minus_le m e = Le→le (fin true m e) nought (omega arith)

-- ---- a sum of two that are not negative is at least each

add_nought : (f : Format) (m : ℕ) (e : ℤ) → T (fits f (fin false m e)) → add f (fin false m e) nought ≡ fin false m e
unfolding add
add_nought f m e h =
    round_same f false (m * up e * 1 + 0 * 1 * down e) (down e * 1) (m * up e) (down e) (mul-pos (down_pos e) (zero-lt-suc 0)) (down_pos e) (omega arith)
    ∙ sym (narrow_fin f false m e)
    ∙ narrow_same f (fin false m e) h

nought_add : (f : Format) (m : ℕ) (e : ℤ) → T (fits f (fin false m e)) → add f nought (fin false m e) ≡ fin false m e
unfolding add
nought_add f m e h =
    round_same f false (0 * 1 * down e + m * up e * 1) (1 * down e) (m * up e) (down e) (mul-pos (zero-lt-suc 0) (down_pos e)) (down_pos e) (omega arith)
    ∙ sym (narrow_fin f false m e)
    ∙ narrow_same f (fin false m e) h

inf_add : (f : Format) (x : Float) → T (le nought x) → add f (inf false) x ≡ inf false
unfolding add
inf_add f nan h = absurd (le→Le nought nan h)
inf_add f (inf true) h = absurd (le→Le nought (inf true) h)
inf_add f (inf false) h = refl
inf_add f (fin s m e) h = refl

add_inf : (f : Format) (x : Float) → T (le nought x) → add f x (inf false) ≡ inf false
unfolding add
add_inf f nan h = absurd (le→Le nought nan h)
add_inf f (inf true) h = absurd (le→Le nought (inf true) h)
add_inf f (inf false) h = refl
add_inf f (fin s m e) h = refl

no_sum : (f : Format) → add f nought nought ≡ nought
no_sum f = add_nought f 0 (pos 0) (unfold fits in tt)

pub sum_least : (f : Format) (x y : Float) → T (le nought x) → T (le nought y) → IsNum (add f x y) → T (le nought (add f x y))
sum_least f x y h k n = subst (λ (z : Float). T (le z (add f x y))) (no_sum f) (add_mono f nought x nought y h k (rw (no_sum f) tt) n)

pub add_at_least_left : (f : Format) (x y : Float) → T (fits f x) → T (le nought x) → T (le nought y) → IsNum (add f x y) → T (le x (add f x y))
add_at_least_left f nan y F h k n = absurd (le→Le nought nan h)
add_at_least_left f (inf true) y F h k n = absurd (le→Le nought (inf true) h)
add_at_least_left f (inf false) y F h k n = rw (inf_add f y k) (Le→le (inf false) (inf false) tt)
add_at_least_left f (fin true m e) y F h k n = le_trans (fin true m e) nought (add f (fin true m e) y) (minus_le m e) (sum_least f (fin true m e) y h k n)
add_at_least_left f (fin false m e) y F h k n =
    let x = fin false m e in
    subst (λ (z : Float). T (le z (add f x y))) (add_nought f m e F) (add_mono f x x nought y (Le→le x x (omega arith)) k (rw (add_nought f m e F) tt) n)

pub add_at_least_right : (f : Format) (x y : Float) → T (fits f y) → T (le nought x) → T (le nought y) → IsNum (add f x y) → T (le y (add f x y))
add_at_least_right f x nan F h k n = absurd (le→Le nought nan k)
add_at_least_right f x (inf true) F h k n = absurd (le→Le nought (inf true) k)
add_at_least_right f x (inf false) F h k n = rw (add_inf f x h) (Le→le (inf false) (inf false) tt)
add_at_least_right f x (fin true m e) F h k n = le_trans (fin true m e) nought (add f x (fin true m e)) (minus_le m e) (sum_least f x (fin true m e) h k n)
add_at_least_right f x (fin false m e) F h k n =
    let y = fin false m e in
    subst (λ (z : Float). T (le z (add f x y))) (nought_add f m e F) (add_mono f nought x y y h (Le→le y y (omega arith)) (rw (nought_add f m e F) tt) n)

-- ---- a quotient shrinks as the divisor grows

divisor-Le : (f : Format) (m : ℕ) (e : ℤ) (n : ℕ) (d : ℤ) (y : Float) → Le (fin false (suc n) d) y → T (le (div f (fin false m e) y) (div f (fin false m e) (fin false (suc n) d)))
divisor-Le f m e n d nan h = absurd h
divisor-Le f m e n d (inf true) h = absurd h
divisor-Le f m e n d (inf false) h = rw (by_inf f m e, div_fin f false m e n d) (signed_least _ (round_signed f false (m * up e * down d) (suc n * up d * down e)))
  where
    by_inf : (f : Format) (m : ℕ) (e : ℤ) → div f (fin false m e) (inf false) ≡ nought
    by_inf f m e = unfold div in refl
divisor-Le f m e n d (fin true k g) h = absurd (let p = mul-pos (mul-pos (zero-lt-suc n) (up_pos d)) (down_pos g) in omega arith)
divisor-Le f m e n d (fin false zero g) h = absurd (let p = mul-pos (mul-pos (zero-lt-suc n) (up_pos d)) (down_pos g) in omega arith)
divisor-Le f m e n d (fin false (suc k) g) h =
    rw (div_fin f false m e k g, div_fin f false m e n d)
    (round_order f false (m * up e * down g) (suc k * up g * down e) false (m * up e * down d) (suc n * up d * down e)
    (mul-pos (mul-pos (zero-lt-suc k) (up_pos g)) (down_pos e)) (mul-pos (mul-pos (zero-lt-suc n) (up_pos d)) (down_pos e))
    (crossed (m * up e) (down e) (suc n * up d) (down d) (suc k * up g) (down g) (omega arith)))
  where
    crossed : (M E N D K G : ℕ) → N * G ≤ K * D → M * G * (N * E) + 0 * (K * E) ≤ M * D * (K * E) + 0 * (N * E)
    crossed M E N D K G l = let p = mul-le-mul_right (M * E) l in omega arith

pub div_anti : (f : Format) (m : ℕ) (e : ℤ) (x y : Float) → T (positive x) → T (le x y) → T (le (div f (fin false m e) y) (div f (fin false m e) x))
div_anti f m e nan y p h = absurd p
div_anti f m e (inf s) y p h = absurd p
div_anti f m e (fin true n d) y p h = absurd p
div_anti f m e (fin false zero d) y p h = absurd p
div_anti f m e (fin false (suc n) d) y p h = divisor-Le f m e n d y (le→Le (fin false (suc n) d) y h)
