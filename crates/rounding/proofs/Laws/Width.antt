-- A float to another format keeps the order, leaves a value that the format holds as it is, and goes to the nearest value that the format holds. Assumes nothing.
use Rattle.std.specs.Prelude.{◌≡◌, ℕ, ◌*◌, Bool, true, false, T, ℤ, refl, Float}
use Rattle.std.specs.Float.{nan, inf, fin, Format, binary32, binary64}
use Rattle.std.specs.Float.Ieee.{up, down, round, le, fits}
use Rattle.std.specs.Float.Ieee.Fits.{down_pos, round-fits, nan-fits, inf-fits, fits_widens}
use Rattle.std.specs.Float.Ieee.Scale.{finite}
use Rattle.rounding.specs.Width.{narrow_of}
use Rattle.rounding.proofs.Laws.Order.{Le, le→Le, Le-right, le_bottom, le_top}
use Rattle.rounding.specs.Numbers.{IsNum}
use Rattle.rounding.proofs.Laws.Rounding.{Signed, round_order, round_num, round_signed}
use Rattle.rounding.proofs.Laws.Representable.{round_held, value_unique}
use Rattle.rounding.proofs.Laws.Nearest.{NoFartherFrom, round_nearest_value}

pub narrow_nan : (f : Format) → narrow_of f nan ≡ nan
unfolding narrow_of
narrow_nan f = refl

pub narrow_inf : (f : Format) (s : Bool) → narrow_of f (inf s) ≡ inf s
unfolding narrow_of
narrow_inf f s = refl

pub narrow_fin : (f : Format) (s : Bool) (m : ℕ) (e : ℤ) → narrow_of f (fin s m e) ≡ round f s (m * up e) (down e)
unfolding narrow_of
narrow_fin f s m e = refl

pub narrow_num : (f : Format) (x : Float) → IsNum x → IsNum (narrow_of f x)
narrow_num f nan p = absurd p
narrow_num f (inf s) p = rw (narrow_inf f s) tt
narrow_num f (fin s m e) p = rw (narrow_fin f s m e) (round_num f s (m * up e) (down e))

pub narrow_fits : (f : Format) (x : Float) → T (fits f (narrow_of f x))
narrow_fits f nan = rw (narrow_nan f) (nan-fits f)
narrow_fits f (inf s) = rw (narrow_inf f s) (inf-fits f s)
narrow_fits f (fin s m e) = rw (narrow_fin f s m e) (round-fits f s (m * up e) (down e))

-- the sign stays, of a zero and an infinity too
pub narrow_signed : (f : Format) (s : Bool) (x : Float) → Signed s x → Signed s (narrow_of f x)
narrow_signed f s nan h = absurd h
narrow_signed f s (inf t) h = rw (narrow_inf f t) h
narrow_signed f s (fin t m e) h = rw (narrow_fin f t m e, h) (round_signed f s (m * up e) (down e))

-- ---- the order
narrow-Le : (f : Format) (x y : Float) → Le x y → T (le (narrow_of f x) (narrow_of f y))
narrow-Le f nan y h = absurd h
narrow-Le f (inf true) y h = rw (narrow_inf f true) (le_bottom (narrow_of f y) (narrow_num f y (Le-right (inf true) y h)))
narrow-Le f (inf false) nan h = absurd h
narrow-Le f (inf false) (inf true) h = absurd h
narrow-Le f (inf false) (inf false) h = rw (narrow_inf f false) (le_top (inf false) tt)
narrow-Le f (inf false) (fin t n d) h = absurd h
narrow-Le f (fin s m e) nan h = absurd h
narrow-Le f (fin s m e) (inf true) h = absurd h
narrow-Le f (fin s m e) (inf false) h = rw (narrow_inf f false) (le_top (narrow_of f (fin s m e)) (narrow_num f (fin s m e) tt))
narrow-Le f (fin s m e) (fin t n d) h = rw (narrow_fin f s m e, narrow_fin f t n d) (round_order f s (m * up e) (down e) t (n * up d) (down d) (down_pos e) (down_pos d) h)

pub narrow_mono : (f : Format) (x y : Float) → T (le x y) → T (le (narrow_of f x) (narrow_of f y))
narrow_mono f x y h = narrow-Le f x y (le→Le x y h)

-- ---- a value that the format holds
pub narrow_same : (f : Format) (x : Float) → T (fits f x) → narrow_of f x ≡ x
narrow_same f nan h = narrow_nan f
narrow_same f (inf s) h = narrow_inf f s
narrow_same f (fin s m e) h =
    rw (narrow_fin f s m e) (value_unique f (round f s (m * up e) (down e)) (fin s m e) s (m * up e) (down e) (down_pos e) (round-fits f s (m * up e) (down e)) h (round_held f s m e h) (refl, refl))

pub widen_same : (x : Float) → T (fits binary32 x) → narrow_of binary64 x ≡ x
widen_same x h = narrow_same binary64 x (fits_widens x h)

-- ---- the nearest value: `fin s n k` stands for any number of x's sign, zero included, that the format holds. One of the other sign is farther from x than zero is.
pub narrow_nearest : (f : Format) (s : Bool) (m : ℕ) (e : ℤ) (n : ℕ) (k : ℤ) → T (finite (narrow_of f (fin s m e))) → T (fits f (fin s n k)) → NoFartherFrom (m * up e) (down e) (narrow_of f (fin s m e)) (fin s n k)
narrow_nearest f s m e n k t h =
    let i = narrow_fin f s m e in
    rw i (round_nearest_value f s (m * up e) (down e) n k (down_pos e) (rw i at t) h)
