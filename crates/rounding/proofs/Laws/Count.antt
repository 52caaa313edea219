-- The cast to an unsigned integer keeps the order, and cuts the fraction off. Assumes nothing.
use Rattle.std.specs.Prelude.{◌≡◌, ℕ, ◌-◌, ◌*◌, ◌/◌, ◌^◌, ◌<◌, ◌≤◌, min, Bool, true, false, cond, T, refl, Float}
use Rattle.std.proofs.Common.{sym, ap, zero-le, zero-mul, arith, true≢false}
use Rattle.std.proofs.Math.Nat.{zero-div}
use Rattle.std.specs.Float.{nan, inf, fin}
use Rattle.std.specs.Float.Ieee.{up, down, le, to_unsigned}
use Rattle.std.specs.Float.Ieee.Fits.{down_pos}
use Rattle.std.specs.Float.Ieee.Exact.{HasValue}
use Rattle.std.specs.Float.Ieee.Nearest.{div_mono, div_same}
use Rattle.rounding.proofs.Laws.Signed.{Cross}
use Rattle.rounding.proofs.Laws.Order.{Le, le→Le}
use Rattle.rounding.proofs.Laws.Rounding.{zero_of}

-- ---- the order
cast_mono : (s : Bool) (a c : ℕ) (t : Bool) (b d k : ℕ) → 0 < c → 0 < d → Cross s a c t b d → cond s 0 (min (a / c) k) ≤ cond t 0 (min (b / d) k)
cast_mono true a c t b d k C D h = omega arith
cast_mono false a c false b d k C D h = let g : a / c ≤ b / d = div_mono a c b d C D (omega arith) in omega arith
cast_mono false a c true b d k C D h = let A : a ≡ 0 = zero_of a d b c D (omega arith) in rw A (let z : 0 / c ≡ 0 = zero-div c in omega arith)

cast_top : (s : Bool) (q k : ℕ) → cond s 0 (min q k) ≤ k
cast_top true q k = omega arith
cast_top false q k = omega arith

to_unsigned-Le : (w : ℕ) (x y : Float) → Le x y → to_unsigned w x ≤ to_unsigned w y
unfolding to_unsigned
to_unsigned-Le w nan y h = absurd h
to_unsigned-Le w (inf true) y h = zero-le
to_unsigned-Le w (inf false) nan h = absurd h
to_unsigned-Le w (inf false) (inf true) h = absurd h
to_unsigned-Le w (inf false) (inf false) h = omega arith
to_unsigned-Le w (inf false) (fin t n d) h = absurd h
to_unsigned-Le w (fin s m e) nan h = absurd h
to_unsigned-Le w (fin s m e) (inf true) h = absurd h
to_unsigned-Le w (fin s m e) (inf false) h = cast_top s (m * up e / down e) (2 ^ w - 1)
to_unsigned-Le w (fin s m e) (fin t n d) h = cast_mono s (m * up e) (down e) t (n * up d) (down d) (2 ^ w - 1) (down_pos e) (down_pos d) h

pub to_unsigned_mono : (w : ℕ) (x y : Float) → T (le x y) → to_unsigned w x ≤ to_unsigned w y
to_unsigned_mono w x y h = to_unsigned-Le w x y (le→Le x y h)

-- ---- of the number a / c, and of -a / c
pub cast_value : (w : ℕ) (x : Float) (a c : ℕ) → 0 < c → HasValue x false a c → to_unsigned w x ≡ min (a / c) (2 ^ w - 1)
unfolding to_unsigned
cast_value w nan a c C h = absurd h
cast_value w (inf t) a c C h = absurd h
cast_value w (fin true m e) a c C h = absurd (true≢false h.0)
cast_value w (fin false m e) a c C h = ap (λ (z : ℕ). min z (2 ^ w - 1)) (div_same (m * up e) (down e) a c (down_pos e) C h.1)

pub cast_minus : (w : ℕ) (x : Float) (a c : ℕ) → HasValue x true a c → to_unsigned w x ≡ 0
unfolding to_unsigned
cast_minus w nan a c h = absurd h
cast_minus w (inf t) a c h = absurd h
cast_minus w (fin true m e) a c h = refl
cast_minus w (fin false m e) a c h = absurd (true≢false (sym h.0))

-- ---- what goes to 0 at every width because it is a nan, has the sign bit set, or is +0
abbrev pub Low : Float → Type 0
Low nan = Unit {0}
Low (inf s) = s ≡ true
Low (fin true m e) = Unit {0}
Low (fin false m e) = m ≡ 0

pub low_cast : (w : ℕ) (x : Float) → Low x → to_unsigned w x ≡ 0
unfolding to_unsigned
low_cast w nan h = refl
low_cast w (inf true) h = refl
low_cast w (inf false) h = absurd (true≢false (sym h))
low_cast w (fin true m e) h = refl
low_cast w (fin false m e) h = rw (h, zero-mul (up e), zero-div (down e)) (let k : min 0 (2 ^ w - 1) ≡ 0 = omega arith in k)
