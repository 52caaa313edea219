-- An `f64` to the nearest `f32` by its bits. Assumes nothing.
use Rattle.std.proofs.Common.{◌≡◌, ℕ, zero, suc, ◌+◌, ◌*◌, ◌/◌, ◌%◌, ◌^◌, ◌<◌, ◌≤◌, Bool, true, false, cond, not, T, leb, sym, refl, ap, ◌∙◌, subst, le_trans, le_of_eq, mod-eq_of_lt, zero-add, pow_pos}
use native.Mathlib.Nat.{add-mod_left}
use lib.Arith.{le→nltb}
use lib.Count.{count_trailing_zeros}
use lib.Ieee.{Float, nan, inf, Format, binary32, binary64, prec, low, up, down, minus, odd, round, hid, ones, top, of_bits, to_bits, fits, nan_bits, ne}
use lib.Ieee.Digits.{odd_val}
use lib.Ieee.Fits.{down_pos, round-fits}
use lib.Ieee.Bits.{of_bits-to_bits, nan_bits_above}
use lib.Ieee.Scale.{round_same}
use lib.Ieee.Compare.{differs_from_itself}
use Rattle.rounding.specs.Steps.{Narrows, size_of}
use Rattle.rounding.specs.Width.{narrow_of}
use Rattle.rounding.proofs.Cut.{expo, digs}
use Rattle.rounding.proofs.Sign.{sized, is_inf, finite_odd}

pub nan_thin : (x : Float) → ne x x ≡ true → nan ≡ narrow_of binary32 x
unfolding narrow_of
nan_thin x e = subst (λ (y : Float). nan ≡ narrow_of binary32 y) (sym (differs_from_itself x (subst T (sym e) tt))) refl

pub inf_thin : (x : Float) (s : Bool) → T (fits binary64 x) → sized binary64 x ≡ ones binary64 * hid binary64 → leb (top binary64) (to_bits binary64 x) ≡ s → inf s ≡ narrow_of binary32 x
unfolding narrow_of
inf_thin x s t e k = subst (λ (y : Float). inf s ≡ narrow_of binary32 y) (sym (is_inf binary64 x s t e k)) refl

narrow_odd : (f : Format) (d : ℕ) (s : Bool) (q k l : ℕ) → narrow_of f (odd d s q k l) ≡ round f s (q * 2 ^ k) (2 ^ l)
unfolding odd narrow_of
narrow_odd f d s zero k l = round_same f s (0 * 1) 1 (0 * 2 ^ k) (2 ^ l) (pow_pos 0) (pow_pos l) (odd_val d s zero k l)
narrow_odd f d s (suc q) k l =
    let t = count_trailing_zeros d (suc q) in
    let e = minus (k + t) l in
    round_same f s (suc q / 2 ^ t * up e) (down e) (suc q * 2 ^ k) (2 ^ l) (down_pos e) (pow_pos l) (odd_val d s (suc q) k l)

pub signed_thin : (x : Float) (s : Bool) (r : ℕ) → T (fits binary64 x) → sized binary64 x < ones binary64 * hid binary64 →
    leb (top binary64) (to_bits binary64 x) ≡ s → Narrows s (sized binary64 x) r →
    of_bits binary32 (cond s (top binary32) 0 + r) ≡ narrow_of binary32 x
signed_thin x s r t l e h =
    let b = sized binary64 x in
    ap (of_bits binary32) (sym h.value)
    ∙ of_bits-to_bits binary32 (round binary32 s (size_of 53 b) (2 ^ low binary64)) (round-fits binary32 s (size_of 53 b) (2 ^ low binary64))
    ∙ sym (ap (narrow_of binary32) (finite_odd binary64 x s t l e) ∙ narrow_odd binary32 (prec binary64) s (digs binary64 b) (expo binary64 b) (low binary64))

-- bits up to the infinity's are no NaN's, with the sign p before them
pub no_nan_most : (f : Format) (s : Bool) (p r : ℕ) → p ≡ cond s (top f) 0 → r ≤ ones f * hid f → r < top f → T (not (nan_bits f (p + r)))
no_nan_most f s p r e h l =
    subst (λ (y : Bool). T (not y)) (sym (nan_bits_above f (p + r)))
    (le→nltb (ones f * hid f) ((p + r) % top f) (le_trans (le_of_eq (ap (λ (y : ℕ). (y + r) % top f) e ∙ go s ∙ mod-eq_of_lt l)) h))
  where
    go : (s : Bool) → (cond s (top f) 0 + r) % top f ≡ r % top f
    go true = add-mod_left (top f) r
    go false = ap (λ (y : ℕ). y % top f) (zero-add r)
