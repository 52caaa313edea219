-- A float to a whole number by its bits, the sign among them, with the format as a parameter. Assumes nothing.
use Rattle.std.proofs.Common.{◌≡◌, ℕ, zero, suc, ◌+◌, ◌-◌, ◌*◌, ◌/◌, ◌%◌, ◌^◌, ◌<◌, Bool, true, false, cond, not, T, ltb, leb, ◌≢◌, sym, refl, ap, ◌∙◌, subst, ap₂, div-lt_iff_lt-mul, div-add-mod', mul-div_cancel, arith, nltb→le, pow_pos}
use native.Mathlib.Nat.{mul-mod_left}
use lib.Arith.{lt_of_le-ne}
use lib.Bits.{bit_and}
use lib.Count.{count_trailing_zeros}
use lib.Ieee.{Float, nan, inf, Format, binary32, binary64, prec, low, up, down, minus, odd, hid, ones, top, of_fields, of_bits, to_bits, fits, is_nan, ne}
use lib.Ieee.Digits.{odd_val}
use lib.Ieee.Fits.{down_pos, round-fits}
use lib.Ieee.Bits.{of_bits-to_bits, nan_bits_is, nan_bits_above}
use lib.Ieee.Compare.{differs_from_itself}
use Rattle.rounding.specs.Steps.{Wholes, size_of}
use Rattle.rounding.specs.declared.whole.Way.{Way}
use Rattle.rounding.specs.Whole.{ways, whole_by, whole_of}
use Rattle.rounding.proofs.Laws.Whole.{whole_by_same}
use Rattle.rounding.proofs.Fields.{of_bits_is, field_some, low_part, no_nan}
use Rattle.rounding.proofs.Words.{sign_bit, masked}
use Rattle.rounding.proofs.Cut.{expo, digs}

pub nan_whole : (f : Format) (w : Bool → Way) (x : Float) → ne x x ≡ true → x ≡ whole_of f w x
unfolding whole_of
nan_whole f w x e = let n : x ≡ nan = differs_from_itself x (subst T (sym e) tt) in subst (λ (y : Float). y ≡ whole_of f w y) (sym n) refl

inf_fields : (f : Format) (s : Bool) → of_fields f s (ones f) 0 ≡ inf s
unfolding of_fields
inf_fields binary32 s = refl
inf_fields binary64 s = refl

-- the pattern of a float without its sign
abbrev pub sized : Format → Float → ℕ
sized f x = to_bits f x % top f

pub is_inf : (f : Format) (x : Float) (s : Bool) → T (fits f x) → sized f x ≡ ones f * hid f → leb (top f) (to_bits f x) ≡ s → x ≡ inf s
is_inf f x s t e k =
    let b = to_bits f x in
    sym (of_bits-to_bits f x t)
    ∙ of_bits_is f b
    ∙ ap₂ (λ (y z : ℕ). of_fields f (leb (top f) b) y z) (ap (λ (y : ℕ). y / hid f) e ∙ mul-div_cancel (ones f) (pow_pos (prec f - 1)))
    (sym (low_part f b) ∙ ap (λ (y : ℕ). y % hid f) e ∙ mul-mod_left (ones f) (hid f))
    ∙ inf_fields f (leb (top f) b)
    ∙ ap inf k

-- ---- a finite float

whole_odd : (f : Format) (w : Bool → Way) (d : ℕ) (s : Bool) (q k : ℕ) → whole_of f w (odd d s q k (low f)) ≡ whole_by f s (w s) (q * 2 ^ k) (2 ^ low f)
unfolding odd whole_of
whole_odd f w d s zero k = whole_by_same f s (w s) (0 * 1) 1 (0 * 2 ^ k) (2 ^ low f) (pow_pos 0) (pow_pos (low f)) (odd_val d s zero k (low f))
whole_odd f w d s (suc q) k =
    let t = count_trailing_zeros d (suc q) in
    let e = minus (k + t) (low f) in
    whole_by_same f s (w s) (suc q / 2 ^ t * up e) (down e) (suc q * 2 ^ k) (2 ^ low f) (down_pos e) (pow_pos (low f)) (odd_val d s (suc q) k (low f))

pub sized_lt : (f : Format) (x : Float) → T (fits f x) → T (not (is_nan x)) → sized f x ≢ ones f * hid f → sized f x < ones f * hid f
sized_lt f x t n z =
    let b = to_bits f x in
    let m : T (not (ltb (ones f * hid f) (b % top f))) = subst (λ (y : Bool). T (not y)) (ap is_nan (sym (of_bits-to_bits f x t)) ∙ sym (nan_bits_is f b) ∙ nan_bits_above f b) n in
    lt_of_le-ne (nltb→le (ones f * hid f) (b % top f) m) z

-- neither a NaN nor an infinity, by its bits without the sign
pub within : (f : Format) (x : Float) → T (fits f x) → ne x x ≡ false → bit_and (to_bits f x) (top f - 1) ≢ ones f * hid f → sized f x < ones f * hid f
within f x t h n = sized_lt f x t (no_nan x h) (λ e. n (masked f x ∙ e))

zero_field : (f : Format) (s : Bool) (t x : ℕ) → x ≡ 0 → of_fields f s x t ≡ odd (prec f) s t 0 (low f)
unfolding of_fields
zero_field f s t zero e = refl
zero_field f s t (suc x) e = absurd (omega arith)

fields_odd : (f : Format) (s : Bool) (b : ℕ) → b < ones f * hid f → of_fields f s (b / hid f) (b % hid f) ≡ odd (prec f) s (digs f b) (expo f b) (low f)
fields_odd f s b l = go (b / hid f) refl
  where
    d : b / hid f * hid f + b % hid f ≡ b
    d = div-add-mod' b (hid f)

    go : (x : ℕ) → b / hid f ≡ x → of_fields f s (b / hid f) (b % hid f) ≡ odd (prec f) s (digs f b) (expo f b) (low f)
    go zero e =
        let z : expo f b ≡ 0 = ap (λ (y : ℕ). y - 1) e in
        let k = ap (λ (y : ℕ). y * hid f) z in
        let i = ap (λ (y : ℕ). y * hid f) e in
        let m = d in
        let q : b % hid f ≡ digs f b = omega arith in
        zero_field f s (b % hid f) (b / hid f) e ∙ ap₂ (λ (y z : ℕ). odd (prec f) s y z (low f)) q (sym z)
    go (suc x) e =
        let z : expo f b ≡ x = ap (λ (y : ℕ). y - 1) e ∙ pred x in
        let k = ap (λ (y : ℕ). y * hid f) z in
        let i = ap (λ (y : ℕ). y * hid f) e in
        let m = d in
        let q : hid f + b % hid f ≡ digs f b = omega arith in
        let p : 0 < b / hid f = omega arith in
        field_some f s (b % hid f) (b / hid f) p ((div-lt_iff_lt-mul (pow_pos (prec f - 1))).1 l) ∙ ap (λ (y : ℕ). odd (prec f) s y (expo f b) (low f)) q
      where
        pred : (x : ℕ) → suc x - 1 ≡ x
        pred x = omega arith

-- a finite float is q * 2 ^ h of the smallest values
pub finite_odd : (f : Format) (x : Float) (s : Bool) → T (fits f x) → sized f x < ones f * hid f → leb (top f) (to_bits f x) ≡ s → x ≡ odd (prec f) s (digs f (sized f x)) (expo f (sized f x)) (low f)
finite_odd f x s t l e =
    let b = to_bits f x in
    sym (of_bits-to_bits f x t) ∙ of_bits_is f b ∙ ap₂ (λ (z : Bool) (y : ℕ). of_fields f z (b % top f / hid f) y) e (sym (low_part f b)) ∙ fields_odd f s (sized f x) l

-- what was worked out of the size is the float's, with the sign put back
pub signed :
    (f : Format) (w : Bool → Way) (x : Float) (s : Bool) (r : ℕ) → T (fits f x) → sized f x < ones f * hid f → leb (top f) (to_bits f x) ≡ s →
    Wholes f s (w s) (sized f x) r → of_bits f (cond s (top f) 0 + r) ≡ whole_of f w x
signed f w x s r t l e h =
    let i : whole_of f w x ≡ whole_by f s (w s) (size_of (prec f) (sized f x)) (2 ^ low f) =
    ap (whole_of f w) (finite_odd f x s t l e) ∙ whole_odd f w (prec f) s (digs f (sized f x)) (expo f (sized f x)) in
    ap (of_bits f) (sym h.value) ∙ of_bits-to_bits f (whole_by f s (w s) (size_of (prec f) (sized f x)) (2 ^ low f)) (unfold whole_by in round-fits f s _ 1) ∙ sym i

-- the same by the code's steps: the sign is masked, chooses the way, and is put back
module _ (f : Format) (x : Float) (t : T (fits f x)) where
  pub sign_is : (s : Bool) → leb (top f) (to_bits f x) ≡ s → bit_and (to_bits f x) (top f) ≡ cond s (top f) 0
  sign_is s k = sign_bit f x t ∙ ap (λ (y : Bool). cond y (top f) 0) k

  pub signed_by : (plus minus w : Way) (r : ℕ) → sized f x < ones f * hid f → w ≡ cond (leb 1 (bit_and (to_bits f x) (top f))) minus plus → ((s : Bool) → Wholes f s w (sized f x) r)
      → of_bits f (bit_and (to_bits f x) (top f) + r) ≡ whole_of f (ways plus minus) x
  signed_by plus minus w r l e h = go (leb (top f) (to_bits f x)) refl
    where
      chosen : (f : Format) (s : Bool) → cond (leb 1 (cond s (top f) 0)) minus plus ≡ ways plus minus s
      chosen binary32 true = refl
      chosen binary32 false = refl
      chosen binary64 true = refl
      chosen binary64 false = refl

      go : (s : Bool) → leb (top f) (to_bits f x) ≡ s → of_bits f (bit_and (to_bits f x) (top f) + r) ≡ whole_of f (ways plus minus) x
      go s k =
          let i = sign_is s k in
          let j = e ∙ ap (λ (y : ℕ). cond (leb 1 y) minus plus) i ∙ chosen f s in
          ap (λ (y : ℕ). of_bits f (y + r)) i
          ∙ signed f (ways plus minus) x s r t l k (subst (λ (y : Way). Wholes f s y (sized f x) r) j (h s))
