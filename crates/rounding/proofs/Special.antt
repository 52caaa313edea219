-- The numbers that are told from the bits alone: zero, what is below zero, the infinities, and what is no number. Assumes nothing.
use Rattle.std.proofs.Common.{◌≡◌, ℕ, ◌+◌, ◌-◌, ◌*◌, ◌%◌, ◌^◌, ◌<◌, ◌≤◌, Bool, true, false, cond, not, T, leb, ◌⊎◌, inl, inr, sym, refl, ap, ◌∙◌, subst, mod-lt, mod-eq_of_lt, zero-le, arith, lit<, lit≤}
use native.Mathlib.Nat.{eq-or-lt_of_le, add-mod_left, mod_self}
use lib.Bits.{bit_and, and_le_r}
use lib.Ieee.{Float, nan, inf, fin, Format, binary32, binary64, hid, ones, top, of_bits, to_bits, fits, is_nan}
use lib.Ieee.Bits.{of_bits-to_bits, to_bits-lt}
use Rattle.rounding.specs.declared.whole.Way.{Way}
use Rattle.rounding.specs.Extremes.{abs_of}
use Rattle.rounding.specs.Root.{sqrt_of}
use Rattle.rounding.specs.Steps.{Rooted, Wholes}
use Rattle.rounding.specs.Whole.{ways, whole_of}
use Rattle.rounding.proofs.Fields.{neg_root, zero_root, inf_root}
use Rattle.rounding.proofs.Words.{nan_word, masked, top_pos}
use Rattle.rounding.proofs.Sign.{sized, is_inf, signed_by}
use Rattle.rounding.proofs.Choosing.{unsigned_word}

-- of bits within the width nothing is dropped
pub kept : (f : Format) (r : ℕ) → r < 2 * top f → of_bits f (r % (2 * top f)) ≡ of_bits f r
kept f r h = ap (of_bits f) (mod-eq_of_lt h)

-- the infinity's bits have no sign
pub inf_under : (f : Format) → ones f * hid f < top f
inf_under binary32 = lit< tt
inf_under binary64 = lit< tt

-- the next bits are a NaN's
pub nan_past : (f : Format) → of_bits f ((ones f * hid f + 1) % (2 * top f)) ≡ nan
unfolding of_bits
nan_past binary32 = refl
nan_past binary64 = refl

-- the bits of a finite number and its sign
pub within : (f : Format) (b r : ℕ) → r < ones f * hid f → b ≤ top f → b + r < 2 * top f
within f b r h l = let k = inf_under f in omega arith

pub fits_word : (f : Format) → 2 * top f ≤ 2 ^ 64
fits_word binary32 = lit≤ tt
fits_word binary64 = lit≤ tt

pub sized_top : (f : Format) (x : Float) → sized f x < top f
sized_top f x = mod-lt (to_bits f x) (top_pos f)

-- a NaN is written with no sign
signed_num : (f : Format) (x : Float) → top f < to_bits f x → T (not (is_nan x))
unfolding to_bits is_nan
signed_num binary32 nan h = absurd (omega arith)
signed_num binary64 nan h = absurd (omega arith)
signed_num f (inf s) h = tt
signed_num f (fin s m e) h = tt

root_nan : (f : Format) → nan ≡ sqrt_of f nan
unfolding sqrt_of
root_nan f = refl

whole_nan : (f : Format) (w : Bool → Way) → nan ≡ whole_of f w nan
unfolding whole_of
whole_nan f w = refl

whole_inf : (f : Format) (w : Bool → Way) (s : Bool) → inf s ≡ whole_of f w (inf s)
unfolding whole_of
whole_inf f w s = refl

module _ (f : Format) (x : Float) (t : fits f x ≡ true) where
  held : T (fits f x)
  held = subst (λ (y : Bool). T y) (sym t) tt

  pub nan_is : ones f * hid f < sized f x → x ≡ nan
  nan_is h = sym (of_bits-to_bits f x held) ∙ sym (nan_word f (to_bits f x) h)

  -- from the infinity's bits on
  past : ones f * hid f ≤ sized f x → (x ≡ nan) ⊎ ((s : Bool) × (x ≡ inf s))
  past h = elim (eq-or-lt_of_le h) [ inl e ↦ inr (leb (top f) (to_bits f x), is_inf f x (leb (top f) (to_bits f x)) held (sym e) refl) | inr l ↦ inl (nan_is l) ]

  pub whole_past : (w : Bool → Way) → ones f * hid f ≤ sized f x → x ≡ whole_of f w x
  whole_past w h =
      elim (past h) [
        | inl e ↦ subst (λ (y : Float). y ≡ whole_of f w y) (sym e) (whole_nan f w)
        | inr e ↦ subst (λ (y : Float). y ≡ whole_of f w y) (sym e.1) (whole_inf f w e.0)
      ]

  pub abs_is : of_bits f (sized f x % (2 * top f)) ≡ abs_of x
  abs_is = let l = sized_top f x in kept f (sized f x) (omega arith) ∙ ap (of_bits f) (sym (masked f x)) ∙ unsigned_word f x held

  -- ---- a whole number, with the sign put back

  pub signed_room : (r : ℕ) → r < ones f * hid f → bit_and (to_bits f x) (top f) + r < 2 * top f
  signed_room r h = within f (bit_and (to_bits f x) (top f)) r h (and_le_r (to_bits f x) (top f))

  pub signed_word : (plus minus w : Way) (r : ℕ) → sized f x < ones f * hid f → w ≡ cond (leb 1 (bit_and (to_bits f x) (top f))) minus plus → ((s : Bool) → Wholes f s w (sized f x) r)
      → of_bits f ((bit_and (to_bits f x) (top f) + r) % (2 * top f)) ≡ whole_of f (ways plus minus) x
  signed_word plus minus w r l e h = kept f _ (signed_room r (h false).finite) ∙ signed_by f x held plus minus w r l e h

  -- ---- the root

  zero_rooted : sized f x ≡ 0 → x ≡ sqrt_of f x
  zero_rooted z = zero_root f x held z

  nan_rooted : ones f * hid f < sized f x → x ≡ sqrt_of f x
  nan_rooted h = subst (λ (y : Float). y ≡ sqrt_of f y) (sym (nan_is h)) (root_nan f)

  -- a zero, the infinity above zero or a NaN
  pub same_rooted : to_bits f x ≤ top f → (0 < to_bits f x → ones f * hid f ≤ to_bits f x) → x ≡ sqrt_of f x
  same_rooted l h = elim (eq-or-lt_of_le l) [ inl e ↦ zero_rooted (ap (λ (b : ℕ). b % top f) e ∙ mod_self (top f)) | inr k ↦ below (mod-eq_of_lt k) (eq-or-lt_of_le (zero-le {n = to_bits f x})) ]
    where
      top_or : sized f x ≡ to_bits f x → ones f * hid f ≤ to_bits f x → x ≡ sqrt_of f x
      top_or e m = elim (eq-or-lt_of_le m) [ inl i ↦ inf_root f x held (sym i) | inr n ↦ nan_rooted (rw e n) ]

      below : sized f x ≡ to_bits f x → (0 ≡ to_bits f x) ⊎ (0 < to_bits f x) → x ≡ sqrt_of f x
      below e (inl z) = zero_rooted (e ∙ sym z)
      below e (inr p) = top_or e (h p)

  -- below zero
  pub minus_rooted : top f < to_bits f x → sqrt_of f x ≡ nan
  minus_rooted l =
      let k = inf_under f in
      let m = to_bits-lt f x held in
      let r = to_bits f x - top f in
      let h : r < top f = omega arith in
      let e : to_bits f x ≡ top f + r = omega arith in
      let i : sized f x ≡ r = ap (λ (b : ℕ). b % top f) e ∙ add-mod_left (top f) r ∙ mod-eq_of_lt h in
      neg_root f x held (signed_num f x l) (omega arith) (λ z. let o : r ≡ 0 = sym i ∙ z in omega arith)

  pub bits_rooted : (r : ℕ) → Rooted f (sqrt_of f (of_bits f (to_bits f x))) r → of_bits f (r % (2 * top f)) ≡ sqrt_of f x
  bits_rooted r h =
      let l = h.finite in
      let k = inf_under f in
      kept f r (omega arith) ∙ h.value ∙ ap (sqrt_of f) (of_bits-to_bits f x held)
