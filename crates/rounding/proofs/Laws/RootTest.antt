-- A root against a constant, with no root taken: a test that grows with the root is one comparison of the number with a constant c (`edge`). To know c, one shows two
-- computed cases: the test holds at c's root, and fails at that of the number before c. Assumes nothing.
use Rattle.std.proofs.Common.{inl, inr, sym, ap, ◌∙◌, subst, lt_of_mul-lt-mul_right, mul-le-mul_right, mul-lt-mul_of_pos_right, mul_assoc, zero-lt-suc, arith, T_not, leb→le, pow-add, pow_pos, pow_mono}
use Rattle.std.specs.Prelude.{◌≡◌, ℕ, zero, suc, ◌+◌, ◌-◌, ◌*◌, ◌^◌, ◌<◌, ◌≤◌, Bool, true, false, not, ◌&&◌, T, nat_le, refl, Float}
use Rattle.std.proofs.Math.Dec.{not_T, nleb→lt}
use Rattle.std.specs.Float.{nan, inf, fin, Format}
use Rattle.std.specs.Float.Ieee.{prec, low, le, lt, fits}
use Rattle.std.specs.Float.Ieee.Fits.{two}
use Rattle.std.specs.Float.Ieee.Bits.{is_true, is_false}
use Rattle.std.specs.Float.Ieee.Exact.{HasValue}
use Rattle.std.specs.Float.Ieee.Order.{le_of_values}
use Rattle.rounding.specs.Root.{sqrt_of}
use Rattle.rounding.specs.Width.{narrow_of}
use Rattle.rounding.proofs.Laws.Basics.{same_test}
use Rattle.rounding.proofs.Laws.Representable.{held}
use Rattle.rounding.proofs.Laws.RootNearest.{sqrt_fin}
use Rattle.rounding.proofs.Laws.Order.{le→Le, Le→le, le_trans, le_or_lt, lt→not_le, not_le→lt, lt_of_lt_of_le, nan_lt, nan_le, le_nan, lt_nan, T_of, not-T-of}
use Rattle.rounding.specs.Numbers.{IsNum}
use Rattle.rounding.proofs.Laws.Width.{narrow_mono, narrow_num, narrow_nan}
use Rattle.rounding.proofs.Laws.RootOrder.{sqrt_mono, root_number}
use Rattle.rounding.specs.Numbers.{nought}

-- ---- a test on floats that holds at a larger number where it holds at a smaller, and at no nan
pub record Rising (u : Float → Bool) : Type 0 where
  pub rises : (v w : Float) → T (le v w) → T (u v) → T (u w)
  pub none : u nan ≡ false

-- c is C * 2 ^ h of the format's smallest values, and p the number before it. (A power of two is written as 2 ^ prec times a power.)
pub record Edge (f : Format) (u : Float → Bool) (c p : Float) : Type 0 where
  pub C : ℕ
  pub h : ℕ
  pub lead : 0 < h → 2 ^ (prec f - 1) < C
  pub here : HasValue c false (C * 2 ^ h) (2 ^ low f)
  pub prior : HasValue p false ((C - 1) * 2 ^ h) (2 ^ low f)
  pub passes : u (sqrt_of f c) ≡ true
  pub fails : u (sqrt_of f p) ≡ false

-- ---- nothing that the format holds lies between p and c

next : (p q j C h : ℕ) → 2 ≤ p → q < 2 ^ p → (0 < h → 2 ^ (p - 1) < C) → q * 2 ^ j < C * 2 ^ h → q * 2 ^ j ≤ (C - 1) * 2 ^ h
next p q j C h P Q L l = go (nat_le h j) (leb→le h j) (nleb→lt h j)
  where
    go : (b : Bool) → (T b → h ≤ j) → (T (not b) → j < h) → q * 2 ^ j ≤ (C - 1) * 2 ^ h
    go true y n =
        let k : h ≤ j = y tt in
        let i : j ≡ j - h + h = omega arith in
        let e : q * 2 ^ j ≡ q * 2 ^ (j - h) * 2 ^ h = ap (λ (x : ℕ). q * x) (ap (λ (x : ℕ). 2 ^ x) i ∙ pow-add 2 (j - h) h) ∙ sym (mul_assoc q (2 ^ (j - h)) (2 ^ h)) in
        let a : q * 2 ^ (j - h) < C = lt_of_mul-lt-mul_right (2 ^ h) (subst (λ (x : ℕ). x < C * 2 ^ h) e l) in
        let b : q * 2 ^ (j - h) ≤ C - 1 = omega arith in
        subst (λ (x : ℕ). x ≤ (C - 1) * 2 ^ h) (sym e) (mul-le-mul_right (2 ^ h) b)
    go false y n =
        let k : j < h = n tt in
        let z : 0 < h = omega arith in
        let m : 2 ^ (p - 1) < C = L z in
        let i : p + j ≤ p - 1 + h = omega arith in
        let a : q * 2 ^ j < 2 ^ p * 2 ^ j = mul-lt-mul_of_pos_right Q (pow_pos j) in
        let b : 2 ^ (p + j) ≤ 2 ^ (p - 1 + h) = pow_mono i in
        let c = pow-add 2 p j in
        let d = pow-add 2 (p - 1) h in
        let e : 2 ^ (p - 1) ≤ C - 1 = omega arith in
        let g : 2 ^ (p - 1) * 2 ^ h ≤ (C - 1) * 2 ^ h = mul-le-mul_right (2 ^ h) e in
        omega arith

-- ---- a number below zero has no root

no_root : (f : Format) (x : Float) → (T (le nought x) → ⊥) → sqrt_of f x ≡ nan
unfolding sqrt_of
no_root f nan n = refl
no_root f (inf true) n = refl
no_root f (inf false) n = absurd (n (Le→le nought (inf false) tt))
no_root f (fin false m e) n = absurd (n (Le→le nought (fin false m e) (omega arith)))
no_root f (fin true zero e) n = absurd (n (Le→le nought (fin true 0 e) (omega arith)))
no_root f (fin true (suc m) e) n = sqrt_fin f true (suc m) e (zero-lt-suc m)

nought_value : (c : Float) (a l : ℕ) → 0 < l → HasValue c false a l → T (le nought c)
nought_value c a l L v = le_of_values nought c 0 1 a l (zero-lt-suc 0) L (refl, refl) v (omega arith)

-- ---- the law

module _ (f : Format) (u : Float → Bool) (r : Rising u) (c p : Float) (g : Edge f u c p) where
  module _ where
    -- not up to c is up to p
    down_to : (x : Float) → T (fits f x) → T (le nought x) → (T (le c x) → ⊥) → T (le x p)
    down_to nan t z n = absurd (le→Le nought nan z)
    down_to (inf true) t z n = absurd (le→Le nought (inf true) z)
    down_to (inf false) t z n = absurd (n (top_of c g.here))
      where
        top_of : (c : Float) → HasValue c false (g.C * 2 ^ g.h) (2 ^ low f) → T (le c (inf false))
        top_of nan v = absurd v
        top_of (inf s) v = absurd v
        top_of (fin s m e) v = Le→le (fin s m e) (inf false) tt
    down_to (fin false m e) t z n =
        let k = held f false m e t in
        let L = pow_pos (low f) in
        let l : k.q * 2 ^ k.j < g.C * 2 ^ g.h =
        nleb→lt (g.C * 2 ^ g.h) (k.q * 2 ^ k.j)
        (not_T (nat_le (g.C * 2 ^ g.h) (k.q * 2 ^ k.j)) (λ w.
        n (le_of_values c (fin false m e) (g.C * 2 ^ g.h) (2 ^ low f) (k.q * 2 ^ k.j) (2 ^ low f) L L g.here (refl, k.value) (mul-le-mul_right (2 ^ low f) (leb→le (g.C * 2 ^ g.h) (k.q * 2 ^ k.j) w))))) in
        let o = next (prec f) k.q k.j g.C g.h (two f) k.short g.lead l in
        le_of_values (fin false m e) p (k.q * 2 ^ k.j) (2 ^ low f) ((g.C - 1) * 2 ^ g.h) (2 ^ low f) L L (refl, k.value) g.prior (mul-le-mul_right (2 ^ low f) o)
    down_to (fin true m e) t z n =
        le_trans (fin true m e) nought p (Le→le (fin true m e) nought (omega arith)) (nought_value p ((g.C - 1) * 2 ^ g.h) (2 ^ low f) (pow_pos (low f)) g.prior)

  pub edge : (x : Float) → T (fits f x) → u (sqrt_of f x) ≡ le c x
  edge x t = go (le nought x) (le c x) refl refl
    where
      above_nought : T (le nought c)
      above_nought = nought_value c (g.C * 2 ^ g.h) (2 ^ low f) (pow_pos (low f)) g.here

      go : (a b : Bool) → le nought x ≡ a → le c x ≡ b → u (sqrt_of f x) ≡ b
      go true true z k = is_true (u (sqrt_of f x)) (r.rises (sqrt_of f c) (sqrt_of f x) (sqrt_mono f c x above_nought (T_of k)) (T_of g.passes))
      go true false z k = is_false (u (sqrt_of f x)) (not_T (u (sqrt_of f x)) (λ w. not-T-of g.fails (r.rises (sqrt_of f x) (sqrt_of f p) (sqrt_mono f x p (T_of z) (down_to x t (T_of z) (not-T-of k))) w)))
      go false true z k = absurd (not-T-of z (le_trans nought c x above_nought (T_of k)))
      go false false z k = ap u (no_root f x (not-T-of z)) ∙ r.none

-- ---- what may stand between the root and the constant: nothing, or a narrower format

-- n keeps the order, and takes numbers to numbers and a nan to a nan
pub record Keeps (n : Float → Float) : Type 0 where
  pub order : (v w : Float) → T (le v w) → T (le (n v) (n w))
  pub number : (v : Float) → IsNum v → IsNum (n v)
  pub nan_of : n nan ≡ nan

pub as_it_is : Keeps (λ v. v)
as_it_is = record { order = λ v w h. h; number = λ v h. h; nan_of = refl }

pub narrowed : (f : Format) → Keeps (narrow_of f)
narrowed f = record { order = narrow_mono f; number = narrow_num f; nan_of = narrow_nan f }

-- ---- the tests of a root against t

module _ (n : Float → Float) (k : Keeps n) (t : Float) where
  pub at_least : Rising (λ v. le t (n v))
  at_least = record { rises = λ v w h g. le_trans t (n v) (n w) g (k.order v w h); none = ap (λ (v : Float). le t v) k.nan_of ∙ le_nan t }

  pub above : Rising (λ v. lt t (n v))
  above = record { rises = λ v w h g. lt_of_lt_of_le t (n v) (n w) g (k.order v w h); none = ap (λ (v : Float). lt t v) k.nan_of ∙ lt_nan t }

-- the other two hold where these fail, at a number that has a root
lt_not : (x y : Float) → IsNum x → IsNum y → lt x y ≡ not (le y x)
lt_not x y p q = same_test (lt x y) (not (le y x)) (λ h. not_T (le y x) (lt→not_le x y h)) (λ h. not_le→lt x y p q (T_not (le y x) h))

le_not : (x y : Float) → IsNum x → IsNum y → le x y ≡ not (lt y x)
le_not x y p q = same_test (le x y) (not (lt y x)) (λ h. not_T (lt y x) (λ k. lt→not_le y x k h)) (λ h. elim (le_or_lt x y p q) [ inl k ↦ k | inr k ↦ absurd (T_not (lt y x) h k) ])

module _ (f : Format) (n : Float → Float) (k : Keeps n) (t c p : Float) (N : IsNum t) (x : Float) (i : T (fits f x)) where
  pub root_below : Edge f (λ v. le t (n v)) c p → lt (n (sqrt_of f x)) t ≡ le nought x && not (le c x)
  root_below g = go (le nought x) refl
    where
      go : (a : Bool) → le nought x ≡ a → lt (n (sqrt_of f x)) t ≡ a && not (le c x)
      go true z = lt_not (n (sqrt_of f x)) t (k.number (sqrt_of f x) (root_number f x (T_of z))) N ∙ ap not (edge f (λ v. le t (n v)) (at_least n k t) c p g x i)
      go false z = ap (λ (v : Float). lt (n v) t) (no_root f x (not-T-of z)) ∙ ap (λ (v : Float). lt v t) k.nan_of ∙ nan_lt t

  pub root_at_most : Edge f (λ v. lt t (n v)) c p → le (n (sqrt_of f x)) t ≡ le nought x && not (le c x)
  root_at_most g = go (le nought x) refl
    where
      go : (a : Bool) → le nought x ≡ a → le (n (sqrt_of f x)) t ≡ a && not (le c x)
      go true z = le_not (n (sqrt_of f x)) t (k.number (sqrt_of f x) (root_number f x (T_of z))) N ∙ ap not (edge f (λ v. lt t (n v)) (above n k t) c p g x i)
      go false z = ap (λ (v : Float). le (n v) t) (no_root f x (not-T-of z)) ∙ ap (λ (v : Float). le v t) k.nan_of ∙ nan_le t

-- as a program asks: first whether c is reached
pub reached : {v b : Bool} (a : Bool) → v ≡ a && not b → b ≡ true → false ≡ v
reached true h e = sym (h ∙ ap not e)
reached false h e = sym h

pub missed : {v b : Bool} (a : Bool) → v ≡ a && not b → b ≡ false → a ≡ v
missed true h e = sym (h ∙ ap not e)
missed false h e = sym h
