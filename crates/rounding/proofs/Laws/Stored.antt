-- A single that is stored as the index stores it and read back is the same number: only the sign of a zero is lost, and no order turns on that.
-- Assumes nothing.
use Rattle.std.specs.Prelude.{◌≡◌, Bool, true, false, T, ◌⊎◌, pos, refl, Float}
use Rattle.std.proofs.Common.{sym, ap, subst, inl, inr, ⊎_elim}
use Rattle.std.specs.Float.{nan, inf, fin, binary32}
use Rattle.std.specs.Float.Ieee.{fits, of_bits, eq, le}
use Rattle.std.specs.Float.Ieee.Bits.{of_bits-to_bits}
use Rattle.std.specs.Float.Ieee.Scale.{finite}
use Rattle.rounding.specs.Stored.{stored_of}
use Rattle.rounding.proofs.Laws.Basics.{same_test}
use Rattle.rounding.proofs.Laws.Order.{le_trans, le_of_eq, ge_of_eq, eq_sym, eq_trans}

-- what is read back
abbrev pub back : Float → Float
back x = of_bits binary32 (stored_of x)

abbrev zero : Float
zero = fin false 0 (pos 0)

-- finite, and equal as numbers
pub record Zeros (x y : Float) : Type 0 where
  pub left : T (finite x)
  pub right : T (finite y)
  pub up : T (le x y)
  pub down : T (le y x)

zero_finite : (x : Float) → T (eq x zero) → T (finite x)
unfolding eq
zero_finite nan h = absurd h
zero_finite (inf s) h = absurd h
zero_finite (fin s m e) h = tt

plus_zero : T (eq (of_bits binary32 0) zero)
unfolding of_bits eq
plus_zero = tt

zeros : (x : Float) → T (eq x zero) → Zeros (of_bits binary32 0) x
zeros x h =
    let k : T (eq (of_bits binary32 0) x) = eq_trans (of_bits binary32 0) zero x plus_zero (eq_sym x zero h) in
    record { left = zero_finite (of_bits binary32 0) plus_zero; right = zero_finite x h; up = le_of_eq (of_bits binary32 0) x k; down = ge_of_eq (of_bits binary32 0) x k }

pub back_same : (x : Float) → T (fits binary32 x) → eq x zero ≡ false → back x ≡ x
unfolding stored_of
back_same x h e = rw e (of_bits-to_bits binary32 x h)

back_zero : (x : Float) → eq x zero ≡ true → back x ≡ of_bits binary32 0
unfolding stored_of
back_zero x e = rw e

-- x itself, or a zero for a zero
pub either : (x : Float) → T (fits binary32 x) → (back x ≡ x) ⊎ Zeros (back x) x
either x h = go (eq x zero) refl
  where
    go : (b : Bool) → eq x zero ≡ b → (back x ≡ x) ⊎ Zeros (back x) x
    go true e = inr (subst (λ (y : Float). Zeros y x) (sym (back_zero x e)) (zeros x (subst T (sym e) tt)))
    go false e = inl (back_same x h e)

pub back_le : (x p : Float) → T (fits binary32 x) → le (back x) p ≡ le x p
back_le x p h =
    ⊎_elim (λ e. ap (λ (y : Float). le y p) e)
    (λ z. same_test (le (back x) p) (le x p) (λ l. le_trans x (back x) p z.down l) (λ l. le_trans (back x) x p z.up l))
    (either x h)

pub le_back : (x p : Float) → T (fits binary32 x) → le p (back x) ≡ le p x
le_back x p h =
    ⊎_elim (λ e. ap (λ (y : Float). le p y) e)
    (λ z. same_test (le p (back x)) (le p x) (λ l. le_trans p (back x) x l z.up) (λ l. le_trans p x (back x) l z.down))
    (either x h)
