-- Roots written one by one to the start of a list. Assumes nothing.
use Rattle.std.proofs.Common.{◌≡◌, ℕ, zero, suc, ◌+◌, ◌<◌, min, List, [], ◌∷◌, ◌++◌, take, drop, length, get_or, refl, ap, arith, ◌∙◌}
use Rattle.std.proofs.lemmas.List.{length-take, take-append-drop, set-append_left}
use native.Mathlib.Numerals.{add-one}
use native.Mathlib.Nat.{not-suc-le-zero, le_of_suc-le-suc}
use lib.ListN.{set}
use Rattle.roundingc.specs.Arrays.{mapped}

module _ {A : Type 0} (h : A → A) where
  mapped_more : (d : A) (i : ℕ) (xs out : List A) → i < length xs → i < length out → set (mapped h i xs out) i (h (get_or xs i d)) ≡ mapped h (suc i) xs out
  unfolding mapped
  mapped_more d i [] out l k = absurd (not-suc-le-zero l)
  mapped_more d i (x ∷ xs) [] l k = absurd (not-suc-le-zero k)
  mapped_more d zero (x ∷ xs) (y ∷ ys) l k = refl
  mapped_more d (suc i) (x ∷ xs) (y ∷ ys) l k = ap (λ (r : List A). h x ∷ r) (mapped_more d i xs ys (le_of_suc-le-suc l) (le_of_suc-le-suc k))

  pub mapped_none : (xs out : List A) → out ≡ mapped h 0 xs out
  unfolding mapped
  mapped_none xs out = refl

  -- one element more
  pub mapped_turn :
      (d : A) (i : ℕ) (xs out now : List A) (r : A) → now ≡ mapped h i xs out → r ≡ h (get_or xs i d) → i < length xs → i < length out →
      set now i r ≡ mapped h (i + 1) xs out
  mapped_turn d i xs out now r e q l k = rw (add-one, e, q) (mapped_more d i xs out l k)

  -- the same where only the first n of `out` are lent: before the loop, and one turn of it
  pub start_none : (n : ℕ) (xs out : List A) → take n out ++ drop n out ≡ mapped h 0 xs out
  start_none n xs out = take-append-drop n out ∙ mapped_none xs out

  pub start_turn :
      (d : A) (i n : ℕ) (xs out now : List A) (r : A) → now ++ drop n out ≡ mapped h i xs out → r ≡ h (get_or xs i d) → n ≡ min (length xs) (length out)
      → i < length (take n out) → length now ≡ length (take n out) → set now i r ++ drop n out ≡ mapped h (i + 1) xs out
  start_turn d i n xs out now r e q m l k =
      rw (← set-append_left now (drop n out) i r (omega (arith, l, k)))
      (mapped_turn d i xs out (now ++ drop n out) r e q (omega (arith, length-take n out, l, m)) (omega (arith, length-take n out, l, m)))
