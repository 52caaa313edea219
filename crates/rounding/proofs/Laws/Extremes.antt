-- The smaller and the larger of two floats against each, and the smallest and the largest of a list against its elements.
-- Of two zeros with different signs Rust may give either, so the laws of lists are stated for every function that meets `Picks`. Assumes nothing.
use Rattle.std.specs.Prelude.{◌≡◌, ℕ, zero, suc, ◌<◌, Bool, true, false, cond, not, T, ◌⊎◌, List, [], ◌∷◌, length, slice_index_or, Float}
use Rattle.std.proofs.Math.Path.{refl, subst}
use Rattle.std.proofs.Common.{sym, ◌∙◌, not-suc-le-zero, le_of_suc-le-suc, T_not}
use Rattle.std.proofs.Math.Logic.{inl, inr}
use mathlib.Core.List.{Memᴰ}
use Rattle.std.specs.Float.{nan, inf, fin}
use Rattle.std.specs.Float.Ieee.{le, is_nan}
use Rattle.rounding.specs.Extremes.{first, ge, min_of, max_of}
use Rattle.rounding.proofs.Laws.Order.{le_refl, le_trans, le_total, le_num_left, le_num_right, num_not_nan, not_nan_num}
use Rattle.rounding.specs.Numbers.{IsNum}

-- ---- r is the one of x and y that comes first in the order `rel`, a nan being passed over
pub record Picks (rel : Float → Float → Bool) (x y r : Float) : Type 0 where
  pub left : IsNum x → T (rel r x)
  pub right : IsNum y → T (rel r y)
  pub which : (r ≡ x) ⊎ (r ≡ y)

-- what is asked of the order
pub record Orders (rel : Float → Float → Bool) : Type 0 where
  pub refl_of : (x : Float) → IsNum x → T (rel x x)
  pub trans_of : (x y z : Float) → T (rel x y) → T (rel y z) → T (rel x z)
  pub total_of : (x y : Float) → IsNum x → IsNum y → T (rel x y) ⊎ T (rel y x)
  pub num_of : (x y : Float) → T (rel x y) → IsNum x

pub le_orders : Orders le
le_orders = record { refl_of = le_refl; trans_of = le_trans; total_of = le_total; num_of = le_num_left }

pub ge_orders : Orders ge
ge_orders = record {
  refl_of = λ x n. le_refl x n;
  trans_of = λ x y z h k. le_trans z y x k h;
  total_of = λ x y p q. le_total y x q p;
  num_of = λ x y h. le_num_right y x h;
}

-- ---- two values
nan_no_num : (x : Float) → T (is_nan x) → IsNum x → ⊥
nan_no_num x h n = T_not (is_nan x) (not_nan_num x n) h

pub first_picks : (rel : Float → Float → Bool) → Orders rel → (x y : Float) → Picks rel x y (first rel x y)
unfolding first
first_picks rel o x y = go (is_nan x) (is_nan y) (rel x y) (nan_no_num x) (nan_no_num y) (num_not_nan x) (num_not_nan y) (λ (h : T (rel x y)). h) (λ (h : T (not (rel x y))). T_not (rel x y) h)
  where
    go : (a b c : Bool) → (T a → IsNum x → ⊥) → (T b → IsNum y → ⊥) → (T (not a) → IsNum x) → (T (not b) → IsNum y) → (T c → T (rel x y)) → (T (not c) → T (rel x y) → ⊥)
        → Picks rel x y (cond a y (cond b x (cond c x y)))
    go true b c p q u v r s = record { left = λ n. absurd (p tt n); right = λ n. o.refl_of y n; which = inr refl }
    go false true c p q u v r s = record { left = λ n. o.refl_of x n; right = λ n. absurd (q tt n); which = inl refl }
    go false false true p q u v r s = record { left = λ n. o.refl_of x n; right = λ n. r tt; which = inl refl }
    go false false false p q u v r s = record {
      left = λ n. elim (o.total_of x y (u tt) (v tt)) [ inl h ↦ absurd (s tt h) | inr h ↦ h ];
      right = λ n. o.refl_of y n;
      which = inr refl;
    }

pub min_picks : (x y : Float) → Picks le x y (min_of x y)
unfolding min_of
min_picks x y = first_picks le le_orders x y

pub max_picks : (x y : Float) → Picks ge x y (max_of x y)
unfolding max_of
max_picks x y = first_picks ge ge_orders x y

nan_only : (x : Float) → (IsNum x → ⊥) → x ≡ nan
nan_only nan h = refl
nan_only (inf s) h = absurd (h tt)
nan_only (fin s m e) h = absurd (h tt)

-- ---- a list
unfoldable pub fold : (Float → Float → Float) → Float → List Float → Float
fold g a [] = a
fold g a (x ∷ xs) = fold g (g a x) xs

module _ (rel : Float → Float → Bool) (o : Orders rel) (g : Float → Float → Float) (ok : (x y : Float) → Picks rel x y (g x y)) where
  -- the result comes before what the fold starts from
  pub fold_start : (a : Float) (xs : List Float) → IsNum a → T (rel (fold g a xs) a)
  unfolding fold
  fold_start a [] n = o.refl_of a n
  fold_start a (x ∷ xs) n =
      let h : T (rel (g a x) a) = (ok a x).left n in
      o.trans_of (fold g (g a x) xs) (g a x) a (fold_start (g a x) xs (o.num_of (g a x) a h)) h

  -- and before each element that is a number
  pub fold_first : (a : Float) (xs : List Float) (x : Float) → Memᴰ x xs → IsNum x → T (rel (fold g a xs) x)
  unfolding fold
  fold_first a [] x m n = elim m [ ]
  fold_first a (y ∷ xs) x (Memᴰ.head e) n =
      let h : T (rel (g a y) y) = (ok a y).right (subst (λ (z : Float). IsNum z) e n) in
      subst (λ (z : Float). T (rel (fold g (g a y) xs) z)) (sym e)
      (o.trans_of (fold g (g a y) xs) (g a y) y (fold_start (g a y) xs (o.num_of (g a y) y h)) h)
  fold_first a (y ∷ xs) x (Memᴰ.tail m) n = fold_first (g a y) xs x m n

  -- it is a nan only where all are
  pub fold_nan_start : (a : Float) (xs : List Float) → fold g a xs ≡ nan → a ≡ nan
  fold_nan_start a xs e = nan_only a (λ (n : IsNum a). subst (λ (z : Float). IsNum z) e (o.num_of (fold g a xs) a (fold_start a xs n)))

  pub fold_nan : (a : Float) (xs : List Float) → fold g a xs ≡ nan → (x : Float) → Memᴰ x xs → x ≡ nan
  fold_nan a xs e x m = nan_only x (λ (n : IsNum x). subst (λ (z : Float). IsNum z) e (o.num_of (fold g a xs) x (fold_first a xs x m n)))

  -- it is the start or one of the elements
  pub fold_which : (a : Float) (xs : List Float) → (fold g a xs ≡ a) ⊎ Memᴰ (fold g a xs) xs
  unfolding fold
  fold_which a [] = inl refl
  fold_which a (y ∷ xs) = step (fold_which (g a y) xs) (ok a y).which
    where
      step : (fold g (g a y) xs ≡ g a y) ⊎ Memᴰ (fold g (g a y) xs) xs → (g a y ≡ a) ⊎ (g a y ≡ y) → (fold g (g a y) xs ≡ a) ⊎ Memᴰ (fold g (g a y) xs) (y ∷ xs)
      step (inr m) w = inr (Memᴰ.tail m)
      step (inl e) (inl w) = inl (e ∙ w)
      step (inl e) (inr w) = inr (Memᴰ.head (e ∙ w))

-- ---- an element by its index
pub mem_at : (xs : List Float) (i : ℕ) (d : Float) → i < length xs → Memᴰ (slice_index_or xs i d) xs
mem_at [] i d h = absurd (not-suc-le-zero h)
mem_at (x ∷ xs) zero d h = Memᴰ.head refl
mem_at (x ∷ xs) (suc i) d h = Memᴰ.tail (mem_at xs i d (le_of_suc-le-suc h))

-- ---- the smallest and the largest of a list, which start from a nan
pub min_list_le : (xs : List Float) (i : ℕ) → i < length xs → IsNum (slice_index_or xs i nan) → T (le (fold min_of nan xs) (slice_index_or xs i nan))
min_list_le xs i h n = fold_first le le_orders min_of min_picks nan xs (slice_index_or xs i nan) (mem_at xs i nan h) n

pub max_list_ge : (xs : List Float) (i : ℕ) → i < length xs → IsNum (slice_index_or xs i nan) → T (le (slice_index_or xs i nan) (fold max_of nan xs))
max_list_ge xs i h n = fold_first ge ge_orders max_of max_picks nan xs (slice_index_or xs i nan) (mem_at xs i nan h) n

pub min_list_nan : (xs : List Float) → fold min_of nan xs ≡ nan → (i : ℕ) → i < length xs → slice_index_or xs i nan ≡ nan
min_list_nan xs e i h = fold_nan le le_orders min_of min_picks nan xs e (slice_index_or xs i nan) (mem_at xs i nan h)

pub max_list_nan : (xs : List Float) → fold max_of nan xs ≡ nan → (i : ℕ) → i < length xs → slice_index_or xs i nan ≡ nan
max_list_nan xs e i h = fold_nan ge ge_orders max_of max_picks nan xs e (slice_index_or xs i nan) (mem_at xs i nan h)
