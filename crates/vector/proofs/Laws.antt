-- Laws about lengths and directions, for the crates above to cite. Assumes nothing.
pub mod Direction
use Rattle.std.specs.Prelude.{◌≡◌, refl, ◌⊎◌, ◌*◌, Bool, true, false, ◌&&◌, cond, T, Float}
use Rattle.std.proofs.Common.{sym, ap, ◌∙◌, subst, inl, inr, arith}
use Rattle.std.specs.Float.{nan, inf, fin, Format, binary32}
use Rattle.std.specs.Float.Ieee.{up, down, unlike, add, mul, lt, le}
use Rattle.std.specs.Float.Ieee.Scale.{finite}
use Rattle.rounding.specs.Root.{sqrt_of, PositiveRoot}
use Rattle.rounding.proofs.Laws.Order.{Le→le}
use Rattle.rounding.specs.Numbers.{IsNum}
use Rattle.rounding.proofs.Laws.Rounding.{round_signed}
use Rattle.rounding.proofs.Laws.Sums.{add_num_left, add_num_right}
pub use Rattle.rounding.proofs.Laws.Least.{sum_least}
use Rattle.rounding.proofs.Laws.Least.{signed_least}
use Rattle.rounding.proofs.Laws.RootOrder.{sqrt_mono}
use Rattle.rounding.specs.Numbers.{nought}
use Rattle.vector.specs.Single.{◌⊘◌, 0f, 1f}
use Rattle.vector.specs.Coords.{length_squared_of, length_of, vector_mul, normalize_or}
use Rattle.vector.specs.declared.coords.Vector.{Vector}

-- ---- a square is not negative, nor is a sum of squares, nor is a length; or it is a NaN

like : (s : Bool) → unlike s s ≡ false
like true = refl
like false = refl

pub square_least : (f : Format) (x : Float) → IsNum (mul f x x) → T (le nought (mul f x x))
unfolding mul
square_least f nan h = absurd h
square_least f (inf s) h = subst (λ (t : Bool). T (le nought (inf t))) (sym (like s)) (Le→le nought (inf false) tt)
square_least f (fin s m e) h = rw (like s) (signed_least _ (round_signed f false (m * up e * (m * up e)) (down e * down e)))

pub length_squared_least : (a : Vector) → IsNum (length_squared_of a) → T (le nought (length_squared_of a))
unfolding length_squared_of
length_squared_least a n =
    let f = binary32 in
    let x = mul f a.x a.x in
    let y = mul f a.y a.y in
    let z = mul f a.z a.z in
    let k : IsNum (add f x y) = add_num_left f (add f x y) z n in
    sum_least f (add f x y) z
    (sum_least f x y (square_least f a.x (add_num_left f x y k)) (square_least f a.y (add_num_right f x y k)) k)
    (square_least f a.z (add_num_right f (add f x y) z n)) n

number_or_nan : (x : Float) → (x ≡ nan) ⊎ IsNum x
number_or_nan nan = inl refl
number_or_nan (inf s) = inr tt
number_or_nan (fin s m e) = inr tt

root_nan : (f : Format) → sqrt_of f nan ≡ nan
unfolding sqrt_of
root_nan f = refl

root_nought : (f : Format) → sqrt_of f nought ≡ nought
unfolding sqrt_of
root_nought f = refl

pub length_least : (a : Vector) → IsNum (length_of a) → T (le nought (length_of a))
unfolding length_of
length_least a n = go (number_or_nan (length_squared_of a))
  where
    go : (length_squared_of a ≡ nan) ⊎ IsNum (length_squared_of a) → T (le nought (sqrt_of binary32 (length_squared_of a)))
    go (inl e) = absurd (subst IsNum (ap (sqrt_of binary32) e ∙ root_nan binary32) n)
    go (inr k) =
        let x = length_squared_of a in
        subst (λ (z : Float). T (le z (sqrt_of binary32 x))) (root_nought binary32)
        (sqrt_mono binary32 nought x (Le→le nought nought (omega arith)) (length_squared_least a k))

-- ---- a direction is the vector over its length, which is then finite and above zero, or it is the fallback

pub record Directed (a r : Vector) : Type 0 where
  pub bounded : T (finite (length_of a))
  pub some : T (lt 0f (length_of a))
  pub is : r ≡ vector_mul a (1f ⊘ length_of a)

pub normalize_or_cases : (a fallback : Vector) → (normalize_or a fallback ≡ fallback) ⊎ Directed a (normalize_or a fallback)
unfolding normalize_or
normalize_or_cases a fallback = go (finite (length_of a)) (lt 0f (length_of a)) refl refl
  where
    go : (p q : Bool) → finite (length_of a) ≡ p → lt 0f (length_of a) ≡ q
        → (cond (p && q) (vector_mul a (1f ⊘ length_of a)) fallback ≡ fallback) ⊎ Directed a (cond (p && q) (vector_mul a (1f ⊘ length_of a)) fallback)
    go true true e h = inr (record { bounded = subst T (sym e) tt; some = subst T (sym h) tt; is = refl })
    go true false e h = inl refl
    go false q e h = inl refl

-- over the root of its square, where that is finite and above zero
pub over_root : (a fallback : Vector) (r : Float) → PositiveRoot (length_squared_of a) r → vector_mul a (1f ⊘ r) ≡ normalize_or a fallback
unfolding normalize_or length_of
over_root a fallback r h = rw (← h.value, h.whole, h.above)
