-- What the two scans of the verdict see: numbers that are all finite, a triangle of three indices by its tests, and a short one. Assumes nothing.
use Rattle.std.proofs.Common.{◌≡◌, ℕ, ◌+◌, ◌*◌, ◌/◌, ◌%◌, ◌<◌, ◌≤◌, Bool, true, false, cond, not, ◌&&◌, ◌==◌, Option, leb, List, length, get_or, Result, Ok, Err, sym, refl, ◌∙◌, arith, below_more, lt-ltb, eq-eqb, ne_eqb, le-leb}
use Rattle.std.specs.Bool.{then_some}
use native.Mathlib.Decide.{dec_lt}
use lib.Ieee.{Float, nan}
use lib.Ieee.Scale.{finite}
use Rattle.vector.specs.Coords.{all_finite, point_finite}
use Rattle.shape.specs.declared.validate.Flaw.{Flaw}
use Rattle.shape.specs.declared.validate.Flaw.TheVariants.{Past, Flat}
use Rattle.shape.specs.Gather.{any, IsFirst}
use Rattle.shape.specs.Lists.{point_at}
use Rattle.shape.specs.Verdict.{FiniteBelow, unsound, flat_or, finding_of, is_faulty, faulty_at, triples_of}
use Rattle.shape.proofs.Laws.Gather.{any_none, least_at, least_none}

-- ---- finite numbers

and_left : (a b : Bool) → (a && b) ≡ true → a ≡ true
and_left true b e = refl
and_left false b e = e

and_right : (a b : Bool) → (a && b) ≡ true → b ≡ true
and_right true b e = e
and_right false b e = absurd (let z : ◌≡◌ {A = ℕ} 0 1 = cc in omega arith)

-- one number more
pub finite_next : (xs : List Float) (i : ℕ) (a b r : Bool) → (a ≡ true → FiniteBelow xs i) → b ≡ finite (get_or xs i nan) → r ≡ (a && b) → r ≡ true
    → FiniteBelow xs (i + 1)
finite_next xs i a b r h e f t =
    let both : (a && b) ≡ true = sym f ∙ t in
    below_more (λ (k : ℕ). finite (get_or xs k nan) ≡ true) i (h (and_left a b both)) (sym e ∙ and_right a b both)

pub finite_sound : (vs : List Float) → FiniteBelow vs (length vs) → (i : ℕ) → i < length vs / 3 → unsound vs i ≡ false
unfolding unsound point_finite all_finite point_at
finite_sound vs h i l =
    let p : 3 * i + 2 < length vs = omega arith in
    rw (lt-ltb _ _ p, h (3 * i) (omega arith), h (3 * i + 1) (omega arith), h (3 * i + 2) p)

-- ---- triangles

-- a triangle with fewer than three corners
short : (x y z : Bool) (a b : ℕ) (f : Result Unit Flaw) → is_faulty (cond x (Err (Past a)) (cond y (Err Flat) (cond z (Err (Past b)) (cond true (Err Flat) f)))) ≡ true
unfolding is_faulty
short true y z a b f = refl
short false true z a b f = refl
short false false true a b f = refl
short false false false a b f = refl

pub short_faulty : (vs : List Float) (is : List ℕ) (t : ℕ) → length is ≤ 3 * t + 2 → faulty_at vs is t ≡ true
unfolding faulty_at finding_of
short_faulty vs is t h =
    let n = length vs / 3 in
    let a = get_or is (3 * t) 0 in
    let b = get_or is (3 * t + 1) 0 in
    let c = get_or is (3 * t + 2) 0 in
    rw (le-leb _ _ h) (short (leb n a) (leb (length is) (3 * t + 1)) (leb n b) a b (cond (leb n c) (Err (Past c)) (flat_or vs a b c)))

-- where nothing is wrong with the triangles of three indices, the first is the short one, if there is one
pub first_short : (vs : List Float) (is : List ℕ) {r : Option ℕ} → any (faulty_at vs is) (length is / 3) ≡ false
    → r ≡ then_some (not (length is % 3 == 0)) (length is / 3) → IsFirst (faulty_at vs is) (triples_of is) r
first_short vs is g e =
    let f = faulty_at vs is in
    let m = length is / 3 in
    let h : (k : ℕ) → k < m → f k ≡ false = λ k l. any_none f k m l g in
    elim (dec_lt m (triples_of is)) [
      | yes p ↦
          (let s : (length is % 3 == 0) ≡ false = ne_eqb _ _ (λ z. omega (arith, z)) in
          rw (e, s) (p, least_at f (triples_of is) m p h (short_faulty vs is m (omega arith))))
      | no p ↦
          (let s : (length is % 3 == 0) ≡ true = eq-eqb _ _ (omega arith) in
          let t : triples_of is ≡ m = omega arith in
          rw (e, s, t) (least_none f m h))
    ]

is_faulty_flat : (x : Bool) → is_faulty (cond x (Err Flat) (Ok tt)) ≡ x
unfolding is_faulty
is_faulty_flat true = refl
is_faulty_flat false = refl
