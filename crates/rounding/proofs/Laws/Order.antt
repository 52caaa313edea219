-- The order of floats: `le` is a total preorder on the values that are no nan, `lt` is its strict part, and `eq` its equivalence. A comparison with a nan is false.
-- The values need fit no format. Infinities, zeros of both signs and negative numbers are included. Assumes nothing.
use Rattle.std.specs.Prelude.{◌≡◌, ℕ, ◌+◌, ◌*◌, ◌<◌, ◌≤◌, Bool, true, false, not, T, ◌⊎◌, ◌↔◌, ℤ, nat_le, refl, Float}
use Rattle.std.proofs.Common.{sym, subst, inl, inr, mul-pos, arith, T_not, leb→le}
use Rattle.std.proofs.Math.Dec.{not_T, nleb→lt}
use Rattle.std.specs.Float.{nan, inf, fin}
use Rattle.std.specs.Float.Ieee.{up, down, lt, eq, le, ne, is_nan}
use Rattle.std.specs.Float.Ieee.Compare.{differs_from_itself}
use Rattle.std.specs.Float.Ieee.Fits.{down_pos}
use Rattle.rounding.proofs.Laws.Basics.{or_l, or_r, or_split}
use Rattle.rounding.proofs.Laws.Signed.{pp, nn, Leq, below→Less, Less→below, level→eq, eq→level, Leq→le, le→Leq, Cross, scaled, unscaled, cross_trans}
use Rattle.rounding.specs.Numbers.{IsNum}

pub num_not_nan : (x : Float) → T (not (is_nan x)) → IsNum x
unfolding is_nan
num_not_nan nan h = h
num_not_nan (inf s) h = tt
num_not_nan (fin s m e) h = tt

pub not_nan_num : (x : Float) → IsNum x → T (not (is_nan x))
unfolding is_nan
not_nan_num nan h = h
not_nan_num (inf s) h = tt
not_nan_num (fin s m e) h = tt

-- ---- `le` as a type
abbrev pub Le : Float → Float → Type 0
Le nan y = ⊥
Le (inf true) nan = ⊥
Le (inf true) (inf t) = Unit {0}
Le (inf true) (fin t n d) = Unit {0}
Le (inf false) nan = ⊥
Le (inf false) (inf true) = ⊥
Le (inf false) (inf false) = Unit {0}
Le (inf false) (fin t n d) = ⊥
Le (fin s m e) nan = ⊥
Le (fin s m e) (inf true) = ⊥
Le (fin s m e) (inf false) = Unit {0}
Le (fin s m e) (fin t n d) = Cross s (m * up e) (down e) t (n * up d) (down d)

pub le→Le : (x y : Float) → T (le x y) → Le x y
unfolding le
le→Le nan y h = h
le→Le (inf true) nan h = h
le→Le (inf true) (inf t) h = tt
le→Le (inf true) (fin t n d) h = tt
le→Le (inf false) nan h = h
le→Le (inf false) (inf true) h = h
le→Le (inf false) (inf false) h = tt
le→Le (inf false) (fin t n d) h = h
le→Le (fin s m e) nan h = h
le→Le (fin s m e) (inf true) h = h
le→Le (fin s m e) (inf false) h = tt
le→Le (fin s m e) (fin t n d) h = scaled s (m * up e) (down e) t (n * up d) (down d) (le→Leq s (m * up e * down d) t (n * up d * down e) h)

pub Le→le : (x y : Float) → Le x y → T (le x y)
unfolding le
Le→le nan y h = h
Le→le (inf true) nan h = h
Le→le (inf true) (inf true) h = tt
Le→le (inf true) (inf false) h = tt
Le→le (inf true) (fin t n d) h = tt
Le→le (inf false) nan h = h
Le→le (inf false) (inf true) h = h
Le→le (inf false) (inf false) h = tt
Le→le (inf false) (fin t n d) h = h
Le→le (fin s m e) nan h = h
Le→le (fin s m e) (inf true) h = h
Le→le (fin s m e) (inf false) h = tt
Le→le (fin s m e) (fin t n d) h = Leq→le s (m * up e * down d) t (n * up d * down e) (unscaled s (m * up e) (down e) t (n * up d) (down d) h)

-- ---- a preorder on the numbers
Le-refl : (x : Float) → IsNum x → Le x x
Le-refl nan n = n
Le-refl (inf true) n = tt
Le-refl (inf false) n = tt
Le-refl (fin true m e) n = omega arith
Le-refl (fin false m e) n = omega arith

pub Le-left : (x y : Float) → Le x y → IsNum x
Le-left nan y h = h
Le-left (inf s) y h = tt
Le-left (fin s m e) y h = tt

pub Le-right : (x y : Float) → Le x y → IsNum y
Le-right nan y h = absurd h
Le-right (inf true) nan h = h
Le-right (inf true) (inf t) h = tt
Le-right (inf true) (fin t n d) h = tt
Le-right (inf false) nan h = h
Le-right (inf false) (inf t) h = tt
Le-right (inf false) (fin t n d) h = tt
Le-right (fin s m e) nan h = h
Le-right (fin s m e) (inf t) h = tt
Le-right (fin s m e) (fin t n d) h = tt

pub bottom : (y : Float) → IsNum y → Le (inf true) y
bottom nan n = n
bottom (inf t) n = tt
bottom (fin t n d) h = tt

pub top : (x : Float) → IsNum x → Le x (inf false)
top nan n = n
top (inf true) n = tt
top (inf false) n = tt
top (fin t n d) h = tt

pub Le-trans : (x y z : Float) → Le x y → Le y z → Le x z
Le-trans nan y z h k = h
Le-trans (inf true) y z h k = bottom z (Le-right y z k)
Le-trans (inf false) nan z h k = absurd h
Le-trans (inf false) (inf true) z h k = absurd h
Le-trans (inf false) (inf false) z h k = k
Le-trans (inf false) (fin t n d) z h k = absurd h
Le-trans (fin s m e) nan z h k = absurd h
Le-trans (fin s m e) (inf true) z h k = absurd h
Le-trans (fin s m e) (inf false) nan h k = k
Le-trans (fin s m e) (inf false) (inf true) h k = k
Le-trans (fin s m e) (inf false) (inf false) h k = tt
Le-trans (fin s m e) (inf false) (fin u p g) h k = absurd k
Le-trans (fin s m e) (fin t n d) nan h k = k
Le-trans (fin s m e) (fin t n d) (inf true) h k = k
Le-trans (fin s m e) (fin t n d) (inf false) h k = tt
Le-trans (fin s m e) (fin t n d) (fin u p g) h k =
    cross_trans s (m * up e) (down e) t (n * up d) (down d) u (p * up g) (down g) (down_pos d) h k

either : (a b : ℕ) → (a ≤ b) ⊎ (b ≤ a)
either a b = go (nat_le a b) (leb→le a b) (nleb→lt a b)
  where
    go : (x : Bool) → (T x → a ≤ b) → (T (not x) → b < a) → (a ≤ b) ⊎ (b ≤ a)
    go true p q = inl (p tt)
    go false p q = inr (let k : b < a = q tt in omega arith)

Le-total : (x y : Float) → IsNum x → IsNum y → Le x y ⊎ Le y x
Le-total nan y p q = absurd p
Le-total (inf true) y p q = inl (bottom y q)
Le-total (inf false) y p q = inr (top y q)
Le-total (fin s m e) nan p q = absurd q
Le-total (fin s m e) (inf true) p q = inr tt
Le-total (fin s m e) (inf false) p q = inl tt
Le-total (fin s m e) (fin t n d) p q = either (pp s (m * up e) * down d + nn t (n * up d) * down e) (pp t (n * up d) * down e + nn s (m * up e) * down d)

-- zeros are level, and infinities ordered by their signs as numbers other than zero are
pub zeros : (s : Bool) (e : ℤ) (t : Bool) (d : ℤ) → Le (fin s 0 e) (fin t 0 d)
zeros true e true d = omega arith
zeros true e false d = omega arith
zeros false e true d = omega arith
zeros false e false d = omega arith

pub infs : (s t : Bool) (a c b d : ℕ) → 0 < a → 0 < d → Cross s a c t b d → Le (inf s) (inf t)
infs true t a c b d A D h = tt
infs false false a c b d A D h = tt
infs false true a c b d A D h = let k : 0 < a * d = mul-pos A D in omega arith

-- ---- the same for the test
pub le_refl : (x : Float) → IsNum x → T (le x x)
le_refl x n = Le→le x x (Le-refl x n)

pub le_trans : (x y z : Float) → T (le x y) → T (le y z) → T (le x z)
le_trans x y z h k = Le→le x z (Le-trans x y z (le→Le x y h) (le→Le y z k))

pub le_total : (x y : Float) → IsNum x → IsNum y → T (le x y) ⊎ T (le y x)
le_total x y p q = elim (Le-total x y p q) [ inl h ↦ inl (Le→le x y h) | inr h ↦ inr (Le→le y x h) ]

pub le_num_left : (x y : Float) → T (le x y) → IsNum x
le_num_left x y h = Le-left x y (le→Le x y h)

pub le_num_right : (x y : Float) → T (le x y) → IsNum y
le_num_right x y h = Le-right x y (le→Le x y h)

pub le_bottom : (y : Float) → IsNum y → T (le (inf true) y)
le_bottom y n = Le→le (inf true) y (bottom y n)

pub le_top : (x : Float) → IsNum x → T (le x (inf false))
le_top x n = Le→le x (inf false) (top x n)

-- ---- a nan compares with nothing
pub nan_le : (y : Float) → le nan y ≡ false
unfolding le
nan_le y = refl

pub le_nan : (x : Float) → le x nan ≡ false
unfolding le
le_nan nan = refl
le_nan (inf s) = refl
le_nan (fin s m e) = refl

pub nan_lt : (y : Float) → lt nan y ≡ false
unfolding lt
nan_lt y = refl

pub lt_nan : (x : Float) → lt x nan ≡ false
unfolding lt
lt_nan nan = refl
lt_nan (inf s) = refl
lt_nan (fin s m e) = refl

pub nan_eq : (y : Float) → eq nan y ≡ false
unfolding eq
nan_eq y = refl

pub eq_nan : (x : Float) → eq x nan ≡ false
unfolding eq
eq_nan nan = refl
eq_nan (inf s) = refl
eq_nan (fin s m e) = refl

-- ---- the strict part
pub le_of_lt : (x y : Float) → T (lt x y) → T (le x y)
unfolding le
le_of_lt x y h = or_l (lt x y) (eq x y) h

pub le_of_eq : (x y : Float) → T (eq x y) → T (le x y)
unfolding le
le_of_eq x y h = or_r (lt x y) (eq x y) h

pub lt_or_eq : (x y : Float) → T (le x y) → T (lt x y) ⊎ T (eq x y)
unfolding le
lt_or_eq x y h = or_split (lt x y) (eq x y) h

pub lt→not_le : (x y : Float) → T (lt x y) → T (le y x) → ⊥
unfolding le lt
lt→not_le nan y h k = h
lt→not_le (inf true) nan h k = h
lt→not_le (inf true) (inf true) h k = h
lt→not_le (inf true) (inf false) h k = k
lt→not_le (inf true) (fin t n d) h k = k
lt→not_le (inf false) nan h k = h
lt→not_le (inf false) (inf true) h k = h
lt→not_le (inf false) (inf false) h k = h
lt→not_le (inf false) (fin t n d) h k = h
lt→not_le (fin s m e) nan h k = h
lt→not_le (fin s m e) (inf true) h k = h
lt→not_le (fin s m e) (inf false) h k = k
lt→not_le (fin s m e) (fin t n d) h k =
    let a = m * up e * down d in
    let b = n * up d * down e in
    opposed (pp s a) (nn s a) (pp t b) (nn t b) (below→Less s a t b h) (le→Leq t b s a k)
  where
    opposed : (p q r v : ℕ) → p + v < r + q → r + q ≤ p + v → ⊥
    opposed p q r v x y = omega arith

pub not_le→lt : (x y : Float) → IsNum x → IsNum y → (T (le y x) → ⊥) → T (lt x y)
unfolding le lt
not_le→lt nan y p q h = p
not_le→lt (inf true) nan p q h = q
not_le→lt (inf true) (inf true) p q h = h tt
not_le→lt (inf true) (inf false) p q h = tt
not_le→lt (inf true) (fin t n d) p q h = tt
not_le→lt (inf false) nan p q h = q
not_le→lt (inf false) (inf true) p q h = h tt
not_le→lt (inf false) (inf false) p q h = h tt
not_le→lt (inf false) (fin t n d) p q h = h tt
not_le→lt (fin s m e) nan p q h = q
not_le→lt (fin s m e) (inf true) p q h = h tt
not_le→lt (fin s m e) (inf false) p q h = tt
not_le→lt (fin s m e) (fin t n d) p q h =
    let a = m * up e * down d in
    let b = n * up d * down e in
    Less→below s a t b (pick (pp s a) (nn s a) (pp t b) (nn t b) (λ (k : Leq t b s a). h (Leq→le t b s a k)))
  where
    pick : (p q r v : ℕ) → (r + q ≤ p + v → ⊥) → p + v < r + q
    pick p q r v f = go (nat_le (r + q) (p + v)) (leb→le (r + q) (p + v)) (nleb→lt (r + q) (p + v))
      where
        go : (x : Bool) → (T x → r + q ≤ p + v) → (T (not x) → p + v < r + q) → p + v < r + q
        go true a b = absurd (f (a tt))
        go false a b = b tt

-- as one fact: for two numbers, x < y exactly where y ≤ x fails
pub lt_iff_not_le : (x y : Float) → IsNum x → IsNum y → T (lt x y) ↔ T (not (le y x))
lt_iff_not_le x y p q = (λ (h : T (lt x y)). not_T (le y x) (lt→not_le x y h), λ (h : T (not (le y x))). not_le→lt x y p q (T_not (le y x) h))

pub lt_num_left : (x y : Float) → T (lt x y) → IsNum x
lt_num_left x y h = le_num_left x y (le_of_lt x y h)

pub lt_num_right : (x y : Float) → T (lt x y) → IsNum y
lt_num_right x y h = le_num_right x y (le_of_lt x y h)

pub lt_irrefl : (x : Float) → T (lt x x) → ⊥
lt_irrefl x h = lt→not_le x x h (le_of_lt x x h)

pub lt_of_lt_of_le : (x y z : Float) → T (lt x y) → T (le y z) → T (lt x z)
lt_of_lt_of_le x y z h k =
    not_le→lt x z (lt_num_left x y h) (le_num_right y z k) (λ (g : T (le z x)). lt→not_le x y h (le_trans y z x k g))

pub lt_of_le_of_lt : (x y z : Float) → T (le x y) → T (lt y z) → T (lt x z)
lt_of_le_of_lt x y z h k =
    not_le→lt x z (le_num_left x y h) (lt_num_right y z k) (λ (g : T (le z x)). lt→not_le y z k (le_trans z x y g h))

pub lt_trans : (x y z : Float) → T (lt x y) → T (lt y z) → T (lt x z)
lt_trans x y z h k = lt_of_lt_of_le x y z h (le_of_lt y z k)

pub le_or_lt : (x y : Float) → IsNum x → IsNum y → T (le x y) ⊎ T (lt y x)
le_or_lt x y p q = go (le x y) (λ (h : T (le x y)). h) (λ (h : T (not (le x y))). not_le→lt y x q p (T_not (le x y) h))
  where
    go : (b : Bool) → (T b → T (le x y)) → (T (not b) → T (lt y x)) → T (le x y) ⊎ T (lt y x)
    go true f g = inl (f tt)
    go false f g = inr (g tt)

-- ---- the equivalence
pub le_antisym : (x y : Float) → T (le x y) → T (le y x) → T (eq x y)
le_antisym x y h k = elim (lt_or_eq x y h) [ inl l ↦ absurd (lt→not_le x y l k) | inr e ↦ e ]

pub eq_sym : (x y : Float) → T (eq x y) → T (eq y x)
unfolding eq
eq_sym nan y h = absurd h
eq_sym (inf s) nan h = absurd h
eq_sym (inf true) (inf true) h = tt
eq_sym (inf true) (inf false) h = h
eq_sym (inf false) (inf true) h = h
eq_sym (inf false) (inf false) h = tt
eq_sym (inf s) (fin t n d) h = absurd h
eq_sym (fin s m e) nan h = absurd h
eq_sym (fin s m e) (inf t) h = absurd h
eq_sym (fin s m e) (fin t n d) h =
    let a = m * up e * down d in
    let b = n * up d * down e in
    let k : pp s a + nn t b ≡ pp t b + nn s a = level→eq s a t b h in
    eq→level t b s a (sym k)

pub ge_of_eq : (x y : Float) → T (eq x y) → T (le y x)
ge_of_eq x y h = le_of_eq y x (eq_sym x y h)

pub eq_trans : (x y z : Float) → T (eq x y) → T (eq y z) → T (eq x z)
eq_trans x y z h k = le_antisym x z (le_trans x y z (le_of_eq x y h) (le_of_eq y z k)) (le_trans z y x (ge_of_eq y z k) (ge_of_eq x y h))

pub eq_refl : (x : Float) → IsNum x → T (eq x x)
eq_refl x n = le_antisym x x (le_refl x n) (le_refl x n)

-- ---- a program's tests, as a branch leaves them: `x != x`, `x <= y`, `x < y`
pub T_of : {b : Bool} → b ≡ true → T b
T_of e = subst (λ (z : Bool). T z) (sym e) tt

pub not-T-of : {b : Bool} → b ≡ false → T b → ⊥
not-T-of e h = subst (λ (z : Bool). T z) e h

pub num_of_same : (x : Float) → ne x x ≡ false → IsNum x
unfolding ne
num_of_same nan e = absurd (not-T-of e tt)
num_of_same (inf s) e = tt
num_of_same (fin s m e) h = tt

pub nan_of_differs : (x : Float) → ne x x ≡ true → x ≡ nan
nan_of_differs x e = differs_from_itself x (T_of e)

pub lt_of_not_le : (x y : Float) → IsNum x → IsNum y → le x y ≡ false → T (lt y x)
lt_of_not_le x y p q e = not_le→lt y x q p (not-T-of e)

pub le_of_not_lt : (x y : Float) → IsNum x → IsNum y → lt x y ≡ false → T (le y x)
le_of_not_lt x y p q e = elim (le_or_lt y x q p) [ inl h ↦ h | inr h ↦ absurd (not-T-of e h) ]
