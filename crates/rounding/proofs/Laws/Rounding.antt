-- `round` keeps the order of fractions with signs, in either format, overflow and zeros of both signs included. Assumes nothing.
use Rattle.std.specs.Prelude.{◌≡◌, ℕ, zero, suc, ◌+◌, ◌*◌, ◌^◌, ◌<◌, ◌≤◌, Bool, true, false, cond, not, T, nat_lt, refl, Float}
use Rattle.std.proofs.Common.{sym, subst, zero-mul, le_of_mul-le-mul_right, arith, true≢false, pow_pos}
use Rattle.std.specs.Float.{nan, inf, fin, Format}
use Rattle.std.specs.Float.Ieee.{prec, emax, low, up, down, odd, units, round, le, neg}
use Rattle.std.specs.Float.Ieee.Exact.{HasValue, round_exact}
use Rattle.std.specs.Float.Ieee.Order.{round_mono}
use Rattle.rounding.proofs.Laws.Signed.{Cross, cross_trans}
use Rattle.rounding.proofs.Laws.Order.{Le, le→Le, Le→le, bottom}
use Rattle.rounding.specs.Numbers.{IsNum}

-- ---- negation
abbrev pub minus_of : Float → Float
minus_of nan = nan
minus_of (inf s) = inf (not s)
minus_of (fin s m e) = fin (not s) m e

pub neg_is : (x : Float) → neg x ≡ minus_of x
unfolding neg
neg_is nan = refl
neg_is (inf s) = refl
neg_is (fin s m e) = refl

flip : (s : Bool) (a c : ℕ) (t : Bool) (b d : ℕ) → Cross s a c t b d → Cross (not t) b d (not s) a c
flip false a c false b d h = omega arith
flip false a c true b d h = omega arith
flip true a c false b d h = omega arith
flip true a c true b d h = omega arith

Le-minus : (x y : Float) → Le x y → Le (minus_of y) (minus_of x)
Le-minus nan y h = absurd h
Le-minus (inf true) nan h = absurd h
Le-minus (inf true) (inf true) h = tt
Le-minus (inf true) (inf false) h = tt
Le-minus (inf true) (fin t n d) h = tt
Le-minus (inf false) nan h = absurd h
Le-minus (inf false) (inf true) h = absurd h
Le-minus (inf false) (inf false) h = tt
Le-minus (inf false) (fin t n d) h = absurd h
Le-minus (fin s m e) nan h = absurd h
Le-minus (fin s m e) (inf true) h = absurd h
Le-minus (fin s m e) (inf false) h = tt
Le-minus (fin s m e) (fin t n d) h = flip s (m * up e) (down e) t (n * up d) (down d) h

pub neg_anti : (x y : Float) → T (le x y) → T (le (neg y) (neg x))
neg_anti x y h = rw (neg_is x, neg_is y) (Le→le (minus_of y) (minus_of x) (Le-minus x y (le→Le x y h)))

-- ---- `round`'s result has the sign that it is given
abbrev pub Signed : Bool → Float → Type 0
Signed s nan = ⊥
Signed s (inf t) = t ≡ s
Signed s (fin t m e) = t ≡ s

pub signed_num : (s : Bool) (x : Float) → Signed s x → IsNum x
signed_num s nan h = h
signed_num s (inf t) h = tt
signed_num s (fin t m e) h = tt

pub odd_signed : (d : ℕ) (s : Bool) (q k l : ℕ) → Signed s (odd d s q k l)
unfolding odd
odd_signed d s zero k l = refl
odd_signed d s (suc q) k l = refl

units_signed : (f : Format) (s : Bool) (q k : ℕ) → Signed s (units f s q k)
unfolding units
units_signed f s q k = go (nat_lt (q * 2 ^ k) (2 ^ (low f + suc (emax f))))
  where
    go : (b : Bool) → Signed s (cond b (odd (suc (prec f)) s q k (low f)) (inf s))
    go true = odd_signed (suc (prec f)) s q k (low f)
    go false = refl

pub round_signed : (f : Format) (s : Bool) (a c : ℕ) → Signed s (round f s a c)
unfolding round
round_signed f s a c = units_signed f s _ _

pub round_num : (f : Format) (s : Bool) (a c : ℕ) → IsNum (round f s a c)
round_num f s a c = signed_num s (round f s a c) (round_signed f s a c)

-- ---- and is otherwise the same for both signs
odd_minus : (d : ℕ) (q k l : ℕ) → odd d true q k l ≡ minus_of (odd d false q k l)
unfolding odd
odd_minus d zero k l = refl
odd_minus d (suc q) k l = refl

units_minus : (f : Format) (q k : ℕ) → units f true q k ≡ minus_of (units f false q k)
unfolding units
units_minus f q k = go (nat_lt (q * 2 ^ k) (2 ^ (low f + suc (emax f))))
  where
    go : (b : Bool) → cond b (odd (suc (prec f)) true q k (low f)) (inf true) ≡ minus_of (cond b (odd (suc (prec f)) false q k (low f)) (inf false))
    go true = odd_minus (suc (prec f)) q k (low f)
    go false = refl

pub round_minus : (f : Format) (a c : ℕ) → round f true a c ≡ minus_of (round f false a c)
unfolding round
round_minus f a c = units_minus f _ _

-- ---- a negative value is at most one that is not
Le-signs : (x y : Float) → Signed true x → Signed false y → Le x y
Le-signs nan y h k = h
Le-signs (inf true) y h k = bottom y (signed_num false y k)
Le-signs (inf false) y h k = absurd (true≢false (sym h))
Le-signs (fin false m e) y h k = absurd (true≢false (sym h))
Le-signs (fin true m e) nan h k = k
Le-signs (fin true m e) (inf true) h k = absurd (true≢false k)
Le-signs (fin true m e) (inf false) h k = tt
Le-signs (fin true m e) (fin true n d) h k = absurd (true≢false k)
Le-signs (fin true m e) (fin false n d) h k = omega arith

-- ---- two values by the fractions that they equal
pub same_le : (s : Bool) (a c b d : ℕ) → a * d ≡ b * c → Cross s a c s b d
same_le false a c b d h = omega arith
same_le true a c b d h = omega arith

pub le_of_values : (x y : Float) (s : Bool) (a c : ℕ) (t : Bool) (b d : ℕ) → 0 < c → 0 < d → HasValue x s a c → HasValue y t b d → Cross s a c t b d → T (le x y)
le_of_values nan y s a c t b d C D h k l = absurd h
le_of_values (inf u) y s a c t b d C D h k l = absurd h
le_of_values (fin u m e) nan s a c t b d C D h k l = absurd k
le_of_values (fin u m e) (inf v) s a c t b d C D h k l = absurd k
le_of_values (fin u m e) (fin v n g) s a c t b d C D h k l =
    Le→le (fin u m e) (fin v n g)
    (subst (λ (z : Bool). Cross z (m * up e) (down e) v (n * up g) (down g)) (sym h.0)
    (subst (λ (z : Bool). Cross s (m * up e) (down e) z (n * up g) (down g)) (sym k.0)
    (cross_trans s (m * up e) (down e) s a c t (n * up g) (down g) C (same_le s (m * up e) (down e) a c h.1)
    (cross_trans s a c t b d t (n * up g) (down g) D l (same_le t b d (n * up g) (down g) (sym k.1))))))

-- ---- `round`
pub zero_of : (a d b c : ℕ) → 0 < d → a * d + b * c ≤ 0 → a ≡ 0
zero_of a d b c D h = let k : a ≤ 0 = le_of_mul-le-mul_right (let g : a * d ≤ 0 * d = omega arith in g) D in omega arith

pub round_zero : (f : Format) (s : Bool) (c : ℕ) → 0 < c → HasValue (round f s 0 c) s 0 c
round_zero f s c C = round_exact f s 0 c 0 0 C (pow_pos (prec f)) (subst (λ (z : ℕ). z < 2 ^ (low f + suc (emax f))) (sym (zero-mul (2 ^ 0))) (pow_pos (low f + suc (emax f)))) (omega arith)

pub round_order : (f : Format) (s : Bool) (a c : ℕ) (t : Bool) (b d : ℕ) → 0 < c → 0 < d → Cross s a c t b d → T (le (round f s a c) (round f t b d))
round_order f false a c false b d C D h = round_mono f a c b d C D (omega arith)
round_order f false a c true b d C D h =
    let A : a ≡ 0 = zero_of a d b c D (omega arith) in
    let B : b ≡ 0 = zero_of b c a d C (omega arith) in
    rw (A, B) (le_of_values (round f false 0 c) (round f true 0 d) false 0 c true 0 d C D (round_zero f false c C) (round_zero f true d D) (omega arith))
round_order f true a c false b d C D h = Le→le (round f true a c) (round f false b d) (Le-signs (round f true a c) (round f false b d) (round_signed f true a c) (round_signed f false b d))
round_order f true a c true b d C D h =
    rw (round_minus f a c, round_minus f b d)
    (Le→le (minus_of (round f false a c)) (minus_of (round f false b d))
    (Le-minus (round f false b d) (round f false a c) (le→Le (round f false b d) (round f false a c) (round_mono f b d a c D C (omega arith)))))
