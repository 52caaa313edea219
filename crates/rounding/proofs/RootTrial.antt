-- The root of a normal number from a trial of as many digits as the format has, with the format as a parameter: the trial is right where the digits and its square are at
-- most the trial apart (`right`). Next to 1 the root lies half as far from 1 (`near`): that trial needs no test. Assumes nothing.
use Rattle.std.proofs.Common.{◌≡◌, ℕ, zero, suc, ◌+◌, ◌-◌, ◌*◌, ◌/◌, ◌%◌, ◌^◌, ◌<◌, ◌≤◌, Bool, true, false, not, T, ltb, sym, refl, ap, ◌∙◌, subst, mod-lt, div-lt_iff_lt-mul, mul-le-mul, le-div_iff_mul-le, arith, ltb→lt, nltb→le, pow_pos, pow-add}
use lib.Arith.{digits_div, digits_mod}
use lib.Ieee.{Format, binary32, binary64, prec, emax, low, hid, ones, of_bits}
use lib.Ieee.Fits.{two}
use Rattle.rounding.specs.Root.{isqrt, root_of, sqrt_of}
use Rattle.rounding.specs.Steps.{Root, Rooted}
use Rattle.rounding.proofs.Laws.Basics.{emax_ge}
use Rattle.rounding.proofs.Laws.Isqrt.{sq_lt, isqrt_root}
use Rattle.rounding.proofs.Pattern.{twice}
use Rattle.rounding.proofs.RootLaw.{law}
use Rattle.rounding.proofs.Fields.{sqrt_mid}

-- ---- the trial's numbers fit at single width

pub square_fits : (r : ℕ) → r < 2 ^ 26 → r * r ≤ 2 ^ 52
square_fits r h = let a : r ≤ 2 ^ 26 = omega arith in mul-le-mul a a

-- ---- the trial's test

-- n and the square of r are at most r apart
pub record Passes (n r : ℕ) : Type 0 where
  pub under : r * r < n + r
  pub over : n ≤ r * r + r

-- R is the whole root of four times n
rounded : (n r R : ℕ) → Passes n r → Root R (4 * n) → (R + 1) / 2 ≡ r
rounded n zero R p k = absurd (omega (arith, p.under))
rounded n (suc q) R p k =
    let a : 2 * q + 1 < suc R = sq_lt (2 * q + 1) (suc R) (omega (arith, k.over, p.under)) in
    let b : R < 2 * suc q + 1 = sq_lt R (2 * suc q + 1) (omega (arith, k.under, p.over)) in
    omega arith

-- ---- the digits of a pattern, moved up to twice as many, or under an odd field to one less

abbrev pub field : Format → ℕ → ℕ
field f b = b / hid f

abbrev pub digits : Format → ℕ → ℕ
digits f b = (hid f + b % hid f) * 2 ^ (prec f - field f b % 2)

-- the same by a factor of 2 or of 1
abbrev factored : Format → ℕ → ℕ → ℕ
factored f m y = (hid f + m) * (2 - y)

record Sized (f : Format) (m y : ℕ) : Type 0 where
  low : 2 ^ prec f ≤ 2 * factored f m y
  high : 2 * factored f m y + 4 ≤ 4 * 2 ^ prec f
  same : (hid f + m) * 2 ^ (prec f - y) ≡ factored f m y * hid f

double : (a b : ℕ) → a * (2 * b) ≡ a * 2 * b
double a b = omega arith

sized : (f : Format) (m y : ℕ) → m < hid f → y < 2 → Sized f m y
sized f m zero h k =
    let w = twice (prec f) (two f) in
    let z : prec f - 0 ≡ prec f = omega arith in
    let v = ap (λ (z : ℕ). (hid f + m) * 2 ^ z) z ∙ ap (λ (z : ℕ). (hid f + m) * z) w in
    record { low = omega arith; high = omega arith; same = v ∙ double (hid f + m) (hid f) }
sized f m (suc zero) h k =
    let w = twice (prec f) (two f) in
    record { low = omega arith; high = omega arith; same = omega arith }
sized f m (suc (suc y)) h k = absurd (omega arith)

-- ---- the powers of two on both sides

powers : (k l h c : ℕ) → k + (2 + l) ≡ c + (h + h) → 2 ^ k * (4 * 2 ^ l) ≡ 2 ^ c * (2 ^ h * 2 ^ h)
powers k l h c i =
    sym (pow-add 2 k (2 + l) ∙ ap (λ (w : ℕ). 2 ^ k * w) (pow-add 2 2 l))
    ∙ ap (λ (w : ℕ). 2 ^ w) i
    ∙ pow-add 2 c (h + h)
    ∙ ap (λ (w : ℕ). 2 ^ c * w) (pow-add 2 h h)

emax_odd : (f : Format) → emax f % 2 ≡ 1
emax_odd binary32 = refl
emax_odd binary64 = refl

-- the field of the root's exponent, less 1
abbrev pub halved : Format → ℕ → ℕ
halved f x = (x + emax f - 2) / 2

scale : (f : Format) (m x : ℕ) → 1 ≤ x → m * 2 ^ (x - 1) * (4 * 2 ^ low f) ≡ 2 * (m * (2 - x % 2)) * 2 ^ prec f * (2 ^ halved f x * 2 ^ halved f x)
scale f m x p = go (x % 2) refl
  where
    go : (y : ℕ) → x % 2 ≡ y → m * 2 ^ (x - 1) * (4 * 2 ^ low f) ≡ 2 * (m * (2 - y)) * 2 ^ prec f * (2 ^ halved f x * 2 ^ halved f x)
    go zero e =
        let h = halved f x in
        let o = emax_odd f in
        let g = emax_ge f in
        let i : x - 1 + (2 + low f) ≡ prec f + 2 + (h + h) = omega (arith, two f) in
        let t = ap (λ (w : ℕ). m * w) (powers (x - 1) (low f) h (prec f + 2) i) in
        let u = ap (λ (w : ℕ). m * (w * (2 ^ h * 2 ^ h))) (pow-add 2 (prec f) 2) in
        omega arith
    go (suc zero) e =
        let h = halved f x in
        let o = emax_odd f in
        let g = emax_ge f in
        let i : x - 1 + (2 + low f) ≡ prec f + 1 + (h + h) = omega (arith, two f) in
        let t = ap (λ (w : ℕ). m * w) (powers (x - 1) (low f) h (prec f + 1) i) in
        let u = ap (λ (w : ℕ). m * (w * (2 ^ h * 2 ^ h))) (pow-add 2 (prec f) 1) in
        omega arith
    go (suc (suc y)) e = absurd (omega arith)

-- ---- a trial r that passes is the root's digits

pub right : (f : Format) (b r : ℕ) → hid f ≤ b → b < ones f * hid f → Passes (digits f b) r
    → Rooted f (sqrt_of f (of_bits f b)) (halved f (field f b) * hid f + r)
right f b r lo hi p =
    let x = field f b in
    let m = b % hid f in
    let H = pow_pos (prec f - 1) in
    let X : 1 ≤ x = (le-div_iff_mul-le H).1 (omega arith) in
    let Y : x < ones f = (div-lt_iff_lt-mul H).1 hi in
    let s = sized f m (x % 2) (mod-lt b H) (omega arith) in
    let w = factored f m (x % 2) in
    let R = isqrt (2 * w * 2 ^ prec f) in
    let root : Root R (2 * w * 2 ^ prec f) = isqrt_root (2 * w * 2 ^ prec f) in
    let four : 2 * w * 2 ^ prec f ≡ 4 * digits f b = ap (λ (z : ℕ). 2 * w * z) (twice (prec f) (two f)) ∙ times w (hid f) ∙ ap (λ (z : ℕ). 4 * z) (sym s.same) in
    let e : (R + 1) / 2 ≡ r = rounded (digits f b) r R p (subst (λ (n : ℕ). Root R n) four root) in
    let g = emax_ge f in
    let k : Rooted f (root_of f ((hid f + m) * 2 ^ (x - 1)) (2 ^ low f)) (halved f x * hid f + (R + 1) / 2) =
    law f ((hid f + m) * 2 ^ (x - 1)) w (halved f x) R (scale f (hid f + m) x X) s.low s.high root (omega arith) in
    rw (sqrt_mid f b hi X) (subst (λ (y : ℕ). Rooted f (root_of f ((hid f + m) * 2 ^ (x - 1)) (2 ^ low f)) (halved f x * hid f + y)) e k)
  where
    times : (w h : ℕ) → 2 * w * (2 * h) ≡ 4 * (w * h)
    times w h = omega arith

-- ---- next to 1, whose pattern is emax * hid

abbrev pub one : Format → ℕ
one f = emax f * hid f

-- from 1 on: 1 and k units, whose root is 1 and c units
from_one : (H d k c : ℕ) → (d + 2) * (d + 2) ≤ 4 * H → k < d → 2 * c ≤ k → k ≤ 2 * c + 1 → Passes ((H + k) * H) (H + c)
from_one H d k c small h lo hi =
    let a : 2 * c ≤ d = omega arith in
    let p : 2 * c * (2 * c) ≤ d * d = mul-le-mul a a in
    let q = mul-le-mul hi (le H) in
    let s = mul-le-mul lo (le H) in
    record { under = omega arith; over = omega arith }
  where
    le : (x : ℕ) → x ≤ x
    le x = omega arith

-- below 1: j half units less than 1, whose root is c of them less
under_one : (H d m j r c : ℕ) → (d + 2) * (d + 2) ≤ 4 * H → j ≤ d → m + j ≡ H → r + c ≡ 2 * H → 1 ≤ c → j ≤ 2 * c → 2 * c ≤ j + 1 → Passes ((H + m) * (2 * H)) r
under_one H d m j r c small h e f o lo hi =
    let a : 2 * c ≤ d + 1 = omega arith in
    let p : 2 * c * (2 * c) ≤ (d + 1) * (d + 1) = mul-le-mul a a in
    let P : 4 * (c * c) + 2 * d + 3 ≤ 4 * H = room c d H p small in
    let q : 1 * c ≤ c * c = mul-le-mul o (le c) in
    let s : r * (r + c) ≡ r * (2 * H) = ap (λ (x : ℕ). r * x) f in
    let t : c * (r + c) ≡ c * (2 * H) = ap (λ (x : ℕ). c * x) f in
    let u : (m + j) * H ≡ H * H = ap (λ (x : ℕ). x * H) e in
    let g : (r + c) * H ≡ 2 * H * H = ap (λ (x : ℕ). x * H) f in
    let v : j * H ≤ 2 * c * H = mul-le-mul lo (le H) in
    let w : 2 * c * H ≤ (j + 1) * H = mul-le-mul hi (le H) in
    let z = square H m j r c s t u g in
    record {
      under = less (r * r) ((H + m) * (2 * H)) (c * H) (j * H) (c * c) r c d H z (omega arith) P a f;
      over = most (r * r) ((H + m) * (2 * H)) (c * H) (j * H) (c * c) r c H z (omega arith) (omega arith) f;
    }
  where
    le : (x : ℕ) → x ≤ x
    le x = omega arith

    less : (s n x y q r c d H : ℕ) → s + 4 * x ≡ n + 2 * y + q → y ≤ 2 * x → 4 * q + 2 * d + 3 ≤ 4 * H → 2 * c ≤ d + 1 → r + c ≡ 2 * H → s < n + r
    less s n x y q r c d H e l p a f = omega arith

    most : (s n x y q r c H : ℕ) → s + 4 * x ≡ n + 2 * y + q → 2 * x ≤ y + H → c ≤ q → r + c ≡ 2 * H → n ≤ s + r
    most s n x y q r c H e l p f = omega arith

    room : (c d H : ℕ) → 2 * c * (2 * c) ≤ (d + 1) * (d + 1) → (d + 2) * (d + 2) ≤ 4 * H → 4 * (c * c) + 2 * d + 3 ≤ 4 * H
    room c d H p s = omega arith

    -- the square is 4 * H * H - 4 * c * H + c * c, and the number 4 * H * H - 2 * j * H
    square : (H m j r c : ℕ) → r * (r + c) ≡ r * (2 * H) → c * (r + c) ≡ c * (2 * H) → (m + j) * H ≡ H * H → (r + c) * H ≡ 2 * H * H
        → r * r + 4 * (c * H) ≡ (H + m) * (2 * H) + 2 * (j * H) + c * c
    square H m j r c s t u g = omega arith

within : (d k H : ℕ) → (d + 2) * (d + 2) ≤ 4 * H → k < d → k < H
within d k H h l = omega arith

-- 1 is normal
from_hid : (f : Format) (b : ℕ) → one f ≤ b → hid f ≤ b
from_hid f b l = let g = emax_ge f in let a : 3 * hid f ≤ emax f * hid f = mul-le-mul g (le (hid f)) in omega arith
  where
    le : (x : ℕ) → x ≤ x
    le x = omega arith

below_ones : (f : Format) (b k : ℕ) → k < hid f → b ≡ one f + k → b < ones f * hid f
below_ones f b k h e = let g = emax_ge f in let a : 3 * hid f ≤ emax f * hid f = mul-le-mul g (le (hid f)) in omega arith
  where
    le : (x : ℕ) → x ≤ x
    le x = omega arith

odd_digits : (f : Format) (b k : ℕ) → field f b ≡ emax f → b % hid f ≡ k → digits f b ≡ (hid f + k) * hid f
odd_digits f b k x m =
    ap (λ (z : ℕ). (hid f + z) * 2 ^ (prec f - field f b % 2)) m
    ∙ ap (λ (z : ℕ). (hid f + k) * 2 ^ (prec f - z)) (ap (λ (z : ℕ). z % 2) x ∙ emax_odd f)

at_one : (f : Format) (c : ℕ) → halved f (emax f) * hid f + (hid f + c) ≡ one f + c
at_one f c =
    let g = emax_ge f in
    let z = emax f - 1 in
    let i : halved f (emax f) ≡ z = omega arith in
    let j : z + 1 ≡ emax f = omega arith in
    let k = ap (λ (w : ℕ). w * hid f) i in
    let l = ap (λ (w : ℕ). w * hid f) j in
    sums (halved f (emax f) * hid f) z (hid f) (one f) c k l
  where
    sums : (a z h o c : ℕ) → a ≡ z * h → (z + 1) * h ≡ o → a + (h + c) ≡ o + c
    sums a z h o c k l = omega arith

reach_of : (d j H : ℕ) → (d + 2) * (d + 2) ≤ 4 * H → j ≤ d → j ≤ H
reach_of d j H h l = omega arith

before_one : (b z H o j m : ℕ) → (z + 1) * H ≡ o → b + j ≡ o → m + j ≡ H → b ≡ z * H + m
before_one b z H o j m e i k = omega arith

under_hid : (f : Format) (b j : ℕ) → j ≤ hid f → b + j ≡ one f → hid f ≤ b
under_hid f b j h e = let g = emax_ge f in let a : 3 * hid f ≤ emax f * hid f = mul-le-mul g (le (hid f)) in omega arith
  where
    le : (x : ℕ) → x ≤ x
    le x = omega arith

even_digits : (f : Format) (b m : ℕ) → field f b % 2 ≡ 0 → b % hid f ≡ m → digits f b ≡ (hid f + m) * (2 * hid f)
even_digits f b m x q =
    let z : prec f - 0 ≡ prec f = omega arith in
    ap (λ (w : ℕ). (hid f + w) * 2 ^ (prec f - field f b % 2)) q
    ∙ ap (λ (w : ℕ). (hid f + m) * 2 ^ (prec f - w)) x
    ∙ ap (λ (w : ℕ). (hid f + m) * 2 ^ w) z
    ∙ ap (λ (w : ℕ). (hid f + m) * w) (twice (prec f) (two f))

under_at : (f : Format) (c : ℕ) → c ≤ hid f → halved f (emax f - 1) * hid f + (2 * hid f - c) ≡ one f - c
under_at f c h =
    let g = emax_ge f in
    let o = emax_odd f in
    let z = emax f - 2 in
    let i : halved f (emax f - 1) ≡ z = omega arith in
    let j : z + 2 ≡ emax f = omega arith in
    let k = ap (λ (w : ℕ). w * hid f) i in
    let l = ap (λ (w : ℕ). w * hid f) j in
    sums (halved f (emax f - 1) * hid f) z (hid f) (one f) c k l h
  where
    sums : (a z h o c : ℕ) → a ≡ z * h → (z + 2) * h ≡ o → c ≤ h → a + (2 * h - c) ≡ o - c
    sums a z h o c k l n = omega arith

-- The patterns from d below that of 1 on, up to d above it. At single width `root_near_one` takes a d of 4,096.
pub near : (f : Format) (b d : ℕ) → (d + 2) * (d + 2) ≤ 4 * hid f → one f ≤ b + d → b < one f + d → Rooted f (sqrt_of f (of_bits f b)) ((b + one f) / 2)
near f b d small lo hi = go (ltb b (one f)) (ltb→lt b (one f)) (nltb→le b (one f))
  where
    go : (t : Bool) → (T t → b < one f) → (T (not t) → one f ≤ b) → Rooted f (sqrt_of f (of_bits f b)) ((b + one f) / 2)
    go false y n =
        let k = b - one f in
        let c = k / 2 in
        let l = n tt in
        let K : k < hid f = within d k (hid f) small (omega arith) in
        let e : b ≡ one f + k = omega arith in
        let x : field f b ≡ emax f = ap (λ (z : ℕ). z / hid f) e ∙ digits_div (emax f) K in
        let m : b % hid f ≡ k = ap (λ (z : ℕ). z % hid f) e ∙ digits_mod (emax f) K in
        let i : digits f b ≡ (hid f + k) * hid f = odd_digits f b k x m in
        let p = from_one (hid f) d k c small (omega arith) (omega arith) (omega arith) in
        let r = right f b (hid f + c) (from_hid f b l) (below_ones f b k K e) (subst (λ (z : ℕ). Passes z (hid f + c)) (sym i) p) in
        subst (λ (z : ℕ). Rooted f (sqrt_of f (of_bits f b)) z) (ap (λ (z : ℕ). halved f z * hid f + (hid f + c)) x ∙ at_one f c ∙ (let q = e in omega arith)) r
    go true y n =
        let j = one f - b in
        let c = (j + 1) / 2 in
        let z = emax f - 1 in
        let g = emax_ge f in
        let o = emax_odd f in
        let l = y tt in
        let J : j ≤ hid f = reach_of d j (hid f) small (omega arith) in
        let m = hid f - j in
        let M : m < hid f = omega arith in
        let E : z + 1 ≡ emax f = omega arith in
        let e : b ≡ z * hid f + m = before_one b z (hid f) (one f) j m (ap (λ (w : ℕ). w * hid f) E) (omega arith) (omega arith) in
        let x : field f b ≡ z = ap (λ (w : ℕ). w / hid f) e ∙ digits_div z M in
        let q : b % hid f ≡ m = ap (λ (w : ℕ). w % hid f) e ∙ digits_mod z M in
        let i : digits f b ≡ (hid f + m) * (2 * hid f) = even_digits f b m (ap (λ (w : ℕ). w % 2) x ∙ omega arith) q in
        let p = under_one (hid f) d m j (2 * hid f - c) c small (omega arith) (omega arith) (omega arith) (omega arith) (omega arith) (omega arith) in
        let r = right f b (2 * hid f - c) (under_hid f b j J (omega arith)) (omega arith) (subst (λ (w : ℕ). Passes w (2 * hid f - c)) (sym i) p) in
        subst (λ (w : ℕ). Rooted f (sqrt_of f (of_bits f b)) w) (ap (λ (w : ℕ). halved f w * hid f + (2 * hid f - c)) x ∙ under_at f c (omega arith) ∙ omega arith) r
