-- The whole numbers of a format by their bits, with the format as a parameter. Assumes nothing.
use Rattle.std.proofs.Common.{◌≡◌, ℕ, zero, suc, ◌+◌, ◌-◌, ◌*◌, ◌/◌, ◌%◌, ◌^◌, ◌<◌, ◌≤◌, Bool, true, false, cond, not, T, ltb, leb, ◌⊎◌, sym, refl, ap, ◌∙◌, subst, ap₂, inl, inr, zero-le, le_trans, le_of_eq, le_refl, lt_of_lt_of_le, lt_of_le_of_lt, add-zero, le_of_lt, lt_irrefl, mul-le-mul_right, mod-lt, mod-eq_of_lt, zero-lt-suc, mul_assoc, mul_comm, div-lt_iff_lt-mul, eq-or-lt_of_le, mul-lt-mul_of_pos_right, mul-pos, one-mul, div-add-mod', le-div_iff_mul-le, zero-add, zero-mul, mul-one, mul_right_comm, sub-le, arith, lit≤, ltb→lt, leb→le, nltb→le, pow_pos, pow_mono, pow-add}
use native.Mathlib.Nat.{pow-succ', mul-add-mod_self_right}
use lib.Dec.{nleb→lt, not_T}
use lib.Arith.{lt→nleb}
use lib.Ieee.Bits.{is_false}
use lib.Pow.{pow-lt}
use lib.Ieee.{Float, nan, inf, fin, Format, up, down, prec, emax, low, round, to_bits, hid, top, ones}
use lib.Ieee.Fits.{two, reach, two-le_pos}
use lib.Ieee.Exact.{HasValue, round_exact}
use lib.Ieee.Positive.{first_pos}
use Rattle.rounding.specs.Steps.{Wholes, limit_of, size_of, addend_of}
use Rattle.rounding.specs.declared.whole.Way.{Way}
use Rattle.rounding.specs.declared.whole.Way.TheVariants.{TowardZero, HalfAway, AwayFromZero}
use Rattle.rounding.specs.Whole.{moves, one_if, whole_by}
use Rattle.rounding.proofs.Laws.Basics.{leb_same, div_at, emax_ge, ones_ge}
use Rattle.rounding.proofs.Laws.Whole.{whole_by_same, whole_by_is, size_one}
use Rattle.rounding.proofs.Pattern.{twice, bits_of}

-- ---- a whole number K that is q * 2 ^ h of the format's smallest values

rescale : (x : Float) (s : Bool) (K l n : ℕ) → K * l ≡ n → HasValue x s K 1 → HasValue x s n l
rescale nan s K l n e v = v
rescale (inf t) s K l n e v = v
rescale (fin t m k) s K l n e v = (v.0, ap (λ (x : ℕ). x * l) (sym (mul-one (m * up k)) ∙ v.1) ∙ mul_right_comm K (down k) l ∙ ap (λ (x : ℕ). x * down k) e)

round_whole : (f : Format) (s : Bool) (K q h : ℕ) → q ≤ 2 ^ prec f → q * 2 ^ h < 2 ^ (low f + suc (emax f)) → K * 2 ^ low f ≡ q * 2 ^ h → HasValue (round f s K 1) s (q * 2 ^ h) (2 ^ low f)
round_whole f s K q h a b e = rescale (round f s K 1) s K (2 ^ low f) (q * 2 ^ h) e (go (eq-or-lt_of_le a))
  where
    go : (q ≡ 2 ^ prec f) ⊎ (q < 2 ^ prec f) → HasValue (round f s K 1) s K 1
    go (inr l) = round_exact f s K 1 q h (zero-lt-suc 0) l b (e ∙ sym (mul-one (q * 2 ^ h)))
    go (inl i) =
        let x : q * 2 ^ h ≡ 1 * 2 ^ (prec f + h) = ap (λ (y : ℕ). y * 2 ^ h) i ∙ sym (pow-add 2 (prec f) h) ∙ sym (one-mul (2 ^ (prec f + h))) in
        round_exact f s K 1 1 (prec f + h) (zero-lt-suc 0) (pow-lt {i = 0} (two-le_pos (prec f) (two f)))
        (subst (λ (y : ℕ). y < 2 ^ (low f + suc (emax f))) x b) (e ∙ x ∙ sym (mul-one (1 * 2 ^ (prec f + h))))

-- its bits
pub whole_bits : (f : Format) (s : Bool) (K q h : ℕ) → (h ≡ 0) ⊎ (hid f ≤ q) → q ≤ 2 ^ prec f → q * 2 ^ h < 2 ^ (low f + suc (emax f)) →
    K * 2 ^ low f ≡ q * 2 ^ h → to_bits f (round f s K 1) ≡ cond s (top f) 0 + (h * hid f + q)
whole_bits f s K q h o a b e = bits_of f s (round f s K 1) q h (round_whole f s K q h a b e) o a

-- ---- adding the step

pub steps : (w : Way) (a d : ℕ) → 2 ≤ d → d % 2 ≡ 0 → (a + addend_of w d) / d ≡ a / d + one_if (moves w (a % d) d)
steps TowardZero a d D e = ap (λ (x : ℕ). x / d) (add-zero a) ∙ sym (add-zero (a / d))
steps HalfAway a d D e = go (leb d (2 * (a % d))) (leb→le d (2 * (a % d))) (nleb→lt d (2 * (a % d)))
  where
    go : (b : Bool) → (T b → d ≤ 2 * (a % d)) → (T (not b) → 2 * (a % d) < d) → (a + d / 2) / d ≡ a / d + one_if b
    go true y n =
        let x = div-add-mod' a d in
        let z = y tt in
        let l = mod-lt a (lt_of_lt_of_le (zero-lt-suc 0) (le_trans (lit≤ tt) D)) in
        div_at (a + d / 2) d (a / d + 1) (a % d - d / 2) (omega arith) (omega arith)
    go false y n =
        let x = div-add-mod' a d in
        let z = n tt in
        div_at (a + d / 2) d (a / d + 0) (a % d + d / 2) (omega arith) (omega arith)
steps AwayFromZero a d D e = go (leb 1 (a % d)) (leb→le 1 (a % d)) (nleb→lt 1 (a % d))
  where
    go : (b : Bool) → (T b → 1 ≤ a % d) → (T (not b) → a % d < 1) → (a + (d - 1)) / d ≡ a / d + one_if b
    go true y n =
        let x = div-add-mod' a d in
        let z = y tt in
        let l = mod-lt a (lt_of_lt_of_le (zero-lt-suc 0) (le_trans (lit≤ tt) D)) in
        div_at (a + (d - 1)) d (a / d + 1) (a % d - 1) (omega arith) (omega arith)
    go false y n =
        let x = div-add-mod' a d in
        let z = n tt in
        div_at (a + (d - 1)) d (a / d + 0) (d - 1) (omega arith) (omega arith)

-- ---- the digits of a pattern: q of the values 2 ^ h

abbrev pub expo : Format → ℕ → ℕ
expo f b = b / hid f - 1

abbrev pub digs : Format → ℕ → ℕ
digs f b = b - expo f b * hid f

pub record Parts (f : Format) (b : ℕ) : Type 0 where
  pub sum : expo f b * hid f + digs f b ≡ b
  pub lead : (expo f b ≡ 0) ⊎ (hid f ≤ digs f b)
  pub high : digs f b < 2 ^ prec f
  pub some : 1 ≤ b → 1 ≤ digs f b

pub parts : (f : Format) (b : ℕ) → Parts f b
parts f b = go (b / hid f) refl
  where
    go : (x : ℕ) → b / hid f ≡ x → Parts f b
    go zero e =
        let d = div-add-mod' b (hid f) in
        let m = mod-lt b (pow_pos (prec f - 1)) in
        let w = twice (prec f) (two f) in
        let z : expo f b ≡ 0 = ap (λ (y : ℕ). y - 1) e in
        let k = ap (λ (y : ℕ). y * hid f) z in
        let i = ap (λ (y : ℕ). y * hid f) e in
        record { sum = omega arith; lead = inl z; high = omega arith; some = λ l. omega arith }
    go (suc x) e =
        let d = div-add-mod' b (hid f) in
        let m = mod-lt b (pow_pos (prec f - 1)) in
        let w = twice (prec f) (two f) in
        let z : expo f b ≡ x = ap (λ (y : ℕ). y - 1) e ∙ pred x in
        let k = ap (λ (y : ℕ). y * hid f) z in
        let i = ap (λ (y : ℕ). y * hid f) e in
        let g : hid f ≤ digs f b = omega arith in
        let q = pow_pos (prec f - 1) in
        record { sum = omega arith; lead = inr g; high = omega arith; some = λ l. omega arith }
      where
        pred : (x : ℕ) → suc x - 1 ≡ x
        pred x = omega arith

-- ---- no digits below one: nothing changes

whole_by_one : (f : Format) (s : Bool) (w : Way) (a : ℕ) → whole_by f s w a 1 ≡ round f s a 1
whole_by_one f s w a = whole_by_is f s w a 1 ∙ ap (λ (x : ℕ). round f s x 1) (size_one w a)

pub expo_lt : (f : Format) (b : ℕ) → b < ones f * hid f → expo f b + 2 ≤ ones f
expo_lt f b h =
    let x : b / hid f < ones f = (div-lt_iff_lt-mul (pow_pos (prec f - 1))).1 h in
    let l : 3 ≤ ones f = ones_ge f in
    omega arith

fine : (f : Format) (q h : ℕ) → q ≤ 2 ^ prec f → h + 2 < ones f → q * 2 ^ h < 2 ^ (low f + suc (emax f))
fine f q h a b =
    let t = two f in
    let i : prec f + h < low f + suc (emax f) = omega arith in
    lt_of_le_of_lt (mul-le-mul_right (2 ^ h) a) (lt_of_le_of_lt (le_of_eq (sym (pow-add 2 (prec f) h))) (pow-lt i))

pub unchanged : (f : Format) (s : Bool) (w : Way) (b : ℕ) → b < ones f * hid f → emax f + prec f - 1 ≤ b / hid f → Wholes f s w b b
unchanged f s w b l g =
    let p = parts f b in
    let q = digs f b in
    let h = expo f b in
    let t = two f in
    let k : low f ≤ h = omega arith in
    let K = q * 2 ^ (h - low f) in
    let j : h - low f + low f ≡ h = omega arith in
    let e : K * 2 ^ low f ≡ q * 2 ^ h = mul_assoc q (2 ^ (h - low f)) (2 ^ low f) ∙ ap (λ (x : ℕ). q * x) (sym (pow-add 2 (h - low f) (low f)) ∙ ap (λ (x : ℕ). 2 ^ x) j) in
    let x = expo_lt f b l in
    let i : prec f + h ≤ low f + suc (emax f) = omega arith in
    let n : q * 2 ^ h < 2 ^ (low f + suc (emax f)) = lt_of_lt_of_le (mul-lt-mul_of_pos_right p.high (pow_pos h)) (le_trans (le_of_eq (sym (pow-add 2 (prec f) h))) (pow_mono i)) in
    record {
      value =
          ap (to_bits f) (whole_by_same f s w (q * 2 ^ h) (2 ^ low f) K 1 (pow_pos (low f)) (zero-lt-suc 0) (mul-one (q * 2 ^ h) ∙ sym e) ∙ whole_by_one f s w K)
          ∙ whole_bits f s K q h p.lead (le_of_lt p.high) n e
          ∙ ap (λ (y : ℕ). cond s (top f) 0 + y) p.sum;
      finite = l;
    }

-- ---- digits below one: they are cut off, after the step

pub step_lt : (w : Way) (d : ℕ) → 2 ≤ d → addend_of w d < d
step_lt TowardZero d h = omega arith
step_lt HalfAway d h = omega arith
step_lt AwayFromZero d h = omega arith

-- a multiple of U in front does not matter
front : (c x U : ℕ) → 0 < U → c * U + x - (c * U + x) % U ≡ c * U + x / U * U
front c x U h =
    let a : (c * U + x) % U ≡ x % U = mul-add-mod_self_right c U x in
    let d = div-add-mod' x U in
    omega arith

pow_even : (i : ℕ) → 1 ≤ i → 2 ^ i % 2 ≡ 0
pow_even zero h = absurd (omega arith)
pow_even (suc i) h = let a = pow-succ' 2 i in omega arith

normal : (f : Format) (b : ℕ) → Parts f b → 1 ≤ b / hid f → hid f ≤ digs f b
normal f b p h = go p.lead
  where
    go : (expo f b ≡ 0) ⊎ (hid f ≤ digs f b) → hid f ≤ digs f b
    go (inr l) = l
    go (inl z) = let e = ap (λ (y : ℕ). y * hid f) z in let d = div-add-mod' b (hid f) in let m = mul-le-mul_right (hid f) h in omega arith

pub cut : (f : Format) (s : Bool) (w : Way) (b : ℕ) → b < ones f * hid f → emax f ≤ b / hid f → b / hid f < emax f + prec f - 1
    → let U = 2 ^ (emax f + prec f - 1 - b / hid f) in Wholes f s w b (b + addend_of w U - (b + addend_of w U) % U)
cut f s w b l g k =
    let p = parts f b in
    let q = digs f b in
    let h = expo f b in
    let t = two f in
    let r = reach f in
    let i = emax f + prec f - 1 - b / hid f in
    let U = 2 ^ i in
    let hi : i + h ≡ low f = omega arith in
    let one_le : 1 ≤ i = omega arith in
    let ic : prec f - 1 ≡ prec f - 1 - i + i = omega arith in
    let c = 2 ^ (prec f - 1 - i) in
    let hc : hid f ≡ c * U = ap (λ (x : ℕ). 2 ^ x) ic ∙ pow-add 2 (prec f - 1 - i) i in
    let U2 : 2 ≤ U = pow_mono one_le in
    let st = addend_of w U in
    let sl = step_lt w U U2 in
    let K = (q + st) / U in
    let e1 : K ≡ q / U + one_if (moves w (q % U) U) = steps w q U U2 (pow_even i one_le) in
    let W = twice (prec f) (two f) in
    let ph = p.high in
    let up : (q + st) / U < 2 * c + 1 = (div-lt_iff_lt-mul (pow_pos i)).1 (omega arith) in
    let qh : hid f ≤ q = normal f b p (omega arith) in
    let lo : c ≤ (q + st) / U = (le-div_iff_mul-le (pow_pos i)).1 (omega arith) in
    let lo2 : c * U ≤ K * U = mul-le-mul_right U lo in
    let up2 : K * U ≤ 2 * c * U = mul-le-mul_right U (omega arith) in
    let x = expo_lt f b l in
    let h2 : h + 2 < ones f = omega arith in
    let e2 : K * 2 ^ low f ≡ K * U * 2 ^ h = ap (λ (y : ℕ). K * 2 ^ y) (sym hi) ∙ ap (λ (y : ℕ). K * y) (pow-add 2 i h) ∙ sym (mul_assoc K U (2 ^ h)) in
    let e3 : q * 2 ^ h * U ≡ q * 2 ^ low f = mul_assoc q (2 ^ h) U ∙ ap (λ (y : ℕ). q * y) (mul_comm (2 ^ h) U ∙ sym (pow-add 2 i h) ∙ ap (λ (y : ℕ). 2 ^ y) hi) in
    let B : b + st ≡ h * c * U + (q + st) = (let y = p.sum in let z = ap (λ (v : ℕ). h * v) hc in omega arith) in
    let R : b + st - (b + st) % U ≡ h * hid f + K * U = ap (λ (y : ℕ). y - y % U) B ∙ front (h * c) (q + st) U (pow_pos i) ∙ (let z = ap (λ (v : ℕ). h * v) hc in omega arith) in
    record {
      value =
          ap (to_bits f) (whole_by_same f s w (q * 2 ^ h) (2 ^ low f) q U (pow_pos (low f)) (pow_pos i) e3 ∙ whole_by_is f s w q U ∙ ap (λ (y : ℕ). round f s y 1) (sym e1))
          ∙ whole_bits f s K (K * U) h (inr (omega arith)) (omega arith) (fine f (K * U) h (omega arith) h2) e2
          ∙ ap (λ (y : ℕ). cond s (top f) 0 + y) (sym R);
      finite = (let m : (h + 3) * hid f ≤ ones f * hid f = mul-le-mul_right (hid f) (omega arith) in let n = pow_pos (prec f - 1) in omega arith);
    }

-- ---- a number below one

mod_of_lt : (a d : ℕ) → a < d → a % d ≡ a
mod_of_lt a d h = mod-eq_of_lt h

div_of_lt : (a d : ℕ) → a < d → a / d ≡ 0
div_of_lt a d h = div_at a d 0 a (omega arith) h

under_one : (f : Format) (b : ℕ) → b / hid f < emax f → size_of (prec f) b < 2 ^ low f
under_one f b l =
    let p = parts f b in
    let h = expo f b in
    let t = two f in
    let r = emax_ge f in
    let i : prec f + h ≤ low f = omega arith in
    lt_of_lt_of_le (mul-lt-mul_of_pos_right p.high (pow_pos h)) (le_trans (le_of_eq (sym (pow-add 2 (prec f) h))) (pow_mono i))

small_whole : (f : Format) (s : Bool) (w : Way) (a d : ℕ) (t : Bool) → a < d → moves w a d ≡ t → whole_by f s w a d ≡ round f s (one_if t) 1
small_whole f s w a d t h e =
    whole_by_is f s w a d
    ∙ ap₂ (λ (x y : ℕ). round f s (x + one_if (moves w y d)) 1) (div_of_lt a d h) (mod_of_lt a d h)
    ∙ ap (λ (y : Bool). round f s (0 + one_if y) 1) e
    ∙ ap (λ (y : ℕ). round f s y 1) (zero-add (one_if t))

pub stays : (f : Format) (s : Bool) (w : Way) (b : ℕ) → b / hid f < emax f → moves w (size_of (prec f) b) (2 ^ low f) ≡ false → Wholes f s w b 0
stays f s w b l e = record {
  value =
      ap (to_bits f) (small_whole f s w (size_of (prec f) b) (2 ^ low f) false (under_one f b l) e)
      ∙ whole_bits f s 0 0 0 (inl refl) (zero-le) (pow_pos (low f + suc (emax f))) (zero-mul (2 ^ low f) ∙ sym (zero-mul 1))
      ∙ ap (λ (y : ℕ). cond s (top f) 0 + y) (add-zero (0 * hid f) ∙ zero-mul (hid f));
  finite = mul-pos (zero_lt (emax f)) (pow_pos (prec f - 1));
}
  where
    zero_lt : (e : ℕ) → 0 < 2 * e + 1
    zero_lt e = omega arith

pub rises : (f : Format) (s : Bool) (w : Way) (b : ℕ) → b / hid f < emax f → moves w (size_of (prec f) b) (2 ^ low f) ≡ true → Wholes f s w b (emax f * hid f)
rises f s w b l e =
    let t = two f in
    let h = emax f - 1 in
    let W = twice (prec f) t in
    let i : low f ≡ prec f - 1 + h = omega arith in
    let v : 1 * 2 ^ low f ≡ hid f * 2 ^ h = one-mul (2 ^ low f) ∙ ap (λ (y : ℕ). 2 ^ y) i ∙ pow-add 2 (prec f - 1) h in
    let k : h + 2 < ones f = omega arith in
    let a : hid f ≤ 2 ^ prec f = omega arith in
    let z : emax f ≡ h + 1 = omega arith in
    let y = ap (λ (x : ℕ). x * hid f) z in
    record {
      value =
          ap (to_bits f) (small_whole f s w (size_of (prec f) b) (2 ^ low f) true (under_one f b l) e)
          ∙ whole_bits f s 1 (hid f) h (inr (le_refl (hid f))) a (fine f (hid f) h a k) v
          ∙ ap (λ (x : ℕ). cond s (top f) 0 + x) (omega arith);
      finite = mul-lt-mul_of_pos_right (omega arith) (pow_pos (prec f - 1));
    }

-- where that is, by the bits
pub moves_at : (f : Format) (w : Way) (b : ℕ) → b / hid f < emax f → moves w (size_of (prec f) b) (2 ^ low f) ≡ leb (limit_of w ((emax f - 1) * hid f) (emax f * hid f)) b
moves_at f TowardZero b l = sym (is_false (leb (emax f * hid f) b) (lt→nleb (emax f * hid f) b ((div-lt_iff_lt-mul (pow_pos (prec f - 1))).0 l)))
moves_at f HalfAway b l = leb_same (2 ^ low f) (2 * size_of (prec f) b) ((emax f - 1) * hid f) b
    (λ g. le_of_not_lt (λ (n : b < (emax f - 1) * hid f). lt_irrefl (2 ^ low f) (lt_of_le_of_lt g (less n))))
    (λ g. more ((le-div_iff_mul-le (pow_pos (prec f - 1))).1 g))
  where
    le_of_not_lt : {x y : ℕ} → (y < x → ⊥) → x ≤ y
    le_of_not_lt {x} {y} n = nltb→le y x (not_T (ltb y x) (λ t. n (ltb→lt y x t)))

    less : b < (emax f - 1) * hid f → 2 * size_of (prec f) b < 2 ^ low f
    less n =
        let x : b / hid f < emax f - 1 = (div-lt_iff_lt-mul (pow_pos (prec f - 1))).1 n in
        let t = two f in
        let g = emax_ge f in
        let i : 1 + (prec f + expo f b) ≤ low f = omega arith in
        let a : size_of (prec f) b < 2 ^ prec f * 2 ^ expo f b = mul-lt-mul_of_pos_right (parts f b).high (pow_pos (expo f b)) in
        let c = pow-add 2 1 (prec f + expo f b) in
        let d = pow-add 2 (prec f) (expo f b) in
        let k : 2 ^ (1 + (prec f + expo f b)) ≤ 2 ^ low f = pow_mono i in
        omega arith

    more : emax f - 1 ≤ b / hid f → 2 ^ low f ≤ 2 * size_of (prec f) b
    more x =
        let t = two f in
        let g = emax_ge f in
        let n : hid f ≤ digs f b = normal f b (parts f b) (omega arith) in
        let i : low f ≡ 1 + (prec f - 1 + expo f b) = omega arith in
        let a : hid f * 2 ^ expo f b ≤ size_of (prec f) b = mul-le-mul_right (2 ^ expo f b) n in
        let c = pow-add 2 1 (prec f - 1 + expo f b) in
        let d = pow-add 2 (prec f - 1) (expo f b) in
        let k : 2 ^ low f ≡ 2 ^ (1 + (prec f - 1 + expo f b)) = ap (λ (y : ℕ). 2 ^ y) i in
        omega arith
moves_at f AwayFromZero b l = leb_same 1 (size_of (prec f) b) 1 b (λ g. first g) (λ g. mul-pos ((parts f b).some g) (pow_pos (expo f b)))
  where
    first : 1 ≤ size_of (prec f) b → 1 ≤ b
    first g = le_trans (first_pos (digs f b) (2 ^ expo f b) g) (sub-le b (expo f b * hid f))
