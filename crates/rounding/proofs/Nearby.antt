-- Which bits the numbers next to 1 have: the order of sizes is that of their patterns. Assumes nothing.
use Rattle.std.proofs.Common.{◌≡◌, ℕ, suc, ◌+◌, ◌-◌, ◌*◌, ◌/◌, ◌^◌, ◌<◌, ◌≤◌, Bool, true, false, not, ◌&&◌, T, eqb, leb, ◌≢◌, ◌⊎◌, negsuc, sym, refl, ap, ◌∙◌, subst, ap₂, inl, inr, true≢false, le_of_eq, lt_of_lt_of_le, le_of_lt, lt_irrefl, mul-le-mul_right, mod-eq_of_lt, eq-or-lt_of_le, mul-lt-mul_of_pos_right, mul-pos, le_of_mul-le-mul_right, arith, le→leb, leb→le, pow_pos, pow_mono, eqb-true, le-leb}
use native.Mathlib.Nat.{pow-succ'}
use lib.Dec.{not_T, nleb→lt}
use lib.Ieee.Bits.{is_false}
use borrow.Author.Tests.{lt-leb, eqb-false}
use lib.Ieee.{Float, nan, inf, fin, Format, binary32, prec, hid, ones, top, up, down, to_bits, fits, is_nan, le, lt, ne}
use lib.Ieee.Exact.{HasValue, odd_sign}
use lib.Ieee.Fits.{two, down_pos}
use lib.Ieee.Nearest.{div_mono}
use Rattle.rounding.specs.Root.{near_one}
use Rattle.rounding.specs.Steps.{size_of}
use Rattle.rounding.proofs.Laws.Basics.{same_test}
use Rattle.rounding.proofs.Laws.Order.{le→Le, Le→le, lt_iff_not_le, nan_of_differs}
use Rattle.rounding.proofs.Pattern.{twice}
use Rattle.rounding.proofs.Cut.{expo, digs, parts}
use Rattle.rounding.proofs.Sign.{sized, sized_lt, is_inf, finite_odd}

-- ---- the order of two patterns is that of their sizes

chain : (x p e h s c y : ℕ) → x < p → p ≡ 2 * h * e → s ≡ 2 * e * h → s ≤ c * h → h * c ≤ y → x < y
chain x p e h s c y a b d i j = omega arith

size_lt : (f : Format) (b c : ℕ) → b < c → size_of (prec f) b < size_of (prec f) c
size_lt f b c h = go (eq-or-lt_of_le expos)
  where
    quotients : b / hid f ≤ c / hid f
    quotients = let H = pow_pos (prec f - 1) in div_mono b (hid f) c (hid f) H H (mul-le-mul_right (hid f) (le_of_lt h))

    expos : expo f b ≤ expo f c
    expos = let q = quotients in omega arith

    go : (expo f b ≡ expo f c) ⊎ (expo f b < expo f c) → size_of (prec f) b < size_of (prec f) c
    go (inl e) =
        let p = (parts f b).sum in
        let q = (parts f c).sum in
        let i = ap (λ (x : ℕ). x * hid f) e in
        let l : digs f b < digs f c = omega arith in
        lt_of_lt_of_le (mul-lt-mul_of_pos_right l (pow_pos (expo f b))) (le_of_eq (ap (λ (x : ℕ). digs f c * 2 ^ x) e))
    go (inr l) = far (parts f c).lead
      where
        far : (expo f c ≡ 0) ⊎ (hid f ≤ digs f c) → size_of (prec f) b < size_of (prec f) c
        far (inl z) = absurd (omega arith)
        far (inr k) =
            let w = twice (prec f) (two f) in
            let a : digs f b * 2 ^ expo f b < 2 ^ prec f * 2 ^ expo f b = mul-lt-mul_of_pos_right (parts f b).high (pow_pos (expo f b)) in
            let s : suc (expo f b) ≤ expo f c = l in
            let m : 2 ^ suc (expo f b) ≤ 2 ^ expo f c = pow_mono s in
            let n : hid f * 2 ^ expo f c ≤ digs f c * 2 ^ expo f c = mul-le-mul_right (2 ^ expo f c) k in
            let o : 2 ^ suc (expo f b) * hid f ≤ 2 ^ expo f c * hid f = mul-le-mul_right (hid f) m in
            let u = ap (λ (x : ℕ). x * hid f) (pow-succ' 2 (expo f b)) in
            let v = ap (λ (x : ℕ). x * 2 ^ expo f b) w in
            chain (digs f b * 2 ^ expo f b) (2 ^ prec f * 2 ^ expo f b) (2 ^ expo f b) (hid f) (2 ^ suc (expo f b) * hid f) (2 ^ expo f c) (digs f c * 2 ^ expo f c) a v u o n

size_order : (f : Format) (b c : ℕ) → leb (size_of (prec f) b) (size_of (prec f) c) ≡ leb b c
size_order f b c = same_test (leb (size_of (prec f) b) (size_of (prec f) c)) (leb b c) (λ h. go (leb b c) (nleb→lt b c) (leb→le _ _ h)) (λ h. back (eq-or-lt_of_le (leb→le b c h)))
  where
    go : (t : Bool) → (T (not t) → c < b) → size_of (prec f) b ≤ size_of (prec f) c → T t
    go true n h = tt
    go false n h = absurd (lt_irrefl (size_of (prec f) c) (lt_of_lt_of_le (size_lt f c b (n tt)) h))

    back : (b ≡ c) ⊎ (b < c) → T (leb (size_of (prec f) b) (size_of (prec f) c))
    back (inl e) = le→leb _ _ (le_of_eq (ap (size_of (prec f)) e))
    back (inr l) = le→leb _ _ (le_of_lt (size_lt f b c l))

-- ---- a / 2 ^ suc k against a number of S units, l of which are 1

value_order : (a k : ℕ) (x : Float) (S l c : ℕ) → 0 < l → a * l ≡ c * 2 ^ suc k → HasValue x false S l → le (fin false a (negsuc k)) x ≡ leb c S
value_order a k nan S l c L e v = absurd v
value_order a k (inf s) S l c L e v = absurd v
value_order a k (fin true m d) S l c L e v = absurd (true≢false v.0)
value_order a k (fin false m d) S l c L e v =
    same_test (le (fin false a (negsuc k)) (fin false m d)) (leb c S)
    (λ h. le→leb c S (there a (2 ^ suc k) (m * up d) (down d) S l c L (pow_pos (suc k)) (down_pos d) e v.1 (le→Le (fin false a (negsuc k)) (fin false m d) h)))
    (λ h. Le→le (fin false a (negsuc k)) (fin false m d) (back a (2 ^ suc k) (m * up d) (down d) S l c L (pow_pos (suc k)) (down_pos d) e v.1 (leb→le c S h)))
  where
    there : (a K M D S l c : ℕ) → 0 < l → 0 < K → 0 < D → a * l ≡ c * K → M * l ≡ S * D → a * 1 * D + 0 * K ≤ M * K + 0 * D → c ≤ S
    there a K M D S l c L p q e v h =
        let x : (a * 1 * D + 0 * K) * l ≤ (M * K + 0 * D) * l = mul-le-mul_right l h in
        let y = ap (λ (z : ℕ). z * D) e in
        let w = ap (λ (z : ℕ). z * K) v in
        let u : c * (K * D) ≤ S * (K * D) = omega arith in
        le_of_mul-le-mul_right u (mul-pos p q)

    back : (a K M D S l c : ℕ) → 0 < l → 0 < K → 0 < D → a * l ≡ c * K → M * l ≡ S * D → c ≤ S → a * 1 * D + 0 * K ≤ M * K + 0 * D
    back a K M D S l c L p q e v h =
        let x : c * (K * D) ≤ S * (K * D) = mul-le-mul_right (K * D) h in
        let y = ap (λ (z : ℕ). z * D) e in
        let w = ap (λ (z : ℕ). z * K) v in
        let u : (a * 1 * D + 0 * K) * l ≤ (M * K + 0 * D) * l = omega arith in
        le_of_mul-le-mul_right u L

-- ---- the numbers next to 1

abbrev least : Float
least = fin false 4095 (negsuc 11)

abbrev past : Float
past = fin false 2049 (negsuc 10)

near_plus : (x : Float) (b : ℕ) → HasValue x false (size_of 24 b) (2 ^ 149) → near_one x ≡ leb 0x3f7f_f000 b && not (leb 0x3f80_1000 b)
unfolding near_one
near_plus nan b v = absurd v
near_plus (inf s) b v = absurd v
near_plus (fin s m e) b v =
    let x = fin s m e in
    let i : le least x ≡ leb 0x3f7f_f000 b = value_order 4095 11 x (size_of 24 b) (2 ^ 149) (size_of 24 0x3f7f_f000) (pow_pos 149) refl v ∙ size_order binary32 0x3f7f_f000 b in
    let j : le past x ≡ leb 0x3f80_1000 b = value_order 2049 10 x (size_of 24 b) (2 ^ 149) (size_of 24 0x3f80_1000) (pow_pos 149) refl v ∙ size_order binary32 0x3f80_1000 b in
    let n = lt_iff_not_le x past tt tt in
    ap₂ (λ (p q : Bool). p && q) i (same_test (lt x past) (not (le past x)) n.0 n.1 ∙ ap not j)

near_minus : (x : Float) (S l : ℕ) → HasValue x true S l → near_one x ≡ false
unfolding near_one
near_minus nan S l v = absurd v
near_minus (inf s) S l v = absurd v
near_minus (fin false m e) S l v = absurd (true≢false (sym v.0))
near_minus (fin true m e) S l v =
    let i : le least (fin true m e) ≡ false = is_false (le least (fin true m e)) (not_T (le least (fin true m e)) (λ h. none (m * up e) (down e) (down_pos e) (le→Le least (fin true m e) h))) in
    ap (λ (p : Bool). p && lt (fin true m e) past) i
  where
    none : (M D : ℕ) → 0 < D → 4095 * 1 * D + M * 2 ^ 12 ≤ 0 + 0 * D → ⊥
    none M D h k = omega arith

near_inf : (s : Bool) → near_one (inf s) ≡ false
unfolding near_one le lt
near_inf true = refl
near_inf false = refl

-- by the bits b of x
near_large : (b : ℕ) → 0x3f80_1000 ≤ b → leb 0x3f7f_f000 b && not (leb 0x3f80_1000 b) ≡ false
near_large b h = rw (le-leb 0x3f80_1000 b h, le-leb 0x3f7f_f000 b (omega arith)) refl

pub near_bits : (x : Float) → T (fits binary32 x) → T (not (is_nan x)) → near_one x ≡ leb 0x3f7f_f000 (to_bits binary32 x) && not (leb 0x3f80_1000 (to_bits binary32 x))
near_bits x t n = go (eqb (sized binary32 x) (ones binary32 * hid binary32)) (eqb-true (sized binary32 x) (ones binary32 * hid binary32)) (eqb-false (sized binary32 x) (ones binary32 * hid binary32))
  where
    go : (i : Bool) → (i ≡ true → sized binary32 x ≡ ones binary32 * hid binary32) → (i ≡ false → sized binary32 x ≢ ones binary32 * hid binary32)
        → near_one x ≡ leb 0x3f7f_f000 (to_bits binary32 x) && not (leb 0x3f80_1000 (to_bits binary32 x))
    go true y z =
        let e = y refl in
        let i : x ≡ inf (leb (top binary32) (to_bits binary32 x)) = is_inf binary32 x (leb (top binary32) (to_bits binary32 x)) t e refl in
        ap near_one i ∙ near_inf (leb (top binary32) (to_bits binary32 x)) ∙ sym (near_large (to_bits binary32 x) (omega arith))
    go false y z = signs (leb (top binary32) (to_bits binary32 x)) refl (leb→le (top binary32) (to_bits binary32 x)) (nleb→lt (top binary32) (to_bits binary32 x))
      where
        l : sized binary32 x < ones binary32 * hid binary32
        l = sized_lt binary32 x t n (z refl)

        value : (s : Bool) → leb (top binary32) (to_bits binary32 x) ≡ s → HasValue x s (size_of 24 (sized binary32 x)) (2 ^ 149)
        value s k =
            subst (λ (y : Float). HasValue y s (size_of 24 (sized binary32 x)) (2 ^ 149)) (sym (finite_odd binary32 x s t l k))
            (odd_sign 24 s (digs binary32 (sized binary32 x)) (expo binary32 (sized binary32 x)) 149)

        signs : (s : Bool) → leb (top binary32) (to_bits binary32 x) ≡ s → (T s → top binary32 ≤ to_bits binary32 x) → (T (not s) → to_bits binary32 x < top binary32)
            → near_one x ≡ leb 0x3f7f_f000 (to_bits binary32 x) && not (leb 0x3f80_1000 (to_bits binary32 x))
        signs true k p q =
            let g = p tt in
            near_minus x (size_of 24 (sized binary32 x)) (2 ^ 149) (value true k) ∙ sym (near_large (to_bits binary32 x) (omega arith))
        signs false k p q = near_plus x (to_bits binary32 x) (subst (λ (b : ℕ). HasValue x false (size_of 24 b) (2 ^ 149)) (mod-eq_of_lt (q tt)) (value false k))

-- as `root_near_one` asks
pub near_yes : (x : Float) → T (fits binary32 x) → T (not (is_nan x)) → (to_bits binary32 x + 0x1000) / 0x2000 ≡ 0x1_fc00 → true ≡ near_one x
near_yes x t n h =
    let b = to_bits binary32 x in
    sym (near_bits x t n ∙ rw (le-leb 0x3f7f_f000 b (omega arith), lt-leb 0x3f80_1000 b (omega arith)) refl)

pub near_no : (x : Float) → T (fits binary32 x) → T (not (is_nan x)) → ((to_bits binary32 x + 0x1000) / 0x2000 ≡ 0x1_fc00 → ⊥) → false ≡ near_one x
near_no x t n h = sym (near_bits x t n ∙ go (leb 0x3f80_1000 (to_bits binary32 x)) (leb→le 0x3f80_1000 (to_bits binary32 x)) (nleb→lt 0x3f80_1000 (to_bits binary32 x)))
  where
    go : (i : Bool) → (T i → 0x3f80_1000 ≤ to_bits binary32 x) → (T (not i) → to_bits binary32 x < 0x3f80_1000) → leb 0x3f7f_f000 (to_bits binary32 x) && not i ≡ false
    go true y z = rw (le-leb 0x3f7f_f000 (to_bits binary32 x) (let g = y tt in omega arith)) refl
    go false y z = rw (lt-leb 0x3f7f_f000 (to_bits binary32 x) (let g = z tt in let k : (to_bits binary32 x + 0x1000) / 0x2000 ≢ 0x1_fc00 = h in omega arith)) refl

pub near_nan : (x : Float) → ne x x ≡ true → false ≡ near_one x
unfolding near_one le lt
near_nan x e = subst (λ (y : Float). false ≡ near_one y) (sym (nan_of_differs x e)) refl
