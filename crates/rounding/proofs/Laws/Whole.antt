-- Floats to whole numbers. Every way keeps the order (`whole_mono`). Of a value that the format holds, the result is the whole number exactly (`whole_value`): so the floor is
-- the greatest whole number at most x (`floor_greatest`), the ceiling the least at least x (`ceil_least`), and a cast to an unsigned integer makes the same of x and of its
-- floor. Assumes nothing.
use Rattle.std.specs.Prelude.{◌≡◌, ℕ, suc, ◌+◌, ◌-◌, ◌*◌, ◌/◌, ◌%◌, ◌^◌, ◌<◌, ◌≤◌, min, Bool, true, false, not, T, ◌⊎◌, ℤ, pos, negsuc, nat_le, Float}
use Rattle.std.proofs.Math.Path.{refl}
use Rattle.std.proofs.Common.{sym, ap, ◌∙◌, inl, inr, zero-le, le_trans, le_of_eq, le_of_lt, lt_of_lt_of_le, le_antisymm, mul-pos, mul-one, mul-le-mul_left, mul-le-mul_right, le_of_mul-le-mul_right, div-add-mod', div-mul-le_self, mod-lt, div-one, add-zero, zero-lt-suc, eq-or-lt_of_le, arith, leb→le, le→leb, pow_pos}
use Rattle.std.proofs.Math.Nat.{mod-one}
use Rattle.std.proofs.Math.Dec.{nleb→lt}
use Rattle.std.specs.Float.{nan, inf, fin, Format, binary32}
use Rattle.std.specs.Float.Ieee.{up, down, round, le, to_unsigned, fits}
use Rattle.std.specs.Float.Ieee.Fits.{down_pos, round-fits, nan-fits, inf-fits}
use Rattle.std.specs.Float.Ieee.Back.{round_whole}
use Rattle.std.specs.Float.Ieee.Exact.{HasValue}
use Rattle.std.specs.Float.Ieee.Nearest.{div_mono}
use Rattle.std.specs.Float.Ieee.Positive.{first_pos}
use Rattle.rounding.specs.declared.whole.Way.{Way}
use Rattle.rounding.specs.declared.whole.Way.TheVariants.{TowardZero, HalfAway, AwayFromZero}
use Rattle.rounding.specs.Whole.{moves, one_if, whole_by, whole_of, ways, floor_of, ceil_of, round_of}
use Rattle.rounding.proofs.Laws.Signed.{Cross, cross_trans}
use Rattle.rounding.proofs.Laws.Order.{Le, le→Le, Le-right, le_bottom, le_top, le_refl}
use Rattle.rounding.specs.Numbers.{IsNum}
use Rattle.rounding.proofs.Laws.Rounding.{round_order, round_num, same_le, le_of_values, zero_of}
use Rattle.rounding.proofs.Laws.Representable.{digits, round_held, value_unique}
use Rattle.rounding.proofs.Laws.Count.{cast_value, cast_minus}

-- ---- the whole number that the size a / d goes to
abbrev pub whole_size : Way → ℕ → ℕ → ℕ
whole_size w a d = a / d + one_if (moves w (a % d) d)

pub whole_by_is : (f : Format) (s : Bool) (w : Way) (a d : ℕ) → whole_by f s w a d ≡ round f s (whole_size w a d) 1
unfolding whole_by
whole_by_is f s w a d = refl

one_if_le : (b : Bool) → one_if b ≤ 1
one_if_le true = omega arith
one_if_le false = omega arith

one_if_mono : (b c : Bool) → (T b → T c) → one_if b ≤ one_if c
one_if_mono true true h = omega arith
one_if_mono true false h = absurd (h tt)
one_if_mono false c h = zero-le

-- r / b is at most t / d
moves_mono : (w : Way) (r b t d : ℕ) → 0 < b → 0 < d → r * d ≤ t * b → T (moves w r b) → T (moves w t d)
moves_mono TowardZero r b t d B D e h = h
moves_mono HalfAway r b t d B D e h =
    le→leb d (2 * t) (le_of_mul-le-mul_right (let x : b * d ≤ 2 * r * d = mul-le-mul_right d (leb→le b (2 * r) h) in omega arith) B)
moves_mono AwayFromZero r b t d B D e h = le→leb 1 t (first_pos t b (lt_of_lt_of_le (mul-pos (leb→le 1 r h) D) e))

-- it grows with the size
pub size_mono : (w : Way) (a c b d : ℕ) → 0 < c → 0 < d → a * d ≤ b * c → whole_size w a c ≤ whole_size w b d
size_mono w a c b d C D h = go (eq-or-lt_of_le (div_mono a c b d C D h))
  where
    go : (a / c ≡ b / d) ⊎ (a / c < b / d) → whole_size w a c ≤ whole_size w b d
    go (inr l) = let x = one_if_le (moves w (a % c) c) in omega arith
    go (inl e) =
        let x = ap (λ (z : ℕ). z * d) (div-add-mod' a c) in
        let y = ap (λ (z : ℕ). z * c) (div-add-mod' b d) in
        let z = ap (λ (z : ℕ). z * (c * d)) e in
        let r : a % c * d ≤ b % d * c = omega arith in
        let k = one_if_mono (moves w (a % c) c) (moves w (b % d) d) (moves_mono w (a % c) c (b % d) d C D r) in
        omega arith

pub size_same : (w : Way) (a c b d : ℕ) → 0 < c → 0 < d → a * d ≡ b * c → whole_size w a c ≡ whole_size w b d
size_same w a c b d C D e = le_antisymm (size_mono w a c b d C D (le_of_eq e)) (size_mono w b d a c D C (le_of_eq (sym e)))

pub whole_by_same : (f : Format) (s : Bool) (w : Way) (a b c d : ℕ) → 0 < b → 0 < d → a * d ≡ c * b → whole_by f s w a b ≡ whole_by f s w c d
whole_by_same f s w a b c d B D e = whole_by_is f s w a b ∙ ap (λ (x : ℕ). round f s x 1) (size_same w a b c d B D e) ∙ sym (whole_by_is f s w c d)

-- a whole number stays
nothing_moves : (w : Way) → moves w 0 1 ≡ false
nothing_moves TowardZero = refl
nothing_moves HalfAway = refl
nothing_moves AwayFromZero = refl

pub size_one : (w : Way) (a : ℕ) → whole_size w a 1 ≡ a
size_one w a =
    ap (λ (r : ℕ). a / 1 + one_if (moves w r 1)) (mod-one a) ∙ ap (λ (b : Bool). a / 1 + one_if b) (nothing_moves w) ∙ add-zero (a / 1) ∙ div-one a

pub size_zero : (w : Way) (d : ℕ) → 0 < d → whole_size w 0 d ≡ 0
size_zero w d D = size_same w 0 d 0 1 D (zero-lt-suc 0) (omega arith) ∙ size_one w 0

-- ---- the order
size_cross : (w : Bool → Way) (s : Bool) (a c : ℕ) (t : Bool) (b d : ℕ) → 0 < c → 0 < d → Cross s a c t b d → Cross s (whole_size (w s) a c) 1 t (whole_size (w t) b d) 1
size_cross w false a c false b d C D h = let k = size_mono (w false) a c b d C D (omega arith) in omega arith
size_cross w false a c true b d C D h =
    let A : a ≡ 0 = zero_of a d b c D (omega arith) in
    let B : b ≡ 0 = zero_of b c a d C (omega arith) in
    rw (A, B) (let k = size_zero (w false) c C in let l = size_zero (w true) d D in omega arith)
size_cross w true a c false b d C D h = omega arith
size_cross w true a c true b d C D h = let k = size_mono (w true) b d a c D C (omega arith) in omega arith

module _ (f : Format) (w : Bool → Way) where
  pub whole_nan : whole_of f w nan ≡ nan
  unfolding whole_of
  whole_nan = refl

  pub whole_inf : (s : Bool) → whole_of f w (inf s) ≡ inf s
  unfolding whole_of
  whole_inf s = refl

  pub whole_fin : (s : Bool) (m : ℕ) (e : ℤ) → whole_of f w (fin s m e) ≡ round f s (whole_size (w s) (m * up e) (down e)) 1
  unfolding whole_of
  whole_fin s m e = whole_by_is f s (w s) (m * up e) (down e)

  pub whole_num : (x : Float) → IsNum x → IsNum (whole_of f w x)
  whole_num nan p = absurd p
  whole_num (inf s) p = rw (whole_inf s) tt
  whole_num (fin s m e) p = rw (whole_fin s m e) (round_num f s (whole_size (w s) (m * up e) (down e)) 1)

  pub whole_fits : (x : Float) → T (fits f (whole_of f w x))
  whole_fits nan = rw whole_nan (nan-fits f)
  whole_fits (inf s) = rw (whole_inf s) (inf-fits f s)
  whole_fits (fin s m e) = rw (whole_fin s m e) (round-fits f s (whole_size (w s) (m * up e) (down e)) 1)

  whole-Le : (x y : Float) → Le x y → T (le (whole_of f w x) (whole_of f w y))
  whole-Le nan y h = absurd h
  whole-Le (inf true) y h = rw (whole_inf true) (le_bottom (whole_of f w y) (whole_num y (Le-right (inf true) y h)))
  whole-Le (inf false) nan h = absurd h
  whole-Le (inf false) (inf true) h = absurd h
  whole-Le (inf false) (inf false) h = rw (whole_inf false) (le_top (inf false) tt)
  whole-Le (inf false) (fin t n d) h = absurd h
  whole-Le (fin s m e) nan h = absurd h
  whole-Le (fin s m e) (inf true) h = absurd h
  whole-Le (fin s m e) (inf false) h = rw (whole_inf false) (le_top (whole_of f w (fin s m e)) (whole_num (fin s m e) tt))
  whole-Le (fin s m e) (fin t n d) h =
      rw (whole_fin s m e, whole_fin t n d)
      (round_order f s (whole_size (w s) (m * up e) (down e)) 1 t (whole_size (w t) (n * up d) (down d)) 1 (zero-lt-suc 0) (zero-lt-suc 0)
      (size_cross w s (m * up e) (down e) t (n * up d) (down d) (down_pos e) (down_pos d) h))

  pub whole_mono : (x y : Float) → T (le x y) → T (le (whole_of f w x) (whole_of f w y))
  whole_mono x y h = whole-Le x y (le→Le x y h)

pub floor_mono : (f : Format) (x y : Float) → T (le x y) → T (le (floor_of f x) (floor_of f y))
floor_mono f x y h = whole_mono f (ways TowardZero AwayFromZero) x y h

pub ceil_mono : (f : Format) (x y : Float) → T (le x y) → T (le (ceil_of f x) (ceil_of f y))
ceil_mono f x y h = whole_mono f (ways AwayFromZero TowardZero) x y h

pub round_of_mono : (f : Format) (x y : Float) → T (le x y) → T (le (round_of f x) (round_of f y))
round_of_mono f x y h = whole_mono f (ways HalfAway HalfAway) x y h

-- ---- the value: a format that holds x holds every whole number that x goes to
size_small : (w : Way) (m d : ℕ) → 0 < d → whole_size w m d ≤ m
size_small w m d D = le_trans (size_mono w m d m 1 D (zero-lt-suc 0) (mul-le-mul_left m D)) (le_of_eq (size_one w m))

pub whole_value : (f : Format) (w : Bool → Way) (s : Bool) (m : ℕ) (e : ℤ) → T (fits f (fin s m e)) → HasValue (whole_of f w (fin s m e)) s (whole_size (w s) (m * up e) (down e)) 1
whole_value f w s m (pos k) h = rw (whole_fin f w s m (pos k), size_one (w s) (m * 2 ^ k)) (round_held f s m (pos k) h)
whole_value f w s m (negsuc k) h =
    rw (whole_fin f w s m (negsuc k), mul-one m)
    (round_whole f s (whole_size (w s) m (2 ^ suc k)) (le_trans (size_small (w s) m (2 ^ suc k) (pow_pos (suc k))) (le_of_lt (digits f s m (negsuc k) h))))

-- so what is whole already stays
pub whole_same : (f : Format) (w : Bool → Way) (x : Float) (t : Bool) (k : ℕ) → T (fits f x) → HasValue x t k 1 → whole_of f w x ≡ x
whole_same f w nan t k h v = absurd v
whole_same f w (inf s) t k h v = absurd v
whole_same f w (fin s m e) t k h v =
    value_unique f (whole_of f w (fin s m e)) (fin s m e) s (whole_size (w s) (m * up e) (down e)) 1 (zero-lt-suc 0) (whole_fits f w (fin s m e)) h (whole_value f w s m e h)
    (refl, v.1 ∙ ap (λ (z : ℕ). z * down e) (sym (size_same (w s) (m * up e) (down e) k 1 (down_pos e) (zero-lt-suc 0) v.1 ∙ size_one (w s) k)))

pub floor_value : (f : Format) (s : Bool) (m : ℕ) (e : ℤ) → T (fits f (fin s m e)) → HasValue (floor_of f (fin s m e)) s (whole_size (ways TowardZero AwayFromZero s) (m * up e) (down e)) 1
floor_value f s m e h = whole_value f (ways TowardZero AwayFromZero) s m e h

-- ---- what toward zero and away from zero mean
toward_le : (a c : ℕ) → whole_size TowardZero a c * c ≤ a
toward_le a c = le_trans (le_of_eq (ap (λ (z : ℕ). z * c) (add-zero (a / c)))) (div-mul-le_self a c)

away_ge : (a c : ℕ) → 0 < c → a ≤ whole_size AwayFromZero a c * c
away_ge a c C = go (nat_le 1 (a % c)) (nleb→lt 1 (a % c))
  where
    go : (b : Bool) → (T (not b) → a % c < 1) → a ≤ (a / c + one_if b) * c
    go true n = let x = div-add-mod' a c in let y = mod-lt a C in omega arith
    go false n = let x = div-add-mod' a c in let y = n tt in omega arith

toward_greatest : (a c k : ℕ) → 0 < c → k * c ≤ a → k ≤ whole_size TowardZero a c
toward_greatest a c k C h = le_trans (le_of_eq (sym (size_one TowardZero k))) (size_mono TowardZero k 1 a c (zero-lt-suc 0) C (omega arith))

away_least : (a c k : ℕ) → 0 < c → a ≤ k * c → whole_size AwayFromZero a c ≤ k
away_least a c k C h = le_trans (size_mono AwayFromZero a c k 1 C (zero-lt-suc 0) (omega arith)) (le_of_eq (size_one AwayFromZero k))

-- ---- the floor is at most x, and the ceiling at least
floor_cross : (s : Bool) (a c : ℕ) → 0 < c → Cross s (whole_size (ways TowardZero AwayFromZero s) a c) 1 s a c
floor_cross false a c C = let h = toward_le a c in omega arith
floor_cross true a c C = let h = away_ge a c C in omega arith

pub floor_le : (f : Format) (x : Float) → T (fits f x) → IsNum x → T (le (floor_of f x) x)
floor_le f nan h p = absurd p
floor_le f (inf s) h p = rw (whole_inf f (ways TowardZero AwayFromZero) s) (le_refl (inf s) tt)
floor_le f (fin s m e) h p =
    le_of_values (floor_of f (fin s m e)) (fin s m e) s (whole_size (ways TowardZero AwayFromZero s) (m * up e) (down e)) 1 s (m * up e) (down e) (zero-lt-suc 0) (down_pos e)
    (floor_value f s m e h) (refl, refl) (floor_cross s (m * up e) (down e) (down_pos e))

ceil_cross : (s : Bool) (a c : ℕ) → 0 < c → Cross s a c s (whole_size (ways AwayFromZero TowardZero s) a c) 1
ceil_cross false a c C = let h = away_ge a c C in omega arith
ceil_cross true a c C = let h = toward_le a c in omega arith

pub ceil_ge : (f : Format) (x : Float) → T (fits f x) → IsNum x → T (le x (ceil_of f x))
ceil_ge f nan h p = absurd p
ceil_ge f (inf s) h p = rw (whole_inf f (ways AwayFromZero TowardZero) s) (le_refl (inf s) tt)
ceil_ge f (fin s m e) h p =
    le_of_values (fin s m e) (ceil_of f (fin s m e)) s (m * up e) (down e) s (whole_size (ways AwayFromZero TowardZero s) (m * up e) (down e)) 1 (down_pos e) (zero-lt-suc 0)
    (refl, refl) (whole_value f (ways AwayFromZero TowardZero) s m e h) (ceil_cross s (m * up e) (down e) (down_pos e))

-- ---- and no whole number between the two is missed: y is the whole number k, or -k where t is true. It need not fit the format.
greatest_cross : (t : Bool) (k : ℕ) (s : Bool) (a c : ℕ) → 0 < c → Cross t k 1 s a c → Cross t k 1 s (whole_size (ways TowardZero AwayFromZero s) a c) 1
greatest_cross false k false a c C h = let g = toward_greatest a c k C (omega arith) in omega arith
greatest_cross false k true a c C h =
    let K : k ≡ 0 = zero_of k c a 1 C (omega arith) in
    let A : a ≡ 0 = zero_of a 1 k c (zero-lt-suc 0) (omega arith) in
    rw (A, K) (let z = size_zero AwayFromZero c C in omega arith)
greatest_cross true k false a c C h = omega arith
greatest_cross true k true a c C h = let g = away_least a c k C (omega arith) in omega arith

pub floor_greatest : (f : Format) (x y : Float) (t : Bool) (k : ℕ) → T (fits f x) → HasValue y t k 1 → T (le y x) → T (le y (floor_of f x))
floor_greatest f x nan t k h v l = absurd v
floor_greatest f x (inf u) t k h v l = absurd v
floor_greatest f nan (fin u n d) t k h v l = absurd (le→Le (fin u n d) nan l)
floor_greatest f (inf s) (fin u n d) t k h v l = rw (whole_inf f (ways TowardZero AwayFromZero) s) l
floor_greatest f (fin s m e) (fin u n d) t k h v l =
    le_of_values (fin u n d) (floor_of f (fin s m e)) t k 1 s (whole_size (ways TowardZero AwayFromZero s) (m * up e) (down e)) 1 (zero-lt-suc 0) (zero-lt-suc 0) v (floor_value f s m e h)
    (greatest_cross t k s (m * up e) (down e) (down_pos e) (cross_trans t k 1 u (n * up d) (down d) s (m * up e) (down e) (down_pos d) (same_value t k u (n * up d) (down d) v.0 v.1) (le→Le (fin u n d) (fin s m e) l)))
  where
    same_value : (t : Bool) (k : ℕ) (u : Bool) (b d : ℕ) → u ≡ t → b * 1 ≡ k * d → Cross t k 1 u b d
    same_value t k u b d i j = rw i (same_le t k 1 b d (sym j))

-- ---- nor one between x and its ceiling
least_cross : (s : Bool) (a c : ℕ) (t : Bool) (k : ℕ) → 0 < c → Cross s a c t k 1 → Cross s (whole_size (ways AwayFromZero TowardZero s) a c) 1 t k 1
least_cross false a c false k C h = let g = away_least a c k C (omega arith) in omega arith
least_cross false a c true k C h =
    let A : a ≡ 0 = zero_of a 1 k c (zero-lt-suc 0) (omega arith) in
    let K : k ≡ 0 = zero_of k c a 1 C (omega arith) in
    rw (A, K) (let z = size_zero AwayFromZero c C in omega arith)
least_cross true a c false k C h = omega arith
least_cross true a c true k C h = let g = toward_greatest a c k C (omega arith) in omega arith

pub ceil_least : (f : Format) (x y : Float) (t : Bool) (k : ℕ) → T (fits f x) → HasValue y t k 1 → T (le x y) → T (le (ceil_of f x) y)
ceil_least f x nan t k h v l = absurd v
ceil_least f x (inf u) t k h v l = absurd v
ceil_least f nan (fin u n d) t k h v l = absurd (le→Le nan (fin u n d) l)
ceil_least f (inf s) (fin u n d) t k h v l = rw (whole_inf f (ways AwayFromZero TowardZero) s) l
ceil_least f (fin s m e) (fin u n d) t k h v l =
    le_of_values (ceil_of f (fin s m e)) (fin u n d) s (whole_size (ways AwayFromZero TowardZero s) (m * up e) (down e)) 1 t k 1 (zero-lt-suc 0) (zero-lt-suc 0) (whole_value f (ways AwayFromZero TowardZero) s m e h) v
    (least_cross s (m * up e) (down e) t k (down_pos e) (cross_trans s (m * up e) (down e) u (n * up d) (down d) t k 1 (down_pos d) (le→Le (fin s m e) (fin u n d) l) (same_value t k u (n * up d) (down d) v.0 v.1)))
  where
    same_value : (t : Bool) (k : ℕ) (u : Bool) (b d : ℕ) → u ≡ t → b * 1 ≡ k * d → Cross u b d t k 1
    same_value t k u b d i j = rw i (same_le t b d k 1 j)

-- ---- the cast cuts a fraction off, so a floor before it changes nothing
pub cast_floor : (w : ℕ) (f : Format) (x : Float) → T (fits f x) → to_unsigned w (floor_of f x) ≡ to_unsigned w x
cast_floor w f nan h = ap (to_unsigned w) (whole_nan f (ways TowardZero AwayFromZero))
cast_floor w f (inf s) h = ap (to_unsigned w) (whole_inf f (ways TowardZero AwayFromZero) s)
cast_floor w f (fin true m e) h =
    cast_minus w (floor_of f (fin true m e)) (whole_size AwayFromZero (m * up e) (down e)) 1 (floor_value f true m e h) ∙ sym (cast_minus w (fin true m e) (m * up e) (down e) (refl, refl))
cast_floor w f (fin false m e) h =
    cast_value w (floor_of f (fin false m e)) (whole_size TowardZero (m * up e) (down e)) 1 (zero-lt-suc 0) (floor_value f false m e h)
    ∙ ap (λ (z : ℕ). min z (2 ^ w - 1)) (div-one (whole_size TowardZero (m * up e) (down e)) ∙ add-zero (m * up e / down e))
    ∙ sym (cast_value w (fin false m e) (m * up e) (down e) (down_pos e) (refl, refl))

-- ---- worked cases: the floors of 1.5, -1.5, 0.5, -0.5, -0 and 6
floor_1 : floor_of binary32 (fin false 3 (negsuc 0)) ≡ fin false 1 (pos 0)
unfolding whole_of
floor_1 = refl

floor_2 : floor_of binary32 (fin true 3 (negsuc 0)) ≡ fin true 1 (pos 1)
unfolding whole_of
floor_2 = refl

floor_3 : floor_of binary32 (fin false 1 (negsuc 0)) ≡ fin false 0 (pos 0)
unfolding whole_of
floor_3 = refl

floor_4 : floor_of binary32 (fin true 1 (negsuc 0)) ≡ fin true 1 (pos 0)
unfolding whole_of
floor_4 = refl

floor_5 : floor_of binary32 (fin true 0 (pos 0)) ≡ fin true 0 (pos 0)
unfolding whole_of
floor_5 = refl

floor_6 : floor_of binary32 (fin false 3 (pos 1)) ≡ fin false 3 (pos 1)
unfolding whole_of
floor_6 = refl
