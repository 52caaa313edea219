-- How long a line is, and can be. Assumes nothing.
use Rattle.std.specs.Prelude.{◌≡◌, refl, Bool, true, false, cond, List, [], ◌∷◌, ◌++◌, ℕ, zero, suc, ◌+◌, ◌*◌, ◌/◌, ◌%◌, ◌^◌, ◌≤◌, ◌<◌, max, ltb, Float, length, Option, Some, None}
use Rattle.std.proofs.Common.{ap, arith, pow-suc, lt-ltb, le-ltb, length-append}
use Rattle.vector.specs.declared.coords.Vector.{Vector}
use Rattle.surface.specs.Text.{digit, digits_of, hexadecimal, normal_text, lane_text, found_line, none_line, asked_line, refused_line}

pub digits_few : (k n : ℕ) → length (digits_of k n) ≤ suc k
unfolding digits_of
digits_few zero n = omega arith
digits_few (suc k) n = go (ltb n 10) (digits_few k (n / 10))
  where
    go : (b : Bool) → length (digits_of k (n / 10)) ≤ suc k → length (cond b (digit n ∷ []) (digits_of k (n / 10) ++ digit (n % 10) ∷ [])) ≤ suc (suc k)
    go true h = omega arith
    go false h = rw length-append (omega arith)

pub digits_some : (k n : ℕ) → 0 < length (digits_of k n)
unfolding digits_of
digits_some zero n = omega arith
digits_some (suc k) n = go (ltb n 10)
  where
    go : (b : Bool) → 0 < length (cond b (digit n ∷ []) (digits_of k (n / 10) ++ digit (n % 10) ∷ []))
    go true = omega arith
    go false = rw length-append (omega arith)

pub hex_eight : (w : ℕ) → length (hexadecimal w) ≡ 8
unfolding hexadecimal
hex_eight w = refl

lane_few : (lane : Option ℕ) → length (lane_text lane) ≤ 16
unfolding lane_text
lane_few None = omega arith
lane_few (Some id) = omega (arith, digits_few 9 id)

normal_few : (n : Vector) → length (normal_text n) ≤ 34
unfolding normal_text hexadecimal
normal_few n = omega arith

pub found_few : (k : ℕ) (h : Float) (n : Vector) (t : ℕ) (lane : Option ℕ) → length (found_line k h n t lane) ≤ 100
unfolding found_line hexadecimal
found_few k h n t lane = simp length-append (omega (arith, digits_few 9 k, digits_few 9 t, normal_few n, lane_few lane))

pub none_few : (k : ℕ) → length (none_line k) ≤ 100
unfolding none_line
none_few k = simp length-append (omega (arith, digits_few 9 k))

pub asked_few : (n m : ℕ) → length (asked_line n m) ≤ 34
unfolding asked_line
asked_few n m = simp length-append (omega (arith, digits_few 9 n, digits_few 9 m))

pub refused_few : (n p : ℕ) → length (refused_line n p) ≤ 34
unfolding refused_line
refused_few n p = simp length-append (omega (arith, digits_few 9 n, digits_few 9 p))

-- ---- how long they are

-- a number that has room in k digits is the same in one more
pub digits_same : (k n : ℕ) → n < 10 ^ suc k → digits_of (suc k) n ≡ digits_of k n
unfolding digits_of
digits_same zero n h = let e : 10 ^ suc zero ≡ 10 = refl in rw (lt-ltb n 10 (omega arith))
digits_same (suc k) n h =
    let e : 10 ^ suc (suc k) ≡ 10 ^ suc k * 10 = pow-suc 10 (suc k) in
    let b : n / 10 < 10 ^ suc k = omega arith in
    ap (λ (xs : List ℕ). cond (ltb n 10) (digit n ∷ []) (xs ++ digit (n % 10) ∷ [])) (digits_same k (n / 10) b)

-- a number below ten is one digit
pub digits_one : (k n : ℕ) → n < 10 → digit n ∷ [] ≡ digits_of k n
unfolding digits_of
digits_one zero n h = refl
digits_one (suc k) n h = rw (lt-ltb n 10 h)

-- a number that has two digits or more is what comes before its last digit, and that
pub digits_more : (k n : ℕ) → 10 ≤ n → digits_of (suc k) n ≡ digits_of k (n / 10) ++ digit (n % 10) ∷ []
unfolding digits_of
digits_more k n h = rw (le-ltb n 10 h)

-- the length of a number in decimal: one digit, and one more than without the last
pub decimal_one : (n : ℕ) → n < 10 → length (digits_of 9 n) ≡ 1
unfolding digits_of
decimal_one n h = rw (lt-ltb n 10 h)

last : (n : ℕ) → 10 ≤ n → length (digits_of 9 n) ≡ length (digits_of 8 (n / 10)) + 1
unfolding digits_of
last n h = rw (le-ltb n 10 h) (rw length-append)

pub decimal_more : (n : ℕ) → 10 ≤ n → n < 10 ^ 10 → length (digits_of 9 n) ≡ length (digits_of 9 (n / 10)) + 1
decimal_more n h l =
    let b : n / 10 < 10 ^ 9 = omega arith in
    rw (digits_same 8 (n / 10) b) (last n h)

ten_pos : (d : ℕ) → 0 < 10 ^ d
ten_pos zero = omega arith
ten_pos (suc d) = let f : 10 ^ suc d ≡ 10 ^ d * 10 = pow-suc 10 d in omega (arith, ten_pos d)

-- a number from a power of ten up to the next has that many digits
pub digits_long : (k d n : ℕ) → d ≤ k → 10 ^ d ≤ max n 1 → n < 10 * 10 ^ d → length (digits_of k n) ≡ suc d
unfolding digits_of
digits_long zero zero n h l u = refl
digits_long zero (suc d) n h l u = absurd (omega arith)
digits_long (suc k) zero n h l u = let e : 10 ^ zero ≡ 1 = refl in rw (lt-ltb n 10 (omega arith))
digits_long (suc k) (suc d) n h l u =
    let f : 10 ^ suc d ≡ 10 ^ d * 10 = pow-suc 10 d in
    let p : 0 < 10 ^ d = ten_pos d in
    let g : length (digits_of k (n / 10)) ≡ suc d = digits_long k d (n / 10) (omega arith) (omega arith) (omega arith) in
    rw (le-ltb n 10 (omega arith)) (rw (length-append, g) (omega arith))

pub lane_none_size : length (lane_text None) ≡ 7
unfolding lane_text
lane_none_size = refl

pub lane_some_size : (id : ℕ) → length (lane_text (Some id)) ≡ 6 + length (digits_of 9 id)
unfolding lane_text
lane_some_size id = omega arith

normal_size : (n : Vector) → length (normal_text n) ≡ 34
unfolding normal_text hexadecimal
normal_size n = refl

pub found_size : (k : ℕ) (h : Float) (n : Vector) (t : ℕ) (lane : Option ℕ) → length (found_line k h n t lane) ≡ 64 + length (digits_of 9 k) + length (digits_of 9 t) + length (lane_text lane)
unfolding found_line hexadecimal
found_size k h n t lane = simp length-append (omega (arith, normal_size n))

pub none_size : (k : ℕ) → length (none_line k) ≡ 9 + length (digits_of 9 k)
unfolding none_line
none_size k = simp length-append (omega arith)

pub asked_size : (n m : ℕ) → length (asked_line n m) ≡ 14 + length (digits_of 9 n) + length (digits_of 9 m)
unfolding asked_line
asked_size n m = simp length-append (omega arith)

pub refused_size : (n p : ℕ) → length (refused_line n p) ≡ 13 + length (digits_of 9 n) + length (digits_of 9 p)
unfolding refused_line
refused_size n p = simp length-append (omega arith)
