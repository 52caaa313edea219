-- Lists moved up: how long they are, what stands where, and one move after another. Assumes nothing.
use Rattle.std.specs.Prelude.{◌≡◌, ℕ, zero, suc, ◌+◌, ◌*◌, ◌/◌, ◌%◌, ◌<◌, ◌≤◌, List, [], ◌∷◌, ◌++◌, length, take, slice_index, refl}
use Rattle.std.proofs.Common.{ap, ◌∙◌, add_assoc, zero-add, add-zero, add-suc, mul-suc, append-nil, append_assoc, length-append, get_or-append-add, drop-cons, take-add, take_all, arith}
use Rattle.std.proofs.Math.ListN.{get_or-append}
use Rattle.shape.specs.Gather.{gather}
use Rattle.shape.specs.Lists.{word_of}
use Rattle.shape.proofs.Laws.Gather.{gather_even, gather_at}
use Rattle.joining.specs.Join.{indices_up, span_up, spans_up}

-- ---- whole elements

pub threes : (n : ℕ) → n % 3 ≡ 0 → n ≡ 3 * (n / 3)
threes n e = omega arith

pub fives : (n : ℕ) → n % 5 ≡ 0 → n ≡ 5 * (n / 5)
fives n e = omega arith

pub add_threes : (n m : ℕ) → n % 3 ≡ 0 → (n + m) / 3 ≡ n / 3 + m / 3
add_threes n m e = omega arith

pub add_fives : (n m : ℕ) → n % 5 ≡ 0 → (n + m) / 5 ≡ n / 5 + m / 5
add_fives n m e = omega arith

-- ---- indices

pub indices_length : (v : ℕ) (is : List ℕ) → length (indices_up v is) ≡ length is
unfolding indices_up
indices_length v [] = refl
indices_length v (i ∷ is) = ap suc (indices_length v is)

pub indices_at : (v : ℕ) (is : List ℕ) (k : ℕ) → k < length is → slice_index (indices_up v is) k ≡ v + slice_index is k
unfolding indices_up
indices_at v [] k h = absurd (omega arith)
indices_at v (i ∷ is) zero h = refl
indices_at v (i ∷ is) (suc k) h = indices_at v is k (omega arith)

pub indices_append : (v : ℕ) (is js : List ℕ) → indices_up v (is ++ js) ≡ indices_up v is ++ indices_up v js
unfolding indices_up
indices_append v [] js = refl
indices_append v (i ∷ is) js = ap (λ (l : List ℕ). (v + i) ∷ l) (indices_append v is js)

pub indices_twice : (v w : ℕ) (is : List ℕ) → indices_up v (indices_up w is) ≡ indices_up (v + w) is
unfolding indices_up
indices_twice v w [] = refl
indices_twice v w (i ∷ is) = rw (indices_twice v w is, add_assoc v w i)

pub indices_still : (is : List ℕ) → indices_up 0 is ≡ is
unfolding indices_up
indices_still [] = refl
indices_still (i ∷ is) = rw (indices_still is, zero-add)

-- ---- spans

module _ (v i : ℕ) (ss : List ℕ) where
  pub spans_even : (n : ℕ) → length (gather (span_up v i ss) n) ≡ 5 * n
  unfolding span_up
  spans_even n = gather_even (span_up v i ss) 5 (λ k. refl) n

  pub spans_length : length (spans_up v i ss) ≡ 5 * (length ss / 5)
  unfolding spans_up
  spans_length = spans_even (length ss / 5)

  -- word j of span k
  pub span_word : (k j : ℕ) → k < length ss / 5 → j < 5 → word_of 5 (spans_up v i ss) k j ≡ slice_index (span_up v i ss k) j
  unfolding spans_up word_of span_up
  span_word k j h l =
      rw (← (spans_even k)) (gather_at (span_up v i ss) (length ss / 5) k j 0 h l)

-- ---- spans gathered: alike below n, and n and then m more

gather_alike : (f g : ℕ → List ℕ) (n : ℕ) → ((k : ℕ) → k < n → f k ≡ g k) → gather f n ≡ gather g n
unfolding gather
gather_alike f g zero e = refl
gather_alike f g (suc n) e = rw (gather_alike f g n (λ k h. e k (omega arith)), e n (omega arith))

gather_more : (f : ℕ → List ℕ) (n m : ℕ) → gather f (n + m) ≡ gather f n ++ gather (λ k. f (n + k)) m
unfolding gather
gather_more f n zero = rw (add-zero, append-nil)
gather_more f n (suc m) = rw (add-suc, gather_more f n m, append_assoc)

-- the same words, moved alike
span_same : (v i : ℕ) (ss tt : List ℕ) (k q : ℕ) → ((j : ℕ) → j < 5 → word_of 5 ss k j ≡ word_of 5 tt q j) → span_up v i ss k ≡ span_up v i tt q
unfolding span_up
span_same v i ss tt k q e = rw (e 0 (omega arith), e 1 (omega arith), e 2 (omega arith), e 3 (omega arith), e 4 (omega arith))

-- words of two lists of spans, one after the other
pub word_first : (ss tt : List ℕ) (k j : ℕ) → k < length ss / 5 → j < 5 → word_of 5 (ss ++ tt) k j ≡ word_of 5 ss k j
unfolding word_of
word_first ss tt k j h l = get_or-append ss tt 0 (5 * k + j) (omega arith)

pub word_second : (ss tt : List ℕ) (k j : ℕ) → length ss % 5 ≡ 0 → word_of 5 (ss ++ tt) (length ss / 5 + k) j ≡ word_of 5 tt k j
unfolding word_of
word_second ss tt k j e =
    let z : 5 * (length ss / 5 + k) + j ≡ length ss + (5 * k + j) = omega arith in
    rw (z, get_or-append-add ss tt (5 * k + j) 0)

pub spans_append : (v i : ℕ) (ss tt : List ℕ) → length ss % 5 ≡ 0 → spans_up v i (ss ++ tt) ≡ spans_up v i ss ++ spans_up v i tt
unfolding spans_up
spans_append v i ss tt e =
    let n = length ss / 5 in
    let m = length tt / 5 in
    let z : length (ss ++ tt) / 5 ≡ n + m = ap (λ (l : ℕ). l / 5) (length-append ss tt) ∙ add_fives (length ss) (length tt) e in
    rw (
      z,
      gather_more (span_up v i (ss ++ tt)) n m,
      gather_alike (span_up v i (ss ++ tt)) (span_up v i ss) n (λ k h. span_same v i (ss ++ tt) ss k k (λ j l. word_first ss tt k j h l)),
      gather_alike (λ k. span_up v i (ss ++ tt) (n + k)) (span_up v i tt) m (λ k h. span_same v i (ss ++ tt) tt (n + k) k (λ j l. word_second ss tt k j e)),
    )

span_twice : (v w i j : ℕ) (ss : List ℕ) (k : ℕ) → k < length ss / 5 → span_up v i (spans_up w j ss) k ≡ span_up (v + w) (i + j) ss k
unfolding span_up
span_twice v w i j ss k h =
    let word : (q : ℕ) → q < 5 → word_of 5 (spans_up w j ss) k q ≡ slice_index (span_up w j ss k) q = λ q l. span_word w j ss k q h l in
    rw (word 0 (omega arith), word 1 (omega arith), word 2 (omega arith), word 3 (omega arith), word 4 (omega arith))
    (simp add_assoc)

pub spans_twice : (v w i j : ℕ) (ss : List ℕ) → spans_up v i (spans_up w j ss) ≡ spans_up (v + w) (i + j) ss
unfolding spans_up
spans_twice v w i j ss =
    let z : length (spans_up w j ss) / 5 ≡ length ss / 5 = omega (arith, spans_length w j ss) in
    ap (gather (span_up v i (spans_up w j ss))) z ∙ gather_alike (span_up v i (spans_up w j ss)) (span_up (v + w) (i + j) ss) (length ss / 5) (span_twice v w i j ss)

-- the spans of a list in fives, unmoved
spans_taken : (ss : List ℕ) (n : ℕ) → 5 * n ≤ length ss → gather (span_up 0 0 ss) n ≡ take (5 * n) ss
unfolding gather span_up word_of
spans_taken ss zero h = refl
spans_taken ss (suc n) h =
    let m = 5 * n in
    let e₁ : m + 1 ≡ suc m = omega arith in
    let e₂ : m + 2 ≡ suc (suc m) = omega arith in
    let e₃ : m + 3 ≡ suc (suc (suc m)) = omega arith in
    let e₄ : m + 4 ≡ suc (suc (suc (suc m))) = omega arith in
    rw (
      mul-suc,
      take-add m 5 ss,
      spans_taken ss n (omega arith),
      drop-cons ss m 0 (omega arith),
      drop-cons ss (suc m) 0 (omega arith),
      drop-cons ss (suc (suc m)) 0 (omega arith),
      drop-cons ss (suc (suc (suc m))) 0 (omega arith),
      drop-cons ss (suc (suc (suc (suc m)))) 0 (omega arith),
    )
    (simp (zero-add, add-zero, e₁, e₂, e₃, e₄))

pub spans_still : (ss : List ℕ) → length ss % 5 ≡ 0 → spans_up 0 0 ss ≡ ss
unfolding spans_up
spans_still ss e =
    let z : length ss ≡ 5 * (length ss / 5) = fives (length ss) e in
    spans_taken ss (length ss / 5) (omega arith) ∙ take_all (5 * (length ss / 5)) ss (omega arith)
