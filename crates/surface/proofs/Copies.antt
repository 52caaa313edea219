-- What `read` and `write` leave in the memory that is lent: all of the result, and then what stood there; and loops that fill it. Assumes nothing.
use Rattle.std.specs.Prelude.{◌≡◌, refl, ℕ, ◌+◌, ◌*◌, ◌≤◌, ◌<◌, List, ◌++◌, length, take, drop}
use Rattle.std.proofs.Common.{sym, ap, ◌∙◌, arith, add-zero, add-one, mul-zero, mul-suc, mul-le-mul_left, append_assoc}
use Rattle.std.proofs.lemmas.List.{drop_at, length-append, length-take-le}
use Rattle.std.proofs.lemmas.List.Edits.{sets, sets-eq}
use Rattle.std.proofs.Math.Seq.{take-append_seam}
use Rattle.shape.specs.Gather.{gather}
use Rattle.shape.specs.Memory.{Put}
use Rattle.shape.specs.Refusal.{Answer, taken, leaves}
use Rattle.shape.proofs.Laws.Memory.{sets_append, sets_front, put_none, put_then, put_turn, put_length}

pub leaves_put : {old new result : List ℕ} {n k : ℕ} {a : Answer ℕ} → taken k ≡ a → length result ≤ length old → Put old new 0 result n → new ≡ leaves a result old
unfolding leaves
leaves_put {old} {new} {result} t h p = rw (← t) (p.memory ∙ sets_front result old h)

module _ {A : Type 0} where
  -- as much put over what is put
  pub put_again : {m₀ m m' xs ys : List A} {at q q' : ℕ} → Put m₀ m at xs q → Put m m' at ys q' → length xs ≡ length ys → q ≤ length m₀ → Put m₀ m' at ys q'
  put_again {m₀} {m} {m'} {xs} {ys} {at} {q} p r e h =
      let here : at + length xs ≤ length m₀ = omega (arith, p.ends) in
      let there : at + length ys ≤ length m₀ = omega arith in
      let again : at + length ys ≤ length m = omega (arith, put_length p) in
      let is : m ≡ (take at m₀ ++ xs) ++ drop (at + length xs) m₀ = p.memory ∙ sets-eq xs m₀ at here in
      let long : length (take at m₀) ≡ at = length-take-le at m₀ (omega arith) in
      let front : take at m ≡ take at m₀ = ap (take at) (is ∙ append_assoc (take at m₀) xs (drop (at + length xs) m₀)) ∙ rw long at (take-append_seam (take at m₀) (xs ++ drop (at + length xs) m₀)) in
      let rest : drop (at + length ys) m ≡ drop (at + length ys) m₀ = rw (← e) (ap (drop (at + length xs)) is ∙ drop_at (take at m₀ ++ xs) (drop (at + length xs) m₀) (at + length xs) (rw (length-append, long) refl)) in
      record { memory = r.memory ∙ sets-eq ys m at again ∙ rw (front, rest) (sym (sets-eq ys m₀ at there)); ends = r.ends }

  -- and over the end of it alone
  pub put_end : {m m₁ m₂ xs : List A} {at place q q' : ℕ} (a b c : List A) → a ++ b ≡ xs → Put m m₁ at xs q → length b ≡ length c → q ≤ length m → place ≡ at + length a → Put m₁ m₂ place c q'
      → Put m m₂ at (a ++ c) q'
  put_end {m} {m₁} {m₂} {xs} {at} {place} {q} {q'} a b c j p e h o r =
      let first : Put m (sets m at a) at a place = record { memory = refl; ends = o } in
      let second : Put (sets m at a) m₁ place b q = record { memory = p.memory ∙ rw (← j, o) (sets_append a b m at); ends = omega (arith, p.ends, o, length-append a b, ap length j) } in
      put_then first (put_again second r e (omega (arith, put_length first)))

-- ---- what f gathers, w elements a turn, into lent memory from `at` on

-- so far the first k of them stand there, and the next goes to `next`
pub record Filled {A : Type 0} (f : ℕ → List A) (w : ℕ) (before after : List A) (at k next : ℕ) : Type 0 where
  pub put : Put before after at (gather f k) next
  pub ends : next ≡ at + w * k

module _ {A : Type 0} (f : ℕ → List A) (w : ℕ) where
  pub filled_none : (m : List A) (at : ℕ) → Filled f w m m at 0 at
  unfolding gather
  filled_none m at = record { put = put_none m at; ends = rw (mul-zero w) (sym (add-zero at)) }

  module _ {m₀ m : List A} {at k next : ℕ} (l : Filled f w m₀ m at k next) where
    -- there is room for one more
    pub filled_fits : (n : ℕ) → k < n → at + w * n ≤ length m₀ → next + w ≤ length m
    filled_fits n h room =
        let e : w * (k + 1) ≤ w * n = mul-le-mul_left w (omega arith) in
        let s : w * (k + 1) ≡ w * k + w = rw add-one (mul-suc w k) in
        omega (arith, l.ends, put_length l.put)

    -- one turn more; the next place is given as a number of elements
    pub filled_turn : {m' : List A} {next' n : ℕ} → length (f k) ≡ w → Put m m' next (f k) next' → n ≡ at + w * (k + 1) → Filled f w m₀ m' at (k + 1) n
    filled_turn {m'} {next'} {n} e p d =
        let s : w * (k + 1) ≡ w * k + w = rw add-one (mul-suc w k) in
        let t : next' ≡ n = omega (arith, l.ends, p.ends, e) in
        record { put = rw t at (put_turn f k l.put p); ends = d }

    pub filled_all : (n end : ℕ) → k ≡ n → end ≡ at + w * n → Put m₀ m at (gather f n) end
    filled_all n end e h = let s : next ≡ end = rw (h, ← e) l.ends in rw (s, e) at l.put
