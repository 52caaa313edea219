-- What was read into a buffer is the front of the input: all of it where the buffer was not filled. Assumes nothing.
use Rattle.std.proofs.Common.{◌≡◌, ℕ, ◌≤◌, ◌<◌, List, [], ◌++◌, Option, None, Some, IfSome, Result, Ok, Err, inl, inr, arith, length, take, sym, ap, ◌∙◌, subst, length-take-le, append-nil, take_all}
use Rattle.std.proofs.lemmas.List.{take-append-le}
use Rattle.std.proofs.lemmas.Bool.{cases_lt}
use Rattle.std.specs.Result.{MatchResult, IsErrAnd, IfOk, OnOk}
use Rattle.std.specs.Io.KnownBytes.{Consumes, IsAtEnd}

module _ (room : ℕ) (bs : List ℕ) (n : ℕ) (size : length bs ≡ room) (within : n ≤ length bs) where
  long : length (take n bs) ≡ n
  long = length-take-le n bs within

  filled : (xs ys : List ℕ) → xs ≡ take n bs ++ ys → room ≤ n → take room xs ≡ take n bs
  filled xs ys e full =
      let same : room ≡ n = omega arith in
      ap (take room) e ∙ take-append-le room (take n bs) ys (omega (arith, long)) ∙ take_all room (take n bs) (omega (arith, long))

  whole : (xs ys : List ℕ) → xs ≡ take n bs ++ ys → ys ≡ [] → take room xs ≡ take n bs
  whole xs ys e end =
      let all : xs ≡ take n bs = e ∙ ap (λ l. take n bs ++ l) end ∙ append-nil (take n bs) in
      ap (take room) all ∙ take_all room (take n bs) (omega (arith, long))

  front : (xs ys : List ℕ) → xs ≡ take n bs ++ ys → (n < length bs → ys ≡ []) → take room xs ≡ take n bs
  front xs ys e end =
      elim (cases_lt n room) [ inl lt ↦ whole xs ys e (end (omega arith)) | inr ge ↦ filled xs ys e ge ]

  -- what holds of the text of the bytes that were read holds of that of the input's front
  pub at_front : (a b : Option (List ℕ)) (P : List ℕ → Type 0) → Consumes a b (take n bs) → (n < length bs → IsAtEnd b) → P (take n bs) → IfSome a (λ xs. P (take room xs))
  at_front None b P taken end h = tt
  at_front (Some xs) None P taken end h = absurd taken
  at_front (Some xs) (Some ys) P taken end h = subst P (sym (front xs ys taken end)) h

-- the front of the memory is the text
pub text_front : (made rest text : List ℕ) (m : ℕ) → m ≡ length made → text ≡ made ++ rest → take m text ≡ made
text_front made rest text m e f =
    ap (take m) f ∙ take-append-le m made rest (omega arith) ∙ take_all m made (omega arith)

-- a result with another error: its value is that of the first, and what holds where there is one still holds
module _ {T E D : Type 0} (Q : E → D → Type 0) where
  abbrev value : T → Result T D → T
  value x (Ok y) = y
  value x (Err e) = x

  pub of_value : (first : Result T E) (then : Result T D) (n : T) (P : T → Type 0) → MatchResult first (λ x. then ≡ Ok x) (λ e. IsErrAnd then (Q e)) → then ≡ Ok n → IfOk first P → P n
  of_value (Ok x) then n P m w h = subst P (ap (value x) (sym m ∙ w)) h
  of_value (Err e) then n P m w h = absurd (subst (λ r. IsErrAnd r (Q e)) w m)

  pub on_ok : (first : Result T E) (then : Result T D) (A B : Type 0) → (A → B) → MatchResult first (λ x. then ≡ Ok x) (λ e. IsErrAnd then (Q e)) → OnOk first A → OnOk then B
  on_ok (Ok x) then A B f m h = subst (λ r. OnOk r B) (sym m) (f h)
  on_ok (Err e) (Ok y) A B f m h = absurd m
  on_ok (Err e) (Err d) A B f m h = tt
