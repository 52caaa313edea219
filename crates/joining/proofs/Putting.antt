-- One list after another at the front of the memory. Assumes nothing.
use Rattle.std.specs.Prelude.{◌≡◌, ℕ, ◌+◌, ◌≤◌, List, ◌++◌, length, drop}
use Rattle.std.proofs.Common.{sym, ◌∙◌, refl, zero-add, arith}
use borrow.Rule.Slice.PartMut.{put_mid}
use Rattle.shape.specs.Memory.{Put}
use Rattle.shape.proofs.Laws.Memory.{sets_front, put_then, put_length, put_over}

module _ {A : Type 0} where
  -- a list copied to the front
  pub front_put : (out : List A) {xs ys : List A} {n : ℕ} → ys ≡ xs → n ≡ length xs → length xs ≤ length out → Put out (ys ++ drop n out) 0 xs n
  front_put out {xs} e k h = record { memory = rw (e, k) (sym (sets_front xs out h)); ends = k ∙ sym (zero-add (length xs)) }

  -- and another one copied behind it
  pub behind_put : {out m xs ys zs : List A} {n k : ℕ} → Put out m 0 xs n → zs ≡ ys → k ≡ length ys → n + length ys ≤ length out
      → Put out (put_mid n k m zs) 0 (xs ++ ys) (n + length ys)
  behind_put {out} {m} {xs} {ys} {zs} {n} {k} p e l h = put_then p (put_over m n k e l refl (omega (arith, put_length p)))
