-- Runs of stores: one after another, and read back from the front. Assumes nothing.
use Rattle.std.specs.Prelude.{◌≡◌, ℕ, suc, ◌+◌, ◌<◌, ◌≤◌, min, List, [], ◌∷◌, ◌++◌, length, take, drop, set, get_or, refl}
use Rattle.std.proofs.Common.{sym, ap, ◌∙◌, add-zero, add-one, zero-add, add-suc, suc-add, arith, length-append, append_assoc, append-nil, drop-drop, take_all}
use Rattle.std.proofs.lemmas.List.{drop_all}
use Rattle.std.proofs.lemmas.List.Edits.{sets, sets-eq, paste_more}
use borrow.Rule.Slice.PartMut.{put_mid}
use Rattle.std.proofs.Math.Seq.{length-sets, take-append_seam, take-suc}
use Rattle.shape.specs.Gather.{gather}
use Rattle.shape.specs.Memory.{Put}
use Rattle.shape.proofs.Laws.Gather.{gather_next}

module _ {ℓ} {A : Type ℓ} where
  pub sets_append : (xs ys m : List A) (i : ℕ) → sets m i (xs ++ ys) ≡ sets (sets m i xs) (i + length xs) ys
  sets_append [] ys m i = ap (λ (k : ℕ). sets m k ys) (sym (add-zero i))
  sets_append (x ∷ xs) ys m i =
      sets_append xs ys (set m i x) (suc i)
      ∙ ap (λ (k : ℕ). sets (sets (set m i x) (suc i) xs) k ys) (suc-add i (length xs) ∙ sym (add-suc i (length xs)))

  -- from the front: what is put, and then what was there
  pub sets_front : (xs m : List A) → length xs ≤ length m → sets m 0 xs ≡ xs ++ drop (length xs) m
  sets_front xs m h = sets-eq xs m 0 (rw zero-add h) ∙ rw zero-add

  pub take_sets_front : (xs m : List A) → length xs ≤ length m → take (length xs) (sets m 0 xs) ≡ xs
  take_sets_front xs m h = rw (sets_front xs m h) (take-append_seam xs (drop (length xs) m))

module _ {A : Type 0} where
  pub put_none : (m : List A) (at : ℕ) → Put m m at [] at
  put_none m at = record { memory = refl; ends = sym (add-zero at) }

  pub put_then : {m₀ m m' xs ys : List A} {at q q' : ℕ} → Put m₀ m at xs q → Put m m' q ys q' → Put m₀ m' at (xs ++ ys) q'
  put_then {m₀} {m} {m'} {xs} {ys} {at} {q} {q'} p r =
      record {
        memory = rw (sets_append, ← p.memory, ← p.ends) r.memory;
        ends = rw length-append (omega (arith, p.ends, r.ends));
      }

  pub put_length : {m₀ m xs : List A} {at q : ℕ} → Put m₀ m at xs q → length m ≡ length m₀
  put_length {m₀} {m} {xs} {at} p = ap length p.memory ∙ length-sets m₀ at xs

  pub put_one : (m : List A) (at : ℕ) (a : A) → Put m (set m at a) at (a ∷ []) (at + 1)
  put_one m at a = record { memory = refl; ends = refl }

  -- one element more of a list that is put
  pub put_element : (xs m₀ m : List A) (at i : ℕ) (d : A) → i < length xs → Put m₀ m at (take i xs) (at + i)
      → Put m₀ (set m (at + i) (get_or xs i d)) at (take (i + 1) xs) (at + (i + 1))
  put_element xs m₀ m at i d h p =
      let e : at + (i + 1) ≡ at + i + 1 = omega arith in
      rw (e, add-one i, take-suc xs i d h) (put_then p (put_one m (at + i) (get_or xs i d)))

  -- a list copied over others is put
  pub put_over : (out : List A) (at k : ℕ) {xs ys : List A} {next : ℕ} → ys ≡ xs → k ≡ length xs → next ≡ at + length xs → at + length xs ≤ length out
      → Put out (put_mid at k out ys) at xs next
  put_over out at k {xs} e n p h =
      record { memory = rw (e, n, drop-drop) (sym (sets-eq xs out at h ∙ append_assoc (take at out) xs (drop (at + length xs) out))); ends = p }

  -- ---- a list copied to the front, one by one

  -- one element more
  pub copied_more : (xs out now : List A) (i : ℕ) (x d : A) → now ≡ take i xs ++ drop i out → x ≡ get_or xs i d → i < length xs → i < length out
      → set now i x ≡ take (i + 1) xs ++ drop (i + 1) out
  copied_more xs out now i x d e r h k = rw (e, r) (rw (zero-add i, zero-add (i + 1)) at (paste_more out 0 xs i d (omega arith) h))

  -- over as many others: all of it, and nothing of them
  pub copied : (xs out : List A) (n : ℕ) → n ≡ min (length xs) (length out) → length out ≡ length xs → take n xs ++ drop n out ≡ xs
  copied xs out n e h = rw (take_all n xs (omega (arith, e, h)), drop_all n out (omega (arith, e, h))) (append-nil xs)

  -- one turn of a loop that puts what f gathers
  pub put_turn : (f : ℕ → List A) (i : ℕ) {m₀ m m' : List A} {at q q' : ℕ} → Put m₀ m at (gather f i) q → Put m m' q (f i) q'
      → Put m₀ m' at (gather f (i + 1)) q'
  put_turn f i p r = rw (gather_next f i) (put_then p r)

  -- what was put at the front is read back
  pub put_front : {m₀ m xs : List A} {n : ℕ} → Put m₀ m 0 xs n → n ≤ length m₀ → take n m ≡ xs
  put_front {m₀} {m} {xs} {n} p h =
      let e : n ≡ length xs = p.ends ∙ zero-add (length xs) in
      let k : length xs ≤ length m₀ = omega arith in
      rw (e, p.memory) (take_sets_front xs m₀ k)
