-- What a fold depends on: on the numbers that count and their order alone, whatever its step and its start. So it is the same over all numbers below n and over a
-- rising run of them that names each that counts. Assumes nothing.
use Rattle.std.specs.Prelude.{◌≡◌, ℕ, zero, suc, ◌+◌, ◌<◌, Bool, true, false, cond, List, [], ◌∷◌, ◌++◌, ◌≢◌}
use Rattle.std.proofs.Math.Path.{refl, sym}
use Rattle.std.proofs.Common.{ap, ◌∙◌, add-zero, add-suc, arith}
use Rattle.std.proofs.Math.Decide.{dec_lt}
use Rattle.lookup.specs.Fold.{fold_of, counted_of}

-- ---- the numbers that count

-- all of a list, folded
fold_list : {B : Type 0} → (B → ℕ → B) → B → List ℕ → B
fold_list f b [] = b
fold_list f b (t ∷ ts) = fold_list f (f b t) ts

fold_append : {B : Type 0} (f : B → ℕ → B) (b : B) (xs ys : List ℕ) → fold_list f b (xs ++ ys) ≡ fold_list f (fold_list f b xs) ys
unfolding fold_list
fold_append f b [] ys = refl
fold_append f b (x ∷ xs) ys = fold_append f (f b x) xs ys

fold_counted : {B : Type 0} (c : ℕ → Bool) (f : B → ℕ → B) (start : B) (seq : ℕ → ℕ) (n : ℕ) → fold_of c f start seq n ≡ fold_list f start (counted_of c seq n)
unfolding fold_of counted_of fold_list
fold_counted c f start seq zero = refl
fold_counted c f start seq (suc n) =
    go (c (seq n)) (fold_counted c f start seq n)
    ∙ sym (fold_append f start (counted_of c seq n) (cond (c (seq n)) (seq n ∷ []) []))
  where
    go : (b : Bool) → fold_of c f start seq n ≡ fold_list f start (counted_of c seq n)
        → cond b (f (fold_of c f start seq n) (seq n)) (fold_of c f start seq n) ≡ fold_list f (fold_list f start (counted_of c seq n)) (cond b (seq n ∷ []) [])
    go true e = ap (λ b. f b (seq n)) e
    go false e = e

-- sequences of which the same numbers count, in the same order, have the same fold
pub same_counted : {B : Type 0} (c d : ℕ → Bool) (f : B → ℕ → B) (start : B) (p q : ℕ → ℕ) (m n : ℕ) → counted_of c p m ≡ counted_of d q n → fold_of c f start p m ≡ fold_of d f start q n
same_counted c d f start p q m n e = fold_counted c f start p m ∙ ap (fold_list f start) e ∙ sym (fold_counted d f start q n)

-- a fold over m + n numbers is that over the last n, started with that over the first m
pub fold_on : {B : Type 0} (c : ℕ → Bool) (f : B → ℕ → B) (start : B) (seq : ℕ → ℕ) (m n : ℕ) → fold_of c f start seq (m + n) ≡ fold_of c f (fold_of c f start seq m) (λ i. seq (m + i)) n
unfolding fold_of
fold_on c f start seq m zero = rw (add-zero m)
fold_on c f start seq m (suc n) = rw (add-suc m n, fold_on c f start seq m n)

-- and it is the same over sequences that agree below n
pub fold_same : {B : Type 0} (c : ℕ → Bool) (f : B → ℕ → B) (start : B) (p q : ℕ → ℕ) (n : ℕ) → ((k : ℕ) → k < n → p k ≡ q k) → fold_of c f start p n ≡ fold_of c f start q n
unfolding fold_of
fold_same c f start p q zero e = refl
fold_same c f start p q (suc n) e = rw (fold_same c f start p q n (λ k l. e k (omega arith)), e n (omega arith))

-- ---- a rising run

-- a run of `len` numbers below n that rises and names each number that counts
pub record Names (c : ℕ → Bool) (seq : ℕ → ℕ) (len n : ℕ) : Type 0 where
  pub rises : (p q : ℕ) → p < q → q < len → seq p < seq q
  pub below : (q : ℕ) → q < len → seq q < n
  pub names : (t : ℕ) → t < n → c t ≡ true → (q : ℕ) × (q < len) × (seq q ≡ t)

-- by the last number of the run: it is the last of all, or the last of all does not count
module _ {B : Type 0} (c : ℕ → Bool) (f : B → ℕ → B) (start : B) where
  abbrev of_all : ℕ → B
  of_all n = fold_of c f start (λ t. t) n

  abbrev of_run : (ℕ → ℕ) → ℕ → B
  of_run seq len = fold_of c f start seq len

  skip : (n : ℕ) (s : B) → (c n ≢ true) → cond (c n) (f s n) s ≡ s
  skip n s off = go (c n) refl
    where
      go : (b : Bool) → c n ≡ b → cond b (f s n) s ≡ s
      go true e = absurd (off e)
      go false e = refl

  take : (m n : ℕ) (seq : ℕ → ℕ) (s s' : B) → seq m ≡ n → s ≡ s' → cond (c (seq m)) (f s (seq m)) s ≡ cond (c n) (f s' n) s'
  take m n seq s s' e d = rw (e, d)

  pub same_fold : (n len : ℕ) (seq : ℕ → ℕ) → Names c seq len n → fold_of c f start seq len ≡ fold_of c f start (λ t. t) n
  unfolding fold_of
  same_fold zero zero seq k = refl
  same_fold zero (suc m) seq k = absurd (let z = k.below m (omega arith) in omega arith)
  same_fold (suc n) zero seq k =
      let none : c n ≡ true → ⊥ = λ e. (let q = k.names n (omega arith) e in omega (arith, q.1)) in
      let rest : Names c seq zero n = record { rises = k.rises; below = λ q l. absurd (omega arith); names = λ t l e. k.names t (omega arith) e } in
      same_fold n zero seq rest ∙ sym (skip n (of_all n) none)
  same_fold (suc n) (suc m) seq k = go (λ r. same_fold n (suc m) seq r) (λ r. same_fold n m seq r) (dec_lt (seq m) n)
    where
      last : seq m < suc n
      last = k.below m (omega arith)

      go : (Names c seq (suc m) n → of_run seq (suc m) ≡ of_all n) → (Names c seq m n → of_run seq m ≡ of_all n) → Dec (seq m < n)
          → of_run seq (suc m) ≡ cond (c n) (f (of_all n) n) (of_all n)
      go all_of most_of (yes l) =
          let all : (q : ℕ) → q < suc m → seq q < n = λ q b. upto q b (dec_lt q m) in
          let none : c n ≡ true → ⊥ = λ e. (let w = k.names n (omega arith) e in let z = all w.0 w.1 in omega (arith, w.2)) in
          let rest : Names c seq (suc m) n = record { rises = k.rises; below = all; names = λ t b e. k.names t (omega arith) e } in
          all_of rest ∙ sym (skip n (of_all n) none)
        where
          upto : (q : ℕ) → q < suc m → Dec (q < m) → seq q < n
          upto q b (yes d) = let z = k.rises q m d (omega arith) in omega arith
          upto q b (no d) = let e : q ≡ m = omega arith in rw e l
      go all_of most_of (no l) =
          let e : seq m ≡ n = omega (arith, last) in
          let rest : Names c seq m n =
          record {
            rises = λ p q d b. k.rises p q d (omega arith);
            below = λ q b. (let z = k.rises q m b (omega arith) in omega arith);
            names = λ t b d. before t b (k.names t (omega arith) d);
          } in
          take m n seq (of_run seq m) (of_all n) e (most_of rest)
        where
          before : (t : ℕ) → t < n → ((q : ℕ) × (q < suc m) × (seq q ≡ t)) → (q : ℕ) × (q < m) × (seq q ≡ t)
          before t b w = let z : w.0 < m = pick (dec_lt w.0 m) in (w.0, z, w.2)
            where
              pick : Dec (w.0 < m) → w.0 < m
              pick (yes d) = d
              pick (no d) =
                  let e : w.0 ≡ m = omega (arith, w.1) in
                  let s : seq w.0 ≡ seq m = ap seq e in
                  absurd (omega (arith, w.2))
