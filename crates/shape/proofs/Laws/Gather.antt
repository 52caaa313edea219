-- Gathering below one number more, how much is gathered and where it stands, a test that holds nowhere, and the first that it holds of. Assumes nothing.
use Rattle.std.specs.Prelude.{◌≡◌, ℕ, zero, suc, ◌+◌, ◌*◌, ◌<◌, ◌≤◌, Bool, true, false, cond, ◌||◌, ◌⊎◌, List, ◌++◌, length, get_or, refl}
use Rattle.std.proofs.Math.Path.{sym}
use Rattle.std.proofs.Common.{ap, ◌∙◌, inl, inr, mul-suc, mul-zero, mul-add, get_or-append-add}
use Rattle.std.proofs.Math.Logic.{⊎_elim}
use Rattle.std.proofs.Math.Decide.{dec_lt}
use Rattle.std.proofs.Math.Numerals.{add-one}
use native.Mathlib.Omega.{arith}
use Rattle.std.proofs.Math.ListN.{length-append, get_or-append}
use Rattle.shape.specs.Gather.{gather, any, least}

below : (i n : ℕ) → i < suc n → (i < n) ⊎ (n ≡ i)
below i n h = elim (dec_lt i n) [ yes p ↦ inl p | no p ↦ inr (omega arith) ]

module _ {ℓ} {A : Type ℓ} (f : ℕ → List A) where
  pub gather_next : (i : ℕ) → gather f (i + 1) ≡ gather f i ++ f i
  unfolding gather
  gather_next i = rw add-one

  pub gather_fits : (i n : ℕ) → i < n → length (gather f i) + length (f i) ≤ length (gather f n)
  unfolding gather
  gather_fits i zero h = absurd (omega arith)
  gather_fits i (suc n) h = rw length-append (⊎_elim (λ p. omega (arith, gather_fits i n p)) (λ e. rw (← e) (omega arith)) (below i n h))

  pub gather_even : (k : ℕ) → ((i : ℕ) → length (f i) ≡ k) → (n : ℕ) → length (gather f n) ≡ k * n
  unfolding gather
  gather_even k e zero = sym (mul-zero k)
  gather_even k e (suc n) = rw (length-append, e, gather_even k e n, mul-suc)

  pub gather_most : (k : ℕ) → ((i : ℕ) → length (f i) ≤ k) → (n : ℕ) → length (gather f n) ≤ k * n
  unfolding gather
  gather_most k e zero = omega arith
  gather_most k e (suc n) = rw (length-append, mul-suc) (omega (arith, gather_most k e n, e n))

  -- element t of what f makes of k, where it stands among all
  pub gather_at : (n k t : ℕ) (d : A) → k < n → t < length (f k) → get_or (gather f n) (length (gather f k) + t) d ≡ get_or (f k) t d
  unfolding gather
  gather_at zero k t d h p = absurd (omega arith)
  gather_at (suc n) k t d h p =
      ⊎_elim
      (λ q.
      let e : length (gather f k) + t < length (gather f n) = omega (arith, gather_fits k n q) in
      get_or-append (gather f n) (f n) d (length (gather f k) + t) e ∙ gather_at n k t d q p)
      (λ q. rw q (get_or-append-add (gather f k) (f k) t d)) (below k n h)

-- as much is gathered where each gives as much
pub gather_same {ℓ κ} : {A : Type ℓ} {B : Type κ} (f : ℕ → List A) (h : ℕ → List B) → ((i : ℕ) → length (f i) ≡ length (h i)) → (n : ℕ)
    → length (gather f n) ≡ length (gather h n)
unfolding gather
gather_same f h e zero = refl
gather_same f h e (suc n) = rw (length-append, length-append, gather_same f h e n, e n)

-- which number an element of what is gathered comes from
pub record Owner {ℓ} {A : Type ℓ} (f : ℕ → List A) (n t : ℕ) : Type 0 where
  pub owner : ℕ
  pub below_n : owner < n
  pub from : length (gather f owner) ≤ t
  pub to : t < length (gather f owner) + length (f owner)

pub gather_owner {ℓ} : {A : Type ℓ} (f : ℕ → List A) (n t : ℕ) → t < length (gather f n) → Owner f n t
unfolding gather
gather_owner f zero t h = absurd (omega arith)
gather_owner f (suc n) t h =
    elim (dec_lt t (length (gather f n))) [
      | yes p ↦ let o = gather_owner f n t p in record { owner = o.owner; below_n = omega (arith, o.below_n); from = o.from; to = o.to }
      | no p ↦ record { owner = n; below_n = omega arith; from = omega arith; to = omega (arith, simp length-append at h) }
    ]

-- multiples
pub record Multiple (m n : ℕ) : Type 0 where
  pub times : ℕ
  pub is : n ≡ m * times

pub gather_multiple {ℓ} : {A : Type ℓ} (f : ℕ → List A) (m : ℕ) → ((i : ℕ) → Multiple m (length (f i))) → (n : ℕ) → Multiple m (length (gather f n))
unfolding gather
gather_multiple f m h zero = record { times = 0; is = sym (mul-zero m) }
gather_multiple f m h (suc n) =
    let a = gather_multiple f m h n in
    let b = h n in
    record { times = a.times + b.times; is = rw (length-append, a.is, b.is, mul-add) }

-- an alternative that fails, fails on both sides
pub or_left : (a b : Bool) → (a || b) ≡ false → a ≡ false
or_left false b h = refl
or_left true b h = h

pub or_right : (a b : Bool) → (a || b) ≡ false → b ≡ false
or_right false b h = h
or_right true b h = absurd (let z : ◌≡◌ {A = ℕ} 0 1 = cc in omega arith)

pub any_next : (f : ℕ → Bool) (i : ℕ) → any f (i + 1) ≡ (any f i || f i)
unfolding any
any_next f i = rw add-one

pub any_none : (f : ℕ → Bool) (i n : ℕ) → i < n → any f n ≡ false → f i ≡ false
unfolding any
any_none f i zero h e = absurd (omega arith)
any_none f i (suc n) h e =
    ⊎_elim (λ p. any_none f i n p (or_left (any f n) (f n) e)) (λ p. rw p at (or_right (any f n) (f n) e)) (below i n h)

-- ---- the first of which a test holds

or_some : (a b : Bool) → a ≡ true → (a || b) ≡ true
or_some a b e = rw e

or_more : (a b : Bool) → b ≡ true → (a || b) ≡ true
or_more true b e = refl
or_more false b e = e

pub any_some : (f : ℕ → Bool) (i n : ℕ) → i < n → f i ≡ true → any f n ≡ true
unfolding any
any_some f i zero h e = absurd (omega arith)
any_some f i (suc n) h e =
    elim (dec_lt i n) [
      | yes p ↦ or_some (any f n) (f n) (any_some f i n p e)
      | no p ↦ (let s : i ≡ n = omega arith in or_more (any f n) (f n) (rw s at e))
    ]

pub least_at : (f : ℕ → Bool) (n k : ℕ) → k < n → ((j : ℕ) → j < k → f j ≡ false) → f k ≡ true → k ≡ least f n
unfolding least
least_at f zero k h none e = absurd (omega arith)
least_at f (suc n) zero h none e = rw e
least_at f (suc n) (suc k) h none e =
    rw (none 0 (omega arith)) (ap suc (least_at (λ j. f (suc j)) n k (omega arith) (λ j l. none (suc j) (omega arith)) e))

pub least_none : (f : ℕ → Bool) (n : ℕ) → ((j : ℕ) → j < n → f j ≡ false) → n ≡ least f n
unfolding least
least_none f zero none = refl
least_none f (suc n) none = rw (none 0 (omega arith)) (ap suc (least_none (λ j. f (suc j)) n (λ j l. none (suc j) (omega arith))))

pub least_le : (f : ℕ → Bool) (n : ℕ) → least f n ≤ n
unfolding least
least_le f zero = omega arith
least_le f (suc n) = go (f 0) (least (λ k. f (suc k)) n) (least_le (λ k. f (suc k)) n)
  where
    go : (b : Bool) (k : ℕ) → k ≤ n → cond b 0 (suc k) ≤ suc n
    go true k h = omega arith
    go false k h = omega arith

-- the first that a test holds of, as a scan finds it: of none before, and of it; or of none at all
pub least_found : (f : ℕ → Bool) (n k : ℕ) → any f k ≡ false → k < n → f k ≡ true → k ≡ least f n
least_found f n k e h t = least_at f n k h (λ j l. any_none f j k l e) t

pub least_past : (f : ℕ → Bool) (n : ℕ) → any f n ≡ false → n ≡ least f n
least_past f n e = least_none f n (λ j l. any_none f j n l e)
