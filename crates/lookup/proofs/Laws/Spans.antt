-- Which span the lane of a triangle is read from. Assumes nothing.
use Rattle.std.specs.Prelude.{◌≡◌, ℕ, zero, suc, ◌*◌, ◌/◌, ◌<◌, ◌≤◌, false, List, length, nat_lt, Some, None}
use Rattle.std.proofs.Common.{sym, arith, le_refl}
use Rattle.std.proofs.Math.Decide.{dec_lt}
use borrow.Author.Tests.{lt-ltb, le-ltb, le-leb, lt-leb}
use Rattle.shape.specs.Gather.{any}
use Rattle.shape.proofs.Laws.Gather.{least_at, least_none}
use Rattle.shape.specs.Lists.{word_of, start_of, end_of, last_end, run_bad}
use Rattle.shape.proofs.Laws.Lists.{sound}
use Rattle.lookup.specs.Sampler.{EndsRise, past_of, lane_of}

-- where no run of indices is ragged, their ends rise
pub ends_rise : (ss : List ℕ) (len n : ℕ) → any (run_bad 5 3 ss len) n ≡ false → EndsRise ss n
unfolding last_end
ends_rise ss len n e j zero h l = let z : j ≡ 0 = omega arith in rw z (le_refl _)
ends_rise ss len n e j (suc k) h l = go (dec_lt j (suc k)) (λ b. ends_rise ss len n e j k (omega arith) (omega arith))
  where
    go : Dec (j < suc k) → (j < suc k → end_of 5 3 ss j ≤ end_of 5 3 ss k) → end_of 5 3 ss j ≤ end_of 5 3 ss (suc k)
    go (yes b) r = let s = sound 5 3 ss len n (suc k) l e in omega (arith, r b, s.order, s.after)
    go (no b) r = let z : j ≡ suc k = omega arith in rw z (le_refl _)

-- span q is the first that ends past i, or there is none and q is n
pub past_is : (ss : List ℕ) (i n q : ℕ) → q ≤ n → ((j : ℕ) → j < q → end_of 5 3 ss j ≤ i) → (q < n → i < end_of 5 3 ss q) → past_of ss i n ≡ q
unfolding past_of
past_is ss i n q l b p = go (dec_lt q n)
  where
    go : Dec (q < n) → past_of ss i n ≡ q
    go (yes h) = sym (least_at (λ k. nat_lt i (end_of 5 3 ss k)) n q h (λ j m. le-ltb i (end_of 5 3 ss j) (b j m)) (lt-ltb i (end_of 5 3 ss q) (p h)))
    go (no h) =
        let z : q ≡ n = omega arith in
        rw z (sym (least_none (λ k. nat_lt i (end_of 5 3 ss k)) n (λ j m. le-ltb i (end_of 5 3 ss j) (b j (omega arith)))))

module _ (ss : List ℕ) (t k : ℕ) (q : k ≡ past_of ss (3 * t) (length ss / 5)) where
  pub lane_of_span : k < length ss / 5 → start_of 5 3 ss k ≤ 3 * t → Some (word_of 5 ss k 0) ≡ lane_of ss t
  unfolding lane_of
  lane_of_span l s = rw (← q) (simp (lt-ltb k (length ss / 5) l, le-leb (start_of 5 3 ss k) (3 * t) s))

  pub lane_before : k < length ss / 5 → 3 * t < start_of 5 3 ss k → None ≡ lane_of ss t
  unfolding lane_of
  lane_before l s = rw (← q) (simp (lt-ltb k (length ss / 5) l, lt-leb (start_of 5 3 ss k) (3 * t) s))

  pub lane_past : length ss / 5 ≤ k → None ≡ lane_of ss t
  unfolding lane_of
  lane_past l = rw (← q) (simp (le-ltb k (length ss / 5) l))
