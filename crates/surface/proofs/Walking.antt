-- The steps of a walk along a template. Assumes nothing.
use Rattle.std.specs.Prelude.{◌≡◌, ℕ, suc, ◌+◌, ◌-◌, ◌*◌, ◌<◌, ◌≤◌, Bool, true, false, cond, List, [], ◌∷◌, eqb, length, drop, get_or, Some, None, Ok, Err, refl}
use Rattle.std.proofs.Common.{sym, ap, ◌∙◌, arith, zero-add, add-zero, suc-add, add-suc, add-one, drop_of_length-le, drop-cons, drop-drop, eq-eqb, ne_eqb, eqb-true}
use borrow.Author.Tests.{eqb-false}
use Rattle.surface.specs.Sentence.{Part, byte, count, bytes, Count, goes_on, read_from, Walk, stop, past_byte, past_count, walk}
use Rattle.surface.specs.SentenceSteps.{outcome, shift, walk_at, behind, digit_more, Counts}

-- a walk from the front
pub from_front : (t : List Part) (bs : List ℕ) → outcome (walk t bs) ≡ walk_at 0 t bs
unfolding walk_at
from_front t bs = ap (λ (k : ℕ). outcome (record { far = k; counts = (walk t bs).counts; ends = (walk t bs).ends })) (sym (zero-add (walk t bs).far))

-- ---- along a byte

-- the walk's outcome, by where it begins
outcome_past : (at : ℕ) (w : Walk) → outcome (shift at (past_byte w)) ≡ outcome (shift (suc at) w)
unfolding outcome
outcome_past at w = ap (λ (k : ℕ). cond w.ends (Ok w.counts) (Err k)) (add-suc at w.far ∙ sym (suc-add at w.far))

outcome_stop : (at : ℕ) → outcome (shift at stop) ≡ Err at
unfolding outcome
outcome_stop at = ap Err (add-zero at)

module _ (t : List Part) (bs : List ℕ) (at : ℕ) where
  pub byte_on : (c : ℕ) → at < length bs → get_or bs at 0 ≡ c → walk_at at (byte c ∷ t) bs ≡ walk_at (at + 1) t bs
  unfolding walk_at walk
  byte_on c h e = rw (drop-cons bs at 0 h, add-one at, eq-eqb (get_or bs at 0) c e) (outcome_past at (walk t (drop (suc at) bs)))

  pub byte_off : (c : ℕ) → at < length bs → (get_or bs at 0 ≡ c → ⊥) → walk_at at (byte c ∷ t) bs ≡ Err at
  unfolding walk_at walk
  byte_off c h e = rw (drop-cons bs at 0 h, ne_eqb (get_or bs at 0) c e) (outcome_stop at)

  pub byte_over : (c : ℕ) → length bs ≤ at → walk_at at (byte c ∷ t) bs ≡ Err at
  unfolding walk_at walk
  byte_over c h = rw (drop_of_length-le bs h) (outcome_stop at)

-- ---- along a word

module _ (t : List Part) (bs ws : List ℕ) (at k : ℕ) (h : k < length ws) where
  pub word_turn : at + k < length bs → get_or bs (at + k) 0 ≡ get_or ws k 0 → walk_at (at + k) (bytes (drop k ws) t) bs ≡ walk_at (at + (k + 1)) (bytes (drop (k + 1) ws) t) bs
  word_turn l e =
      let n : at + k + 1 ≡ at + suc k = omega arith in
      rw (drop-cons ws k 0 h, add-one k, ← n) (byte_on (bytes (drop (suc k) ws) t) bs (at + k) (get_or ws k 0) l e)

  pub word_differ : at + k < length bs → (get_or bs (at + k) 0 ≡ get_or ws k 0 → ⊥) → walk_at (at + k) (bytes (drop k ws) t) bs ≡ Err (at + k)
  word_differ l e = rw (drop-cons ws k 0 h) (byte_off (bytes (drop (suc k) ws) t) bs (at + k) (get_or ws k 0) l e)

  pub word_over : length bs ≤ at + k → walk_at (at + k) (bytes (drop k ws) t) bs ≡ Err (at + k)
  word_over l = rw (drop-cons ws k 0 h) (byte_over (bytes (drop (suc k) ws) t) bs (at + k) (get_or ws k 0) l)

pub word_done : (t : List Part) (bs ws : List ℕ) (at k : ℕ) → length ws ≤ k → walk_at at (bytes (drop k ws) t) bs ≡ walk_at at t bs
word_done t bs ws at k h = rw (drop_of_length-le ws h) refl

-- ---- the end

pub end_here : (bs : List ℕ) (at : ℕ) → length bs ≤ at → at ≤ length bs → walk_at at [] bs ≡ Ok []
unfolding walk_at walk outcome
end_here bs at h l = rw (drop_of_length-le bs h) refl

pub end_before : (bs : List ℕ) (at : ℕ) → at < length bs → walk_at at [] bs ≡ Err at
unfolding walk_at walk
end_before bs at h = rw (drop-cons bs at 0 h) (outcome_stop at)

-- ---- along a count

outcome_count : (at : ℕ) (c : Count) (w : Walk) → outcome (shift at (past_count c w)) ≡ behind (c.value ∷ []) (outcome (shift (at + c.used) w))
unfolding outcome behind
outcome_count at c w = go w.ends
  where
    go : (b : Bool) → cond b (Ok (c.value ∷ w.counts)) (Err (at + (c.used + w.far))) ≡ behind (c.value ∷ []) (cond b (Ok w.counts) (Err (at + c.used + w.far)))
    go true = refl
    go false = ap Err (let e : at + (c.used + w.far) ≡ at + c.used + w.far = omega arith in e)

module _ (t : List Part) (bs : List ℕ) (at end v : ℕ) (r : Counts bs at end v) where
  pub counted : (end ≡ at → ⊥) → walk_at at (count ∷ t) bs ≡ behind (v ∷ []) (walk_at end t bs)
  unfolding walk_at walk
  counted h =
      let l : at ≤ end = r.from in
      let z : eqb (end - at) 0 ≡ false = ne_eqb (end - at) 0 (λ q. h (omega arith)) in
      let m : at + (end - at) ≡ end = omega arith in
      rw (r.read, z, drop-drop (end - at) at bs, m) (rw m at (outcome_count at (record { used = end - at; value = v }) (walk t (drop end bs))))

  pub not_counted : end ≡ at → walk_at at (count ∷ t) bs ≡ Err at
  unfolding walk_at walk
  not_counted h =
      let z : eqb (end - at) 0 ≡ true = eq-eqb (end - at) 0 (omega arith) in
      rw (r.read, z) (outcome_stop at)

-- its digits: the reading at `end`, after those from `at` on
module _ (bs : List ℕ) (at end v : ℕ) where
  -- no digit was read before the first
  first_is : at ≤ end → eqb (end - at) 0 ≡ eqb end at
  first_is l = go (eqb end at) (eqb-true end at) (eqb-false end at)
    where
      go : (b : Bool) → (b ≡ true → end ≡ at) → (b ≡ false → end ≡ at → ⊥) → eqb (end - at) 0 ≡ b
      go true e d = eq-eqb (end - at) 0 (let q = e refl in omega arith)
      go false e d = ne_eqb (end - at) 0 (λ q. d refl (omega arith))

  module _ (l : at ≤ end) (h : end < length bs) where
    pub digit_on : (more : ℕ) → ((used : ℕ) → eqb used 0 ≡ eqb end at → Some more ≡ digit_more used v (get_or bs end 0))
        → read_from (drop end bs) (end - at) v ≡ read_from (drop (end + 1) bs) (end + 1 - at) more
    unfolding read_from digit_more
    digit_on more f = rw (drop-cons bs end 0 h, add-one end) (go (goes_on (end - at) v (get_or bs end 0)) (f (end - at) (first_is l)))
      where
        go : (b : Bool) → Some more ≡ cond b (Some (10 * v + (get_or bs end 0 - 48))) None
            → cond b (read_from (drop (suc end) bs) (suc (end - at)) (10 * v + (get_or bs end 0 - 48))) (record { used = end - at; value = v })
            ≡ read_from (drop (suc end) bs) (suc end - at) more
        go true e =
            let m : 10 * v + (get_or bs end 0 - 48) ≡ more = cc in
            let n : suc (end - at) ≡ suc end - at = omega arith in
            rw (m, n) refl
        go false e = absurd (let q = e in cc)

    pub digit_off : ((used : ℕ) → eqb used 0 ≡ eqb end at → None ≡ digit_more used v (get_or bs end 0)) → read_from (drop end bs) (end - at) v ≡ record { used = end - at; value = v }
    unfolding read_from digit_more
    digit_off f = rw (drop-cons bs end 0 h) (go (goes_on (end - at) v (get_or bs end 0)) (f (end - at) (first_is l)))
      where
        go : (b : Bool) → None ≡ cond b (Some (10 * v + (get_or bs end 0 - 48))) None
            → cond b (read_from (drop (suc end) bs) (suc (end - at)) (10 * v + (get_or bs end 0 - 48))) (record { used = end - at; value = v }) ≡ record { used = end - at; value = v }
        go true e = absurd (let q = e in cc)
        go false e = refl

  pub digit_over : length bs ≤ end → read_from (drop end bs) (end - at) v ≡ record { used = end - at; value = v }
  unfolding read_from
  digit_over h = rw (drop_of_length-le bs h) refl
