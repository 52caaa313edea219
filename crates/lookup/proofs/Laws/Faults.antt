-- The faults that are found where an index is consulted: what holds of number 4 with every place that fits a word of 32 bits holds of each of them.
-- Assumes nothing.
use Rattle.std.specs.Prelude.{◌≡◌, ℕ, zero, suc, ◌+◌, ◌-◌, ◌*◌, ◌<◌, ◌≤◌, Bool, true, false, cond, not, ◌&&◌, List, length, ◌==◌, ◌≢◌, nat_le, nat_lt, Float}
use Rattle.std.proofs.Math.Path.{refl}
use native.Mathlib.Omega.{arith}
use borrow.Author.Tests.{ltb-false, ne_eqb, eqb-false}
use Rattle.shape.specs.Refusal.{Fault, fine, fault, refuse, or_else, Answer, taken, refused, judge}
use Rattle.lookup.specs.Consult.{word_at, sides, declares, head_fault, inside, cell_at, start_at, first_at, entry_fault, start_fault, nowhere, run_of, consult_of}
use Rattle.shape.proofs.Laws.Refusal.{passed}
use Rattle.lookup.proofs.Laws.Heads.{head_passed, head_sided, cell_small}

pub never : {A : Type 0} {a : A} {k p : ℕ} → taken a ≢ refused k p
never e = let z : ◌≡◌ {A = ℕ} 0 1 = cc in omega arith

-- ---- what the words are if there is none

module _ (ws : List ℕ) where
  start_passed : (c : ℕ) → start_fault ws c ≡ fine → (start_at ws c ≤ start_at ws (suc c)) × (start_at ws (suc c) ≤ word_at ws 8)
  unfolding start_fault
  start_passed c e =
      let p = passed (nat_lt (word_at ws 8) (start_at ws c)) _ _ _ e in
      let q = passed (nat_lt (start_at ws (suc c)) (start_at ws c)) _ _ _ p.1 in
      let r = passed (nat_lt (word_at ws 8) (start_at ws (suc c))) _ _ _ q.1 in
      (ltb-false (start_at ws (suc c)) (start_at ws c) q.0, ltb-false (word_at ws 8) (start_at ws (suc c)) r.0)

  head_declared : (count : ℕ) → head_fault ws count ≡ fine → (word_at ws 1 ≢ 0) → 10 + word_at ws 1 * word_at ws 2 + word_at ws 8 ≤ length ws
  unfolding declares
  head_declared count e n = rw (ne_eqb (word_at ws 1) 0 n) at (head_passed ws count e).1

-- ---- P holds of the number and place of a fault, or of a refusal, if it is one

module _ (P : ℕ → ℕ → Type 0) where
  abbrev pub Holds : Fault → Type 0
  Holds f = (k p : ℕ) → f ≡ fault k p → P k p

  abbrev HoldsIn : {A : Type 0} → Answer A → Type 0
  HoldsIn a = (k p : ℕ) → a ≡ refused k p → P k p

  pub holds_fine : Holds fine
  holds_fine k p e = absurd (let z : ◌≡◌ {A = ℕ} 0 1 = cc in omega arith)

  pub holds_refuse : (b : Bool) (k p : ℕ) (f : Fault) → P k p → Holds f → Holds (refuse b k p f)
  unfolding refuse
  holds_refuse true k p f h g i q e = let y : k ≡ i = cc in let z : p ≡ q = cc in rw (← y, ← z) h
  holds_refuse false k p f h g i q e = g i q e

  pub holds_else : (f g : Fault) → Holds f → (f ≡ fine → Holds g) → Holds (or_else f g)
  unfolding or_else
  holds_else fine g h k = k refl
  holds_else (fault i p) g h k = h

  holds_judge : {A : Type 0} (f : Fault) (a : Answer A) → Holds f → (f ≡ fine → HoldsIn a) → HoldsIn (judge f a)
  unfolding judge
  holds_judge fine a h g k p e = g refl k p e
  holds_judge (fault i q) a h g k p e = h k p (cc)

  module _ (small : (p : ℕ) → p < 4294967296 → P 4 p) (ws : List ℕ) (count : ℕ) (few : length ws ≤ 4194304) where
    head_holds : Holds (head_fault ws count)
    unfolding head_fault
    head_holds =
        holds_refuse (nat_lt (length ws) 9) 4 (length ws) _ (small _ (omega arith))
        (holds_refuse (not (word_at ws 0 == count)) 4 0 _ (small _ (omega arith))
        (holds_refuse (not (sides (word_at ws 1) (word_at ws 2))) 4 _ _ (small _ (side (nat_lt 1024 (word_at ws 1))))
        (holds_refuse (nat_lt (length ws) (declares ws)) 4 (length ws) fine (small _ (omega arith)) holds_fine)))
      where
        side : (b : Bool) → cond b 1 2 < 4294967296
        side true = omega arith
        side false = omega arith

    entry_holds : (from n : ℕ) → from + n ≤ 4294967296 → Holds (entry_fault ws count from n)
    unfolding entry_fault
    entry_holds from zero h = holds_fine
    entry_holds from (suc n) h =
        holds_else (entry_fault ws count from n) _ (entry_holds from n (omega arith))
        (λ e. holds_refuse (nat_le count (word_at ws (from + n))) 4 (from + n) fine (small _ (omega arith)) holds_fine)

    start_holds : (c : ℕ) → c < 1048576 → Holds (start_fault ws c)
    unfolding start_fault
    start_holds c h =
        holds_refuse (nat_lt (word_at ws 8) (start_at ws c)) 4 (9 + c) _ (small _ (omega arith))
        (holds_refuse (nat_lt (start_at ws (suc c)) (start_at ws c)) 4 (10 + c) _ (small _ (omega arith))
        (holds_refuse (nat_lt (word_at ws 8) (start_at ws (suc c))) 4 (10 + c) fine (small _ (omega arith)) holds_fine))

    run_holds : (c : ℕ) → c < 1048576 → 10 + word_at ws 1 * word_at ws 2 + word_at ws 8 ≤ length ws → HoldsIn (run_of ws count c)
    unfolding run_of
    run_holds c h d =
        let n = start_at ws (suc c) - start_at ws c in
        holds_judge (or_else (start_fault ws c) (entry_fault ws count (first_at ws + start_at ws c) n)) _
        (holds_else (start_fault ws c) _ (start_holds c h)
        (λ f. let s = start_passed ws c f in entry_holds (first_at ws + start_at ws c) n (omega (arith, s.0, s.1))))
        (λ f k p e. absurd (never e))

    pub consult_holds : (x y : Float) → HoldsIn (consult_of ws count x y)
    unfolding consult_of
    consult_holds x y =
        holds_judge (head_fault ws count) _ head_holds (λ f. cell f (word_at ws 1 == 0) (inside ws x y) (eqb-false (word_at ws 1) 0))
      where
        cell : head_fault ws count ≡ fine → (a b : Bool) → (a ≡ false → word_at ws 1 ≢ 0)
            → HoldsIn (cond (not a && b) (run_of ws count (cell_at ws x y)) (taken nowhere))
        cell f true b n = λ k p e. absurd (never e)
        cell f false false n = λ k p e. absurd (never e)
        cell f false true n = run_holds (cell_at ws x y) (cell_small ws x y (head_sided ws count f (n refl))) (head_declared ws count f (n refl))
