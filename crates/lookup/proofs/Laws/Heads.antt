-- What `consult` finds in any words: the tests of the head, the spot of a point, the entries of a run. Assumes nothing.
use Rattle.std.specs.Prelude.{◌≡◌, ℕ, zero, suc, ◌+◌, ◌-◌, ◌*◌, ◌<◌, ◌≤◌, Bool, true, false, cond, not, ◌&&◌, ◌||◌, List, length, ◌==◌, ◌≢◌, nat_le, nat_lt, refl, Float, Some, None}
use Rattle.std.proofs.Common.{sym, ap, ◌∙◌, ⊎_elim, mul-le-mul, eq-or-lt_of_le, le_of_suc-le-suc, arith}
use borrow.Author.Tests.{lt-ltb, le-ltb, le-leb, lt-leb, eq-eqb, ne_eqb, leb-true, ltb-false, not-false}
use Rattle.std.proofs.Math.Arith.{digits_lt}
use Rattle.std.proofs.Math.Bool.{and-false}
use Rattle.std.specs.Float.{binary32}
use Rattle.std.specs.Float.Ieee.{le}
use Rattle.lookup.specs.Column.{col}
use Rattle.lookup.proofs.Laws.Column.{col_lt}
use Rattle.shape.specs.Refusal.{fine, fault, refuse, or_else, Answer, taken, refused}
use Rattle.shape.proofs.Laws.Refusal.{passed}
use Rattle.lookup.specs.Consult.{word_at, float_at, sides, declares, head_fault, inside, cell_at, entry_fault, start_at, first_at, start_fault, Candidates, nowhere, run, run_of, consult_of}
use Rattle.lookup.specs.Steps.{Sided, cell_or_outside}
use Rattle.lookup.proofs.Laws.Parts.{both}

-- ---- the sides

pub sides_wide : (a b : ℕ) → 1024 < a → sides a b ≡ false
unfolding sides
sides_wide a b h = simp (ne_eqb a 0 (omega arith), le-leb 1 a (omega arith), lt-leb a 1024 h)

pub sides_none : (a b : ℕ) → a ≡ 0 → b ≡ 0 → sides a b ≡ true
unfolding sides
sides_none a b e k = simp (eq-eqb a 0 e, eq-eqb b 0 k)

pub sides_left : (a b : ℕ) → a ≡ 0 → (b ≢ 0) → sides a b ≡ false
unfolding sides
sides_left a b e k = simp (eq-eqb a 0 e, ne_eqb b 0 k, lt-leb 1 a (omega arith))

pub sides_low : (a b : ℕ) → (a ≢ 0) → b ≡ 0 → sides a b ≡ false
unfolding sides
sides_low a b e k = rw (ne_eqb a 0 e, lt-leb 1 b (omega arith)) (and-false (nat_le 1 a && nat_le a 1024))

pub sides_tall : (a b : ℕ) → (a ≢ 0) → 1024 < b → sides a b ≡ false
unfolding sides
sides_tall a b e h = rw (ne_eqb a 0 e, le-leb 1 b (omega arith), lt-leb b 1024 h) (and-false (nat_le 1 a && nat_le a 1024))

pub sides_fine : (a b : ℕ) → (a ≢ 0) → a ≤ 1024 → (b ≢ 0) → b ≤ 1024 → sides a b ≡ true
unfolding sides
sides_fine a b e h k l = simp (ne_eqb a 0 e, le-leb 1 a (omega arith), le-leb a 1024 h, le-leb 1 b (omega arith), le-leb b 1024 l)

-- ---- the head

module _ (ws : List ℕ) (count : ℕ) where
  pub head_short : length ws < 9 → fault 4 (length ws) ≡ head_fault ws count
  unfolding head_fault refuse
  head_short h = simp (lt-ltb (length ws) 9 h)

  module _ (long : 9 ≤ length ws) where
    pub head_count : (word_at ws 0 ≢ count) → fault 4 0 ≡ head_fault ws count
    unfolding head_fault refuse
    head_count h = simp (le-ltb (length ws) 9 long, ne_eqb (word_at ws 0) count h)

    module _ (same : word_at ws 0 ≡ count) where
      pub head_wide : 1024 < word_at ws 1 → fault 4 1 ≡ head_fault ws count
      unfolding head_fault refuse
      head_wide h = simp (le-ltb (length ws) 9 long, eq-eqb (word_at ws 0) count same, sides_wide (word_at ws 1) (word_at ws 2) h, lt-ltb 1024 (word_at ws 1) h)

      pub head_sides : word_at ws 1 ≤ 1024 → sides (word_at ws 1) (word_at ws 2) ≡ false → fault 4 2 ≡ head_fault ws count
      unfolding head_fault refuse
      head_sides h e = simp (le-ltb (length ws) 9 long, eq-eqb (word_at ws 0) count same, e, le-ltb 1024 (word_at ws 1) h)

      pub head_none : word_at ws 1 ≡ 0 → word_at ws 2 ≡ 0 → fine ≡ head_fault ws count
      unfolding head_fault refuse declares
      head_none h k = simp (le-ltb (length ws) 9 long, eq-eqb (word_at ws 0) count same, sides_none (word_at ws 1) (word_at ws 2) h k, eq-eqb (word_at ws 1) 0 h)

      module _ (some : word_at ws 1 ≡ 0 → ⊥) (s : sides (word_at ws 1) (word_at ws 2) ≡ true) where
        pub head_less : length ws < 10 + word_at ws 1 * word_at ws 2 + word_at ws 8 → fault 4 (length ws) ≡ head_fault ws count
        unfolding head_fault refuse declares
        head_less h = simp (le-ltb (length ws) 9 long, eq-eqb (word_at ws 0) count same, s, ne_eqb (word_at ws 1) 0 some, lt-ltb (length ws) (10 + word_at ws 1 * word_at ws 2 + word_at ws 8) h)

        pub head_fine : 10 + word_at ws 1 * word_at ws 2 + word_at ws 8 ≤ length ws → fine ≡ head_fault ws count
        unfolding head_fault refuse declares
        head_fine h = simp (le-ltb (length ws) 9 long, eq-eqb (word_at ws 0) count same, s, ne_eqb (word_at ws 1) 0 some, le-ltb (length ws) (10 + word_at ws 1 * word_at ws 2 + word_at ws 8) h)

-- ---- entries

pub entry_none : (ws : List ℕ) (count from : ℕ) → entry_fault ws count from 0 ≡ fine
unfolding entry_fault
entry_none ws count from = refl

pub entry_step : (ws : List ℕ) (count from k : ℕ) → entry_fault ws count from k ≡ fine → word_at ws (from + k) < count → entry_fault ws count from (suc k) ≡ fine
unfolding entry_fault or_else refuse
entry_step ws count from k e h = rw (e, lt-leb count (word_at ws (from + k)) h)

entry_last : (ws : List ℕ) (count from k : ℕ) → entry_fault ws count from k ≡ fine → count ≤ word_at ws (from + k) → entry_fault ws count from (suc k) ≡ fault 4 (from + k)
unfolding entry_fault or_else refuse
entry_last ws count from k e h = rw (e, le-leb count (word_at ws (from + k)) h)

entry_stays : (ws : List ℕ) (count from k n p : ℕ) → k ≤ n → entry_fault ws count from k ≡ fault 4 p → entry_fault ws count from n ≡ fault 4 p
unfolding entry_fault or_else
entry_stays ws count from k zero p l e = let z : 0 ≡ k = omega arith in ap (entry_fault ws count from) z ∙ e
entry_stays ws count from k (suc n) p l e =
    ⊎_elim (λ (w : k ≡ suc n). ap (entry_fault ws count from) (sym w) ∙ e) (λ (w : k < suc n). rw (entry_stays ws count from k n p (le_of_suc-le-suc w) e)) (eq-or-lt_of_le l)

module _ (ws : List ℕ) (count from : ℕ) where
  pub entry_bad : (to i : ℕ) → from ≤ i → i < to → entry_fault ws count from (i - from) ≡ fine → count ≤ word_at ws i → entry_fault ws count from (to - from) ≡ fault 4 i
  entry_bad to i h l e k =
      let z : from + (i - from) ≡ i = omega arith in
      let m : suc (i - from) ≤ to - from = omega arith in
      entry_stays ws count from (suc (i - from)) (to - from) i m (entry_last ws count from (i - from) e (rw z k) ∙ ap (fault 4) z)

  pub entry_next : (i : ℕ) → from ≤ i → entry_fault ws count from (i - from) ≡ fine → word_at ws i < count → entry_fault ws count from (i + 1 - from) ≡ fine
  entry_next i h e k =
      let z : from + (i - from) ≡ i = omega arith in
      let s : i + 1 - from ≡ suc (i - from) = omega arith in
      rw s (entry_step ws count from (i - from) e (rw z k))

-- ---- the spot

module _ (ws : List ℕ) (x y a b p q : Float) (ea : a ≡ float_at ws 3) (eb : b ≡ float_at ws 4) (ep : p ≡ float_at ws 5) (eq : q ≡ float_at ws 6) where
  pub cell_in : (k : ℕ) → le a x ≡ true → le x p ≡ true → le b y ≡ true → le y q ≡ true → k ≡ cell_at ws x y → Some k ≡ cell_or_outside ws x y
  unfolding cell_or_outside inside
  cell_in k h i j l e = rw (← ea, ← eb, ← ep, ← eq, h, i, j, l, e)

  pub cell_left : le a x ≡ false → None ≡ cell_or_outside ws x y
  unfolding cell_or_outside inside
  cell_left h = rw (← ea, h)

  pub cell_right : le a x ≡ true → le x p ≡ false → None ≡ cell_or_outside ws x y
  unfolding cell_or_outside inside
  cell_right h i = rw (← ea, ← ep, h, i)

  pub cell_low : le a x ≡ true → le x p ≡ true → le b y ≡ false → None ≡ cell_or_outside ws x y
  unfolding cell_or_outside inside
  cell_low h i j = rw (← ea, ← ep, ← eb, h, i, j)

  pub cell_high : le a x ≡ true → le x p ≡ true → le b y ≡ true → le y q ≡ false → None ≡ cell_or_outside ws x y
  unfolding cell_or_outside inside
  cell_high h i j l = rw (← ea, ← ep, ← eb, ← eq, h, i, j, l)

pub cell_is : (ws : List ℕ) (x y : Float) (c : ℕ) → Some c ≡ cell_or_outside ws x y → (inside ws x y ≡ true) × (c ≡ cell_at ws x y)
unfolding cell_or_outside
cell_is ws x y c e = go (inside ws x y) e
  where
    go : (b : Bool) → Some c ≡ cond b (Some (cell_at ws x y)) None → (b ≡ true) × (c ≡ cell_at ws x y)
    go true k = (refl, cc)
    go false k = absurd (let z : ◌≡◌ {A = ℕ} 0 1 = cc in omega arith)

pub cell_none : (ws : List ℕ) (x y : Float) → None ≡ cell_or_outside ws x y → inside ws x y ≡ false
unfolding cell_or_outside
cell_none ws x y e = go (inside ws x y) e
  where
    go : (b : Bool) → None ≡ cond b (Some (cell_at ws x y)) None → b ≡ false
    go true k = absurd (let z : ◌≡◌ {A = ℕ} 0 1 = cc in omega arith)
    go false k = refl

pub grid_small : (q m r c : ℕ) → q < m → m ≤ 1024 → r < c → c ≤ 1024 → q * c + r < 1048576
grid_small q m r c h i j k = let d : q * c + r < m * c = digits_lt {q = q} {m = m} {r = r} {c = c} h j in omega (arith, mul-le-mul i k)

pub cell_small : (ws : List ℕ) (x y : Float) → Sided ws → cell_at ws x y < 1048576
unfolding cell_at
cell_small ws x y s =
    grid_small (col binary32 (float_at ws 4) (float_at ws 7) (word_at ws 2) y) (word_at ws 2) (col binary32 (float_at ws 3) (float_at ws 7) (word_at ws 1) x) (word_at ws 1)
    (col_lt binary32 _ _ _ _ s.some_rows) s.few_rows (col_lt binary32 _ _ _ _ s.some_cols) s.few_cols

-- ---- the run

module _ (ws : List ℕ) (count c n a e : ℕ) (en : n ≡ word_at ws 8) (ea : a ≡ word_at ws (9 + c)) (ee : e ≡ word_at ws (10 + c)) where
  next : e ≡ start_at ws (suc c)
  next = let z : 9 + suc c ≡ 10 + c = omega arith in rw z ee

  pub run_past : n < a → refused 4 (9 + c) ≡ run_of ws count c
  unfolding run_of start_fault refuse
  run_past h = rw (← en, ← ea, lt-ltb n a h)

  pub run_falls : a ≤ n → e < a → refused 4 (10 + c) ≡ run_of ws count c
  unfolding run_of start_fault refuse
  run_falls h k = rw (← en, ← ea, ← next, le-ltb n a h, lt-ltb e a k)

  pub run_late : a ≤ n → a ≤ e → n < e → refused 4 (10 + c) ≡ run_of ws count c
  unfolding run_of start_fault refuse
  run_late h k l = rw (← en, ← ea, ← next, le-ltb n a h, le-ltb e a k, lt-ltb n e l)

  module _ (h : a ≤ n) (k : a ≤ e) (l : e ≤ n) (f : ℕ) (ef : f ≡ first_at ws) where
    span : f + e - (f + a) ≡ e - a
    span = omega arith

    pub run_entry : (i p : ℕ) → entry_fault ws count (f + a) (f + e - (f + a)) ≡ fault i p → refused i p ≡ run_of ws count c
    unfolding run_of start_fault refuse
    run_entry i p x = rw (← en, ← ea, ← next, ← ef, le-ltb n a h, le-ltb e a k, le-ltb n e l, ← span, x)

    pub run_fine : entry_fault ws count (f + a) (f + e - (f + a)) ≡ fine → taken (run (f + a) (f + e)) ≡ run_of ws count c
    unfolding run_of start_fault refuse
    run_fine x = rw (← en, ← ea, ← next, ← ef, le-ltb n a h, le-ltb e a k, le-ltb n e l, ← span, x)

-- ---- the whole

sides_some : (a b : ℕ) → (a ≢ 0) → sides a b ≡ true → (0 < a) × (a ≤ 1024) × (0 < b) × (b ≤ 1024)
unfolding sides
sides_some a b n e =
    let k = or_right (a == 0 && b == 0) ((nat_le 1 a && nat_le a 1024) && (nat_le 1 b && nat_le b 1024)) (ap (λ (z : Bool). z && b == 0) (ne_eqb a 0 n)) e in
    let p = both (nat_le 1 a && nat_le a 1024) (nat_le 1 b && nat_le b 1024) k in
    let u = both (nat_le 1 a) (nat_le a 1024) p.0 in
    let v = both (nat_le 1 b) (nat_le b 1024) p.1 in
    (leb-true 1 a u.0, leb-true a 1024 u.1, leb-true 1 b v.0, leb-true b 1024 v.1)
  where
    or_right : (a b : Bool) → a ≡ false → (a || b) ≡ true → b ≡ true
    or_right a b e h = rw e at h

pub head_passed : (ws : List ℕ) (count : ℕ) → head_fault ws count ≡ fine → (sides (word_at ws 1) (word_at ws 2) ≡ true) × (declares ws ≤ length ws)
unfolding head_fault
head_passed ws count e =
    let p = passed (nat_lt (length ws) 9) _ _ _ e in
    let q = passed (not (word_at ws 0 == count)) _ _ _ p.1 in
    let r = passed (not (sides (word_at ws 1) (word_at ws 2))) _ _ _ q.1 in
    let s = passed (nat_lt (length ws) (declares ws)) _ _ _ r.1 in
    (not-false (sides (word_at ws 1) (word_at ws 2)) r.0, ltb-false (length ws) (declares ws) s.0)

pub head_sided : (ws : List ℕ) (count : ℕ) → head_fault ws count ≡ fine → (word_at ws 1 ≢ 0) → Sided ws
head_sided ws count e n =
    let s = sides_some (word_at ws 1) (word_at ws 2) n (head_passed ws count e).0 in
    record { some_cols = s.0; few_cols = s.1; some_rows = s.2; few_rows = s.3 }

module _ (ws : List ℕ) (count : ℕ) (x y : Float) where
  pub consult_refused : (n p : ℕ) → head_fault ws count ≡ fault n p → refused n p ≡ consult_of ws count x y
  unfolding consult_of
  consult_refused n p e = rw e

  module _ (e : head_fault ws count ≡ fine) where
    pub consult_none : word_at ws 1 ≡ 0 → taken nowhere ≡ consult_of ws count x y
    unfolding consult_of
    consult_none h = rw (e, eq-eqb (word_at ws 1) 0 h)

    pub consult_out : (word_at ws 1 ≢ 0) → inside ws x y ≡ false → taken nowhere ≡ consult_of ws count x y
    unfolding consult_of
    consult_out h k = rw (e, ne_eqb (word_at ws 1) 0 h, k)

    pub consult_in : (word_at ws 1 ≢ 0) → inside ws x y ≡ true → (answer : Answer Candidates) → answer ≡ run_of ws count (cell_at ws x y) → answer ≡ consult_of ws count x y
    unfolding consult_of
    consult_in h k answer a = rw (e, ne_eqb (word_at ws 1) 0 h, k) a
