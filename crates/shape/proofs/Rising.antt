-- Runs that rise, each start from the last end and each end from its start, and keep within a list are not ragged; others are. Assumes nothing.
use Rattle.std.proofs.Common.{◌≡◌, ℕ, zero, suc, ◌+◌, ◌<◌, ◌≤◌, Bool, true, false, not, ◌||◌, ltb, leb, List, sym, refl, ◌∙◌, ⊎_elim, le_of_suc-le-suc, eq-or-lt_of_le, add-one, arith, le-ltb, lt-ltb, le-leb}
use Rattle.std.proofs.lemmas.Bool.{or_left, or_right}
use native.Mathlib.Decide.{dec_lt}
use borrow.Author.Tests.{lt-leb}
use Rattle.shape.specs.Gather.{any}
use Rattle.shape.specs.Lists.{start_of, end_of, last_end, run_bad}
use Rattle.shape.proofs.Laws.Gather.{any_some}

-- the runs of the first i spans, whose starts are words a, rise
pub record Rises (ss : List ℕ) (a i : ℕ) : Type 0 where
  pub ordered : (j : ℕ) → j < i → start_of 5 a ss j ≤ end_of 5 a ss j
  pub after : (j : ℕ) → j < i → last_end 5 a ss j ≤ start_of 5 a ss j

pub none : (ss : List ℕ) (a : ℕ) → Rises ss a 0
none ss a = record { ordered = λ j l. absurd (omega arith); after = λ j l. absurd (omega arith) }

-- one run more
pub next : (ss : List ℕ) (a i : ℕ) → Rises ss a i → start_of 5 a ss i ≤ end_of 5 a ss i → last_end 5 a ss i ≤ start_of 5 a ss i → Rises ss a (suc i)
next ss a i r o f =
    record {
      ordered = λ j l. ⊎_elim (λ (z : j ≡ i). rw z o) (λ (z : j < i). r.ordered j z) (eq-or-lt_of_le (le_of_suc-le-suc l));
      after = λ j l. ⊎_elim (λ (z : j ≡ i). rw z f) (λ (z : j < i). r.after j z) (eq-or-lt_of_le (le_of_suc-le-suc l));
    }

pub last_none : (ss : List ℕ) (a : ℕ) → last_end 5 a ss 0 ≡ 0
unfolding last_end
last_none ss a = refl

pub last_next : (ss : List ℕ) (a i : ℕ) → last_end 5 a ss (suc i) ≡ end_of 5 a ss i
unfolding last_end
last_next ss a i = refl

pub not_ragged : (ss : List ℕ) (a n m : ℕ) → Rises ss a m → last_end 5 a ss m ≤ n → any (run_bad 5 a ss n) m ≡ false
unfolding any run_bad
not_ragged ss a n zero r l = refl
not_ragged ss a n (suc m) r l =
    let o = r.ordered m (omega arith) in
    let f = r.after m (omega arith) in
    let e = last_next ss a m in
    let ih = not_ragged ss a n m (record { ordered = λ j k. r.ordered j (omega arith); after = λ j k. r.after j (omega arith) }) (omega (arith, e, o, f)) in
    let u : end_of 5 a ss m ≤ n = omega (arith, e) in
    simp (ih, le-ltb (end_of 5 a ss m) (start_of 5 a ss m) o, le-ltb (start_of 5 a ss m) (last_end 5 a ss m) f, le-ltb n (end_of 5 a ss m) u)

-- a turn of the pass: v is where the last run ended, s and e are where the next starts and ends
pub turn : (ss : List ℕ) (a i : ℕ) {s e v : ℕ} → s ≡ start_of 5 a ss i → e ≡ end_of 5 a ss i → v ≡ last_end 5 a ss i → v ≤ s → s ≤ e → Rises ss a i
    → (e ≡ last_end 5 a ss (i + 1)) × Rises ss a (i + 1)
turn ss a i p q l f o r = rw (add-one i) (q ∙ sym (last_next ss a i), next ss a i r (omega arith) (omega arith))

-- ---- and those that do not rise, or end past their list, are

module _ (ss : List ℕ) (a n : ℕ) where
  back : (m i : ℕ) {s v : ℕ} → i < m → s ≡ start_of 5 a ss i → v ≡ last_end 5 a ss i → s < v → any (run_bad 5 a ss n) m ≡ true
  unfolding run_bad
  back m i l p q h =
      let f : start_of 5 a ss i < last_end 5 a ss i = omega arith in
      any_some (run_bad 5 a ss n) i m l (or_left _ (ltb n (end_of 5 a ss i)) (or_right (ltb (end_of 5 a ss i) (start_of 5 a ss i)) _ (lt-ltb (start_of 5 a ss i) (last_end 5 a ss i) f)))

  turned : (m i : ℕ) {s e : ℕ} → i < m → s ≡ start_of 5 a ss i → e ≡ end_of 5 a ss i → e < s → any (run_bad 5 a ss n) m ≡ true
  unfolding run_bad
  turned m i l p q h =
      let f : end_of 5 a ss i < start_of 5 a ss i = omega arith in
      any_some (run_bad 5 a ss n) i m l (rw (lt-ltb (end_of 5 a ss i) (start_of 5 a ss i) f))

  past : (m : ℕ) → n < last_end 5 a ss m → any (run_bad 5 a ss n) m ≡ true
  unfolding run_bad last_end any
  past zero h = absurd (omega arith)
  past (suc m) h = any_some (run_bad 5 a ss n) m (suc m) (omega arith) (or_right (ltb (end_of 5 a ss m) (start_of 5 a ss m) || ltb (start_of 5 a ss m) (last_end 5 a ss m)) _ (lt-ltb n (end_of 5 a ss m) h))

-- the test of both kinds of run
module _ (ss : List ℕ) (n k m : ℕ) where
  abbrev Test : Bool
  Test = not (any (run_bad 5 1 ss n) m || any (run_bad 5 3 ss k) m)

  bad_vertices : any (run_bad 5 1 ss n) m ≡ true → false ≡ Test
  bad_vertices e = rw e

  bad_indices : any (run_bad 5 3 ss k) m ≡ true → false ≡ Test
  bad_indices e = go (any (run_bad 5 1 ss n) m) (any (run_bad 5 3 ss k) m) e
    where
      go : (x y : Bool) → y ≡ true → false ≡ not (x || y)
      go true y e = refl
      go false y e = rw e

  pub vertices_back : (i : ℕ) {s v : ℕ} → i < m → s ≡ start_of 5 1 ss i → v ≡ last_end 5 1 ss i → s < v → false ≡ Test
  vertices_back i l p q h = bad_vertices (back ss 1 n m i l p q h)

  pub vertices_turned : (i : ℕ) {s e : ℕ} → i < m → s ≡ start_of 5 1 ss i → e ≡ end_of 5 1 ss i → e < s → false ≡ Test
  vertices_turned i l p q h = bad_vertices (turned ss 1 n m i l p q h)

  pub indices_back : (i : ℕ) {s v : ℕ} → i < m → s ≡ start_of 5 3 ss i → v ≡ last_end 5 3 ss i → s < v → false ≡ Test
  indices_back i l p q h = bad_indices (back ss 3 k m i l p q h)

  pub indices_turned : (i : ℕ) {s e : ℕ} → i < m → s ≡ start_of 5 3 ss i → e ≡ end_of 5 3 ss i → e < s → false ≡ Test
  indices_turned i l p q h = bad_indices (turned ss 3 k m i l p q h)

  pub vertices_past : {i v : ℕ} → i ≡ m → v ≡ last_end 5 1 ss i → n < v → false ≡ Test
  vertices_past {i} z e h = bad_vertices (past ss 1 n m (rw z at (rw e at h)))

  -- at the end only the last end of the indices' runs is to be looked at
  pub all_told : {i v w : ℕ} → i ≡ m → v ≡ last_end 5 1 ss i → w ≡ last_end 5 3 ss i → Rises ss 1 i → Rises ss 3 i → v ≤ n → leb w k ≡ Test
  all_told {i} {v} {w} z e f r q h = elim (dec_lt k w) [ yes p ↦ lt-leb w k p ∙ bad_indices (past ss 3 k m (rw z at (rw f at p))) | no p ↦ good (omega arith) ]
    where
      good : w ≤ k → leb w k ≡ Test
      good l =
          le-leb w k l
          ∙ simp (not_ragged ss 1 n m (rw z at r) (rw z at (rw e at h)), not_ragged ss 3 k m (rw z at q) (rw z at (rw f at l)))
