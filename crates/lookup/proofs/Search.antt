-- The first span that ends past an index, by halving: what is known between two bounds, and that it ends with the span. Assumes nothing.
use Rattle.std.proofs.Common.{◌≡◌, ℕ, ◌+◌, ◌-◌, ◌*◌, ◌/◌, ◌<◌, ◌≤◌, List, get_or, sym, ap, ◌∙◌, le_refl, arith, ltb, lt-ltb, le-ltb, Option}
use Rattle.std.specs.Bool.{then_some}
use Rattle.std.specs.Option.{MatchOption}
use native.Mathlib.Decide.{dec_lt}
use Rattle.shape.specs.Lists.{word_of, end_of}
use Rattle.lookup.specs.Sampler.{EndsRise, past_of}
use Rattle.lookup.specs.Steps.{Halved}
use Rattle.lookup.proofs.Laws.Spans.{past_is}

module _ (ss : List ℕ) (i n : ℕ) where
  upper : (low high middle : ℕ) → EndsRise ss n → Halved ss i n low high → middle < high → end_of 5 3 ss middle ≤ i → Halved ss i n (middle + 1) high
  upper low high middle rise p l e =
      record {
        order = omega arith;
        within = p.within;
        before = λ j h. let r = rise j middle (omega arith) (omega (arith, p.within)) in omega arith;
        past = p.past;
      }

  lower : (low high middle : ℕ) → Halved ss i n low high → low ≤ middle → middle < high → i < end_of 5 3 ss middle → Halved ss i n low middle
  lower low high middle p k l e = record { order = k; within = omega (arith, p.within); before = p.before; past = λ h. e }

  -- the bound may be put further off, as the ends rise
  relaxed : (low middle high : ℕ) → EndsRise ss n → Halved ss i n low middle → i < end_of 5 3 ss middle → middle ≤ high → high ≤ n → Halved ss i n low high
  relaxed low middle high rise p e l w =
      record {
        order = omega (arith, p.order);
        within = w;
        before = p.before;
        past = λ h. let r = rise middle high l h in omega arith;
      }

  pub ended : (low high : ℕ) → Halved ss i n low high → high ≤ low → low ≡ past_of ss i n
  ended low high p h =
      let e : low ≡ high = omega (arith, p.order) in
      sym (past_is ss i n low (omega (arith, p.within)) p.before (λ l. rw e (p.past (omega arith))))

  -- r is `low` moved on by `by` where a run of indices ends by i
  abbrev Moves : ℕ → ℕ → ℕ → ℕ → Type 0
  Moves low by end r = (end ≤ i → r ≡ low + by) × (i < end → r ≡ low)

  -- the half of a part that is kept. `middle` is the span before the upper half; whichever is kept, its size is the greater half's
  cut : (low size middle end r : ℕ) → EndsRise ss n → Halved ss i n low (low + size) → 2 ≤ size → middle + 1 ≡ low + size / 2 → end ≡ end_of 5 3 ss middle
      → Moves low (size / 2) end r → Halved ss i n r (r + (size - size / 2))
  cut low size middle end r rise p s m e q = go (dec_lt i end)
    where
      go : Dec (i < end) → Halved ss i n r (r + (size - size / 2))
      go (yes h) =
          let g : i < end_of 5 3 ss middle = omega arith in
          let l = lower low (low + size) middle p (omega arith) (omega arith) g in
          rw (q.1 h) (relaxed low middle (low + (size - size / 2)) rise l g (omega arith) (omega (arith, p.within)))
      go (no h) =
          let z : r ≡ middle + 1 = omega (arith, q.0 (omega arith)) in
          let y : middle + 1 + (size - size / 2) ≡ low + size = omega arith in
          rw (z, y) (upper low (low + size) middle rise p (omega arith) (omega arith))

  pub half : (low size end r : ℕ) → EndsRise ss n → Halved ss i n low (low + size) → 2 ≤ size → end ≡ get_or ss (5 * (low + size / 2) - 1) 0
      → Moves low (size / 2) end r → Halved ss i n r (r + (size - size / 2))
  unfolding word_of
  half low size end r rise p s e q =
      let k : 5 * (low + size / 2) - 1 ≡ 5 * (low + size / 2 - 1) + 4 = omega arith in
      cut low size (low + size / 2 - 1) end r rise p s (omega arith) (e ∙ ap (λ (j : ℕ). get_or ss j 0) k) q

  -- of a part of one span, the end tells which
  pub one_left : (low size end r : ℕ) → EndsRise ss n → Halved ss i n low (low + size) → size ≡ 1 → end ≡ end_of 5 3 ss low → Moves low 1 end r → r ≡ past_of ss i n
  one_left low size end r rise p s e q = go (dec_lt i end)
    where
      go : Dec (i < end) → r ≡ past_of ss i n
      go (yes h) = q.1 h ∙ ended low low (lower low (low + size) low p (le_refl low) (omega arith) (omega arith)) (le_refl low)
      go (no h) = q.0 (omega arith) ∙ ended (low + 1) (low + size) (upper low (low + size) low rise p (omega arith) (omega arith)) (omega arith)

less : (b : ℕ) {p q : ℕ} → p ≤ b * 2 → q ≡ (p + 1) / 2 → q ≤ b
less b h e = omega arith

-- ten halves of at most 1,024 leave at most one
pub ten : {n a b c d e f g h j k : ℕ} → n ≤ 1024 → a ≡ (n + 1) / 2 → b ≡ (a + 1) / 2 → c ≡ (b + 1) / 2 → d ≡ (c + 1) / 2 → e ≡ (d + 1) / 2 → f ≡ (e + 1) / 2
    → g ≡ (f + 1) / 2 → h ≡ (g + 1) / 2 → j ≡ (h + 1) / 2 → k ≡ (j + 1) / 2 → k ≤ 1
ten l a b c d e f g h j k = less 1 (less 2 (less 4 (less 8 (less 16 (less 32 (less 64 (less 128 (less 256 (less 512 l a) b) c) d) e) f) g) h) j) k

none : {p q : ℕ} → q ≡ (p + 1) / 2 → q < 1 → p < 1
none h e = omega arith

-- and none only of none
pub ten_none : {n a b c d e f g h j k : ℕ} → a ≡ (n + 1) / 2 → b ≡ (a + 1) / 2 → c ≡ (b + 1) / 2 → d ≡ (c + 1) / 2 → e ≡ (d + 1) / 2 → f ≡ (e + 1) / 2
    → g ≡ (f + 1) / 2 → h ≡ (g + 1) / 2 → j ≡ (h + 1) / 2 → k ≡ (j + 1) / 2 → k < 1 → n < 1
ten_none a b c d e f g h j k l = none a (none b (none c (none d (none e (none f (none g (none h (none j (none k l)))))))))

-- a place that may be past the last, as a place or none
pub place_or_none : {k n p : ℕ} {r : Option ℕ} → r ≡ then_some (ltb k n) k → k ≡ p → k ≤ n → MatchOption r (p ≡ n) (λ k. (k < n) × (k ≡ p))
place_or_none {k} {n} {p} s e l = rw s (go (dec_lt k n))
  where
    go : Dec (k < n) → MatchOption (then_some (ltb k n) k) (p ≡ n) (λ k. (k < n) × (k ≡ p))
    go (yes h) = rw (lt-ltb k n h) (h, e)
    go (no h) = rw (le-ltb k n (omega arith)) (omega arith)

-- a place moved on by one at most
pub moved_within : (low end i r : ℕ) {n : ℕ} → (end ≤ i → r ≡ low + 1) × (i < end → r ≡ low) → low + 1 ≤ n → r ≤ n
moved_within low end i r {n} q l = go (dec_lt i end)
  where
    go : Dec (i < end) → r ≤ n
    go (yes h) = omega (arith, q.1 h)
    go (no h) = omega (arith, q.0 (omega arith))
