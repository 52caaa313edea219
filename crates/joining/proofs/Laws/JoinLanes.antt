-- The lane of a triangle of the whole is its part's. Assumes nothing.
use Rattle.std.specs.Prelude.{◌≡◌, ℕ, ◌+◌, ◌-◌, ◌*◌, ◌/◌, ◌<◌, ◌≤◌, Bool, List, length, nat_lt, refl, Some}
use Rattle.std.proofs.Common.{sym, ap, ◌∙◌, arith}
use Rattle.std.proofs.Math.Decide.{dec_lt}
use borrow.Author.Tests.{ltb-true, ltb-false}
use Rattle.shape.specs.Gather.{least}
use Rattle.shape.specs.Lists.{Mesh, word_of, start_of, end_of}
use Rattle.shape.specs.Refusal.{fine}
use Rattle.shape.proofs.Laws.Gather.{least_le}
use Rattle.lookup.specs.Mesh.{triangles}
use Rattle.lookup.specs.Sampler.{past_of, lane_of}
use Rattle.lookup.proofs.Laws.Spans.{past_is, lane_of_span, lane_before, lane_past}
use Rattle.joining.specs.Join.{join_of, input_fault, span_up}
use Rattle.joining.proofs.Laws.Least.{least_before, least_holds}
use Rattle.joining.proofs.Laws.Moved.{add_fives}
use Rattle.joining.proofs.Laws.Faults.{Fit, parts}
use Rattle.joining.proofs.Laws.Join.{spans_joined, span_first, span_second}

-- the first of the first m spans whose run of indices ends past i, or m
record Past (ss : List ℕ) (i m q : ℕ) : Type 0 where
  most : q ≤ m
  before : (j : ℕ) → j < q → end_of 5 3 ss j ≤ i
  past : q < m → i < end_of 5 3 ss q

past_least : (ss : List ℕ) (i m : ℕ) → Past ss i m (past_of ss i m)
unfolding past_of
past_least ss i m =
    let f : ℕ → Bool = λ k. nat_lt i (end_of 5 3 ss k) in
    record {
      most = least_le f m;
      before = λ j h. ltb-false i (end_of 5 3 ss j) (least_before f m j h);
      past = λ h. ltb-true i (end_of 5 3 ss (least f m)) (least_holds f m h);
    }

module _ (a b : Mesh) (f : Fit a) (g : Fit b) where
  abbrev n : ℕ
  n = length a.spans / 5

  abbrev m : ℕ
  m = length b.spans / 5

  abbrev whole : List ℕ
  whole = (join_of a b).spans

  spans_count : length whole / 5 ≡ n + m
  spans_count = ap (λ (k : ℕ). k / 5) (spans_joined a b g) ∙ add_fives (length a.spans) (length b.spans) f.spans

  id₂ : (k : ℕ) → k < m → word_of 5 whole (n + k) 0 ≡ word_of 5 b.spans k 0
  unfolding span_up
  id₂ k h = span_second a b f k 0 h (omega arith)

  start₂ : (k : ℕ) → k < m → start_of 5 3 whole (n + k) ≡ length a.indices + start_of 5 3 b.spans k
  unfolding span_up
  start₂ k h = span_second a b f k 3 h (omega arith)

  end₂ : (k : ℕ) → k < m → end_of 5 3 whole (n + k) ≡ length a.indices + end_of 5 3 b.spans k
  unfolding span_up
  end₂ k h = span_second a b f k 4 h (omega arith)

  id₁ : (k : ℕ) → k < n → word_of 5 whole k 0 ≡ word_of 5 a.spans k 0
  id₁ k h = span_first a b f k 0 h (omega arith)

  start₁ : (k : ℕ) → k < n → start_of 5 3 whole k ≡ start_of 5 3 a.spans k
  start₁ k h = span_first a b f k 3 h (omega arith)

  end₁ : (k : ℕ) → k < n → end_of 5 3 whole k ≡ end_of 5 3 a.spans k
  end₁ k h = span_first a b f k 4 h (omega arith)

  -- a triangle of the first part: its span is found there, or the next one starts behind the first part's indices
  module _ (t : ℕ) (h : t < triangles a.indices) where
    past₁ : (q : ℕ) → Past a.spans (3 * t) n q → q ≡ past_of whole (3 * t) (length whole / 5)
    past₁ q p =
        sym
        (past_is whole (3 * t) (length whole / 5) q (omega (arith, p.most, spans_count))
        (λ j l. rw (end₁ j (omega (arith, p.most))) (p.before j l))
        (λ l. ends (omega (arith, spans_count)) (dec_lt q n)))
      where
        ends : q < n + m → Dec (q < n) → 3 * t < end_of 5 3 whole q
        ends l (yes d) = rw (end₁ q d) (p.past d)
        ends l (no d) = let z : q ≡ n + 0 = omega (arith, p.most) in rw z (omega (arith, end₂ 0 (omega (arith, p.most))))

    lane₁ : (q : ℕ) → q ≡ past_of a.spans (3 * t) n → Past a.spans (3 * t) n q → lane_of whole t ≡ lane_of a.spans t
    lane₁ q e p = go (dec_lt q n) (dec_lt (3 * t) (start_of 5 3 a.spans q)) (dec_lt 0 m)
      where
        w : q ≡ past_of whole (3 * t) (length whole / 5)
        w = past₁ q p

        go : Dec (q < n) → Dec (3 * t < start_of 5 3 a.spans q) → Dec (0 < m) → lane_of whole t ≡ lane_of a.spans t
        go (yes l) (yes s) d =
            sym (lane_before whole t q w (omega (arith, spans_count)) (rw (start₁ q l) s)) ∙ lane_before a.spans t q e l s
        go (yes l) (no s) d =
            sym (lane_of_span whole t q w (omega (arith, spans_count)) (rw (start₁ q l) (omega arith))) ∙ ap (λ (a : ℕ). Some a) (id₁ q l) ∙ lane_of_span a.spans t q e l (omega arith)
        go (no l) s (yes d) =
            let z : q ≡ n + 0 = omega (arith, p.most) in
            let k : 3 * t < start_of 5 3 whole q = rw z (omega (arith, start₂ 0 d)) in
            sym (lane_before whole t q w (omega (arith, spans_count, p.most)) k) ∙ lane_past a.spans t q e (omega arith)
        go (no l) s (no d) = sym (lane_past whole t q w (omega (arith, spans_count))) ∙ lane_past a.spans t q e (omega arith)

    pub lane_first : lane_of (join_of a b).spans t ≡ lane_of a.spans t
    lane_first = lane₁ (past_of a.spans (3 * t) n) refl (past_least a.spans (3 * t) n)

  -- one of the second part: every run of the first part ends before it
  module _ (t : ℕ) where
    abbrev u : ℕ
    u = triangles a.indices + t

    place : 3 * u ≡ length a.indices + 3 * t
    place = omega (arith, f.indices)

    past₂ : (q : ℕ) → Past b.spans (3 * t) m q → n + q ≡ past_of whole (3 * u) (length whole / 5)
    past₂ q p =
        sym
        (past_is whole (3 * u) (length whole / 5) (n + q) (omega (arith, p.most, spans_count))
        (λ j l. before j l (dec_lt j n))
        (λ l. let k : q < m = omega (arith, spans_count) in rw (end₂ q k) (omega (arith, p.past k, place))))
      where
        before : (j : ℕ) → j < n + q → Dec (j < n) → end_of 5 3 whole j ≤ 3 * u
        before j l (yes d) = rw (end₁ j d) (omega (arith, (f.index_runs j d).within, place))
        before j l (no d) =
            let r = j - n in
            let k : r < q = omega arith in
            let z : j ≡ n + r = omega arith in
            rw z (omega (arith, end₂ r (omega (arith, p.most)), p.before r k, place))

    lane₂ : (q : ℕ) → q ≡ past_of b.spans (3 * t) m → Past b.spans (3 * t) m q → lane_of whole u ≡ lane_of b.spans t
    lane₂ q e p = go (dec_lt q m) (dec_lt (3 * t) (start_of 5 3 b.spans q))
      where
        w : n + q ≡ past_of whole (3 * u) (length whole / 5)
        w = past₂ q p

        go : Dec (q < m) → Dec (3 * t < start_of 5 3 b.spans q) → lane_of whole u ≡ lane_of b.spans t
        go (yes l) (yes s) =
            sym (lane_before whole u (n + q) w (omega (arith, spans_count)) (rw (start₂ q l) (omega (arith, place)))) ∙ lane_before b.spans t q e l s
        go (yes l) (no s) =
            sym (lane_of_span whole u (n + q) w (omega (arith, spans_count)) (rw (start₂ q l) (omega (arith, place)))) ∙ ap (λ (a : ℕ). Some a) (id₂ q l) ∙ lane_of_span b.spans t q e l (omega arith)
        go (no l) s = sym (lane_past whole u (n + q) w (omega (arith, spans_count))) ∙ lane_past b.spans t q e (omega arith)

    pub lane_second : lane_of (join_of a b).spans (triangles a.indices + t) ≡ lane_of b.spans t
    lane_second = lane₂ (past_of b.spans (3 * t) m) refl (past_least b.spans (3 * t) m)

-- triangles of the first part keep their numbers, those of the second are moved up, and each keeps its lane
pub record LaneKept (a b : Mesh) : Type 0 where
  pub first : (t : ℕ) → t < triangles a.indices → lane_of (join_of a b).spans t ≡ lane_of a.spans t
  pub second : (t : ℕ) → lane_of (join_of a b).spans (triangles a.indices + t) ≡ lane_of b.spans t

pub lane_kept : (a b : Mesh) → input_fault a b ≡ fine → LaneKept a b
lane_kept a b e =
    let p = parts a b e in
    record { first = lane_first a b p.first p.second; second = lane_second a b p.first p.second }
