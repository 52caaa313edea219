-- Demand 3, the lane: over a mesh that came from lanes, the lane named for a triangle is the one whose strip holds it; every triangle is in one strip; and such
-- a mesh is in order. Assumes nothing.
use Rattle.std.specs.Prelude.{◌≡◌, ℕ, zero, suc, ◌+◌, ◌*◌, ◌/◌, ◌%◌, ◌<◌, ◌≤◌, Bool, false, List, [], ◌∷◌, length, ◌≢◌, slice_index, refl, Some}
use Prim.Native.Nat.{zero-le}
use Rattle.std.proofs.Common.{sym, ◌∙◌, arith}
use Rattle.std.proofs.Math.Path.{ap}
use Rattle.std.proofs.Math.Decide.{dec_lt}
use borrow.Author.Tests.{le-ltb}
use Rattle.shape.specs.Gather.{gather, any}
use Rattle.shape.specs.Lists.{word_of, start_of, end_of, last_end, run_bad, longer, uneven, Mesh, mesh_fault}
use Rattle.shape.specs.MeshMemory.{lengths_of, room_fault}
use Rattle.shape.specs.declared.mesh.MeshCounts.{MeshCounts}
use Rattle.shape.specs.Refusal.{fine, taken}
use Rattle.shape.specs.Strip.{kept, six_of, vertices_at, vertices_of}
use Rattle.shape.specs.SurfaceMesh.{Given, lanes_of, lane_at, lane_vertices, lane_indices, lane_span, span_of, base_of, index_of, mesh_of, input_fault, counts_of, call_fault, answer_of}
use Rattle.shape.proofs.Laws.Gather.{gather_fits, gather_at, gather_even, gather_owner, Multiple, gather_multiple}
use Rattle.shape.proofs.Laws.MeshMemory.{both_fine, room_fits}
use Rattle.shape.proofs.Laws.SurfaceMesh.{base_next, index_next, index_owner, owner_ribs, normals_match}
use Rattle.lookup.specs.Mesh.{triangles}
use Rattle.lookup.specs.Sampler.{past_of, lane_of}
use Rattle.lookup.specs.Demand3.{InStrip, id_of}
use Rattle.lookup.proofs.Laws.Limits.{judged}
use Rattle.lookup.proofs.Laws.Spans.{past_is, lane_of_span}

-- a span is of five words or of none
span_five : (m id v v' i i' : ℕ) → Multiple 5 (length (span_of m id v v' i i'))
unfolding span_of
span_five zero id v v' i i' = record { times = 0; is = refl }
span_five (suc m) id v v' i i' = record { times = 1; is = refl }

span_some : (m id v v' i i' : ℕ) → (m ≢ 0) → span_of m id v v' i i' ≡ id ∷ v ∷ v' ∷ i ∷ i' ∷ []
unfolding span_of
span_some zero id v v' i i' h = absurd (h refl)
span_some (suc m) id v v' i i' h = refl

span_ribs : (m id v v' i i' : ℕ) → 0 < length (span_of m id v v' i i') → m ≢ 0
unfolding span_of
span_ribs zero id v v' i i' h z = omega arith
span_ribs (suc m) id v v' i i' h z = omega arith

any_false : (f : ℕ → Bool) (n : ℕ) → ((k : ℕ) → k < n → f k ≡ false) → any f n ≡ false
unfolding any
any_false f zero h = refl
any_false f (suc n) h = simp (any_false f n (λ k l. h k (omega arith)), h n (omega arith))

module _ (g : Given) where
  -- how many spans there are before lane k's
  spans_before : ℕ → ℕ
  spans_before k = length (gather (lane_span g) k) / 5

  fives : (k : ℕ) → length (gather (lane_span g) k) ≡ 5 * spans_before k
  unfolding lane_span spans_before
  fives k = let m = gather_multiple (lane_span g) 5 (λ i. span_five (length (kept (lane_at g i))) (id_of g i) (base_of g i) (base_of g (i + 1)) (index_of g i) (index_of g (i + 1))) k in omega (arith, m.is)

  lane_span_words : (k : ℕ) → (length (kept (lane_at g k)) ≢ 0) → lane_span g k ≡ id_of g k ∷ base_of g k ∷ base_of g (k + 1) ∷ index_of g k ∷ index_of g (k + 1) ∷ []
  unfolding lane_span
  lane_span_words k h = span_some (length (kept (lane_at g k))) _ _ _ _ _ h

  with_ribs : (k : ℕ) → (length (kept (lane_at g k)) ≢ 0) → length (lane_span g k) ≡ 5
  with_ribs k h = ap (λ (o : List ℕ). length o) (lane_span_words k h)

  span_is : (k j : ℕ) → k < lanes_of g → (length (kept (lane_at g k)) ≢ 0) → j < 5
      → word_of 5 (mesh_of g).spans (spans_before k) j ≡ slice_index (id_of g k ∷ base_of g k ∷ base_of g (k + 1) ∷ index_of g k ∷ index_of g (k + 1) ∷ []) j
  unfolding mesh_of word_of
  span_is k j h r l =
      rw (← (fives k))
      (gather_at (lane_span g) (lanes_of g) k j 0 h (rw (lane_span_words k r) l) ∙ ap (λ (xs : List ℕ). slice_index xs j) (lane_span_words k r))

  has_ribs : (k : ℕ) → 0 < length (lane_span g k) → length (kept (lane_at g k)) ≢ 0
  unfolding lane_span
  has_ribs k h = span_ribs (length (kept (lane_at g k))) _ _ _ _ _ h

  -- span j, of those of the lanes before k, is that of a lane with ribs
  record Spanned (k j : ℕ) : Type 0 where
    by : ℕ
    below_k : by < k
    ribbed : length (kept (lane_at g by)) ≡ 0 → ⊥
    place : j ≡ spans_before by

  spanned : (k j : ℕ) → j < spans_before k → Spanned k j
  spanned k j h =
      let o = gather_owner (lane_span g) k (5 * j + 4) (omega (arith, fives k)) in
      let r = has_ribs o.owner (omega (arith, o.from, o.to)) in
      record { by = o.owner; below_k = o.below_n; ribbed = r; place = omega (arith, o.from, o.to, fives o.owner, with_ribs o.owner r) }

  -- the spans of the lanes before k end at k's first index or before
  ends_before : (k j : ℕ) → k ≤ lanes_of g → j < spans_before k → end_of 5 3 (mesh_of g).spans j ≤ index_of g k
  ends_before k j l h =
      let o = spanned k j h in
      let i = o.by in
      let w : end_of 5 3 (mesh_of g).spans j ≡ index_of g (i + 1) = ap (end_of 5 3 (mesh_of g).spans) o.place ∙ span_is i 4 (omega (arith, o.below_k)) o.ribbed (omega arith) in
      omega (arith, w, index_next g i, gather_fits (lane_indices g) i k o.below_k)

  module _ (t k : ℕ) (s : InStrip g t k) where
    ribs : length (kept (lane_at g k)) ≡ 0 → ⊥
    ribs = owner_ribs g k (omega (arith, index_next g k, s.from, s.to))

    below : spans_before k < length (mesh_of g).spans / 5
    unfolding mesh_of
    below = omega (arith, fives k, with_ribs k ribs, gather_fits (lane_span g) k (lanes_of g) s.lane)

    span_found : spans_before k ≡ past_of (mesh_of g).spans (3 * t) (length (mesh_of g).spans / 5)
    span_found =
        sym (past_is (mesh_of g).spans (3 * t) (length (mesh_of g).spans / 5) (spans_before k) (omega (arith, below))
        (λ j h. omega (arith, ends_before k j (omega (arith, s.lane)) h, s.from))
        (λ l. let w : end_of 5 3 (mesh_of g).spans (spans_before k) ≡ index_of g (k + 1) = span_is k 4 s.lane ribs (omega arith) in omega (arith, w, s.to)))

    pub strip_lane : lane_of (mesh_of g).spans t ≡ Some (id_of g k)
    strip_lane =
        let w : start_of 5 3 (mesh_of g).spans (spans_before k) ≡ index_of g k = span_is k 3 s.lane ribs (omega arith) in
        let i : word_of 5 (mesh_of g).spans (spans_before k) 0 ≡ id_of g k = span_is k 0 s.lane ribs (omega arith) in
        sym (lane_of_span (mesh_of g).spans t (spans_before k) span_found below (omega (arith, w, s.from))) ∙ ap (λ (a : ℕ). Some a) i

  -- every triangle of the mesh is in a strip
  pub record Stripped (t : ℕ) : Type 0 where
    pub of : ℕ
    pub in_strip : InStrip g t of

  pub strip_of : (t : ℕ) → t < triangles (mesh_of g).indices → Stripped t
  unfolding mesh_of
  strip_of t h =
      let o = index_owner g (3 * t) (omega arith) in
      record { of = o.owner; in_strip = record { lane = o.below_n; from = o.from; to = omega (arith, o.to, index_next g o.owner) } }

  -- and in one only
  later_lane : (t j k : ℕ) → j < k → InStrip g t j → InStrip g t k → ⊥
  later_lane t j k l p q = omega (arith, index_next g j, gather_fits (lane_indices g) j k l, p.to, q.from)

  pub one_strip : (t j k : ℕ) → InStrip g t j → InStrip g t k → j ≡ k
  one_strip t j k p q = go (dec_lt j k) (dec_lt k j)
    where
      go : Dec (j < k) → Dec (k < j) → j ≡ k
      go (yes a) d = absurd (later_lane t j k a p q)
      go (no a) (yes d) = absurd (later_lane t k j d q p)
      go (no a) (no d) = omega arith

  -- ---- such a mesh is in order

  -- the runs of the spans, from f of a lane up to f of the next, where f rises up to n
  module _
      (f : ℕ → ℕ)
      (a n : ℕ)
      (rises : (i k : ℕ) → i < k → f (i + 1) ≤ f k)
      (goes : (i : ℕ) → f i ≤ f (i + 1))
      (ends : f (lanes_of g) ≤ n)
      (from_is : (i : ℕ) → i < lanes_of g → (length (kept (lane_at g i)) ≢ 0) → start_of 5 a (mesh_of g).spans (spans_before i) ≡ f i)
      (to_is : (i : ℕ) → i < lanes_of g → (length (kept (lane_at g i)) ≢ 0) → end_of 5 a (mesh_of g).spans (spans_before i) ≡ f (i + 1))
    where
      last_before : (j i : ℕ) → i < lanes_of g → j ≡ spans_before i → last_end 5 a (mesh_of g).spans j ≤ f i
      unfolding last_end
      last_before zero i l e = zero-le
      last_before (suc j) i l e =
          let o = spanned i j (omega arith) in
          let w : end_of 5 a (mesh_of g).spans j ≡ f (o.by + 1) = ap (end_of 5 a (mesh_of g).spans) o.place ∙ to_is o.by (omega (arith, o.below_k)) o.ribbed in
          omega (arith, w, rises o.by i o.below_k)

      not_bad : (j : ℕ) → j < spans_before (lanes_of g) → run_bad 5 a (mesh_of g).spans n j ≡ false
      unfolding run_bad
      not_bad j h =
          let o = spanned (lanes_of g) j h in
          let s : start_of 5 a (mesh_of g).spans j ≡ f o.by = ap (start_of 5 a (mesh_of g).spans) o.place ∙ from_is o.by o.below_k o.ribbed in
          let e : end_of 5 a (mesh_of g).spans j ≡ f (o.by + 1) = ap (end_of 5 a (mesh_of g).spans) o.place ∙ to_is o.by o.below_k o.ribbed in
          simp (
            le-ltb (end_of 5 a (mesh_of g).spans j) (start_of 5 a (mesh_of g).spans j) (omega (arith, s, e, goes o.by)),
            le-ltb (start_of 5 a (mesh_of g).spans j) (last_end 5 a (mesh_of g).spans j) (omega (arith, s, last_before j o.by o.below_k o.place)),
            le-ltb n (end_of 5 a (mesh_of g).spans j) (omega (arith, e, rises o.by (lanes_of g) o.below_k)),
          )

      none_bad : any (run_bad 5 a (mesh_of g).spans n) (length (mesh_of g).spans / 5) ≡ false
      unfolding mesh_of spans_before
      none_bad = any_false (run_bad 5 a (mesh_of g).spans n) (length (mesh_of g).spans / 5) not_bad

  vertex_runs : any (run_bad 5 1 (mesh_of g).spans (length (mesh_of g).vertices / 3)) (length (mesh_of g).spans / 5) ≡ false
  unfolding mesh_of
  vertex_runs =
      none_bad (base_of g) 1 (length (mesh_of g).vertices / 3)
      (λ i k l. omega (arith, base_next g i, gather_fits (lane_vertices g) i k l))
      (λ i. omega (arith, base_next g i))
      (omega arith)
      (λ i l r. span_is i 1 l r (omega arith))
      (λ i l r. span_is i 2 l r (omega arith))

  index_runs : any (run_bad 5 3 (mesh_of g).spans (length (mesh_of g).indices)) (length (mesh_of g).spans / 5) ≡ false
  unfolding mesh_of
  index_runs =
      none_bad (index_of g) 3 (length (mesh_of g).indices)
      (λ i k l. omega (arith, index_next g i, gather_fits (lane_indices g) i k l))
      (λ i. omega (arith, index_next g i))
      (omega arith)
      (λ i l r. span_is i 3 l r (omega arith))
      (λ i l r. span_is i 4 l r (omega arith))

  vertices_six : (k : ℕ) → length (lane_vertices g k) ≡ 6 * length (kept (lane_at g k))
  unfolding lane_vertices vertices_of six_of
  vertices_six k = gather_even (vertices_at (lane_at g k) (kept (lane_at g k))) 6 (λ i. refl) (length (kept (lane_at g k)))

  threes : length (mesh_of g).vertices % 3 ≡ 0
  unfolding mesh_of
  threes = let m = gather_multiple (lane_vertices g) 3 (λ i. record { times = 2 * length (kept (lane_at g i)); is = omega (arith, vertices_six i) }) (lanes_of g) in omega (arith, m.is)

  spans_five : length (mesh_of g).spans % 5 ≡ 0
  unfolding mesh_of
  spans_five = omega (arith, fives (lanes_of g))

  -- what meshing writes within the limits, no lookup turns back
  pub lanes_in_order : length (mesh_of g).vertices ≤ 196608 → length (mesh_of g).indices ≤ 196608 → length (mesh_of g).spans ≤ 5120 → mesh_fault (mesh_of g) ≡ fine
  unfolding mesh_fault longer uneven
  lanes_in_order v i s =
      simp (
        le-ltb 196608 (length (mesh_of g).vertices) v,
        normals_match g,
        le-ltb 196608 (length (mesh_of g).indices) i,
        le-ltb 5120 (length (mesh_of g).spans) s,
        threes,
        spans_five,
        vertex_runs,
        index_runs,
      )

  -- so is what a taken call of meshing wrote
  pub written_in_order : (before : Mesh) (c : MeshCounts) → answer_of g before ≡ taken c → mesh_fault (mesh_of g) ≡ fine
  unfolding answer_of call_fault
  written_in_order before c e =
      let m = mesh_of g in
      let f = (judged (call_fault g (lengths_of before)) (taken (counts_of (lengths_of m))) c e).0 in
      let r = room_fits (lengths_of m) (lengths_of before) (both_fine (input_fault g) (room_fault (lengths_of m) (lengths_of before)) f).1 in
      lanes_in_order r.few_vertices r.few_indices r.few_spans
