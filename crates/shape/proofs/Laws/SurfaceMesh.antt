-- What the mesh of lanes is like: its spans are in order and cover what is written exactly once, a lane's triangles have their corners in its own run of
-- vertices, and every index names a vertex. Assumes nothing.
use Rattle.std.specs.Prelude.{◌≡◌, ℕ, zero, suc, ◌+◌, ◌-◌, ◌*◌, ◌/◌, ◌<◌, ◌≤◌, Bool, true, false, List, [], ◌∷◌, ◌++◌, length, ◌≢◌, slice_index, slice_index_or}
use Rattle.std.proofs.Math.Path.{refl, sym, ap, subst}
use Rattle.std.proofs.Common.{◌∙◌, append-nil, mul-add, add-one, length-append}
use native.Mathlib.Omega.{arith}
use Rattle.shape.specs.declared.rib.Rib.{Rib}
use Rattle.shape.specs.Gather.{gather, any}
use Rattle.shape.specs.Refusal.{Fault, fine, fault, refuse, or_else, Answer, taken, judge}
use Rattle.shape.specs.Lists.{word_of, longer, uneven, run_bad, run_long, Mesh}
use Rattle.shape.specs.Strip.{Lane, kept, no_area, six_of, ups_of, triangle_of, segment_of, vertices_at, normals_at, indices_at, vertices_of, normals_of, indices_of}
use Rattle.shape.specs.SurfaceMesh.{Given, lanes_of, lane_at, lane_vertices, lane_normals, lane_indices, lane_span, span_of, base_of, index_of, mesh_of, lane_limits, runs_ragged, lane_ragged, input_fault, counts_of, call_fault, answer_of}
use Rattle.shape.proofs.Laws.MeshMemory.{result_fault, strips_room}
use Rattle.shape.proofs.Laws.Refusal.{else_refuse}
use Rattle.shape.proofs.Laws.Gather.{gather_next, gather_fits, gather_even, gather_same, gather_at, Owner, gather_owner, Multiple, gather_multiple}

judge_or : {A : Type 0} (a b : Fault) (x : Answer A) → judge (or_else a b) x ≡ judge a (judge b x)
unfolding or_else judge
judge_or fine b x = refl
judge_or (fault n p) b x = refl

-- ---- spans

-- spans one after another, from vertex v and index i to vertex v' and index i': each starts where the last ended
pub data Chain (v i : ℕ) : List ℕ → ℕ → ℕ → Type 0 where
  start : Chain v i [] v i
  next : {ss : List ℕ} {a b : ℕ} (id a' b' : ℕ) → a ≤ a' → b ≤ b' → Chain v i ss a b → Chain v i (ss ++ (id ∷ a ∷ a' ∷ b ∷ b' ∷ [])) a' b'

-- a lane with no ribs adds nothing
no_vertices : (g : Given) (k : ℕ) → length (kept (lane_at g k)) ≡ 0 → length (lane_vertices g k) ≡ 0
unfolding lane_vertices vertices_of gather
no_vertices g k h = rw h

no_indices : (g : Given) (k : ℕ) → length (kept (lane_at g k)) ≡ 0 → length (lane_indices g k) ≡ 0
unfolding lane_indices indices_of gather
no_indices g k h = rw h

-- a lane with ribs has a span, and any span is of five words
some : (m : ℕ) → (m ≢ 0) → {id v v' i i' : ℕ} → span_of m id v v' i i' ≡ id ∷ v ∷ v' ∷ i ∷ i' ∷ []
unfolding span_of
some zero h = absurd (h refl)
some (suc m) h = refl

span_five : (m id v v' i i' : ℕ) → Multiple 5 (length (span_of m id v v' i i'))
unfolding span_of
span_five zero id v v' i i' = record { times = 0; is = refl }
span_five (suc m) id v v' i i' = record { times = 1; is = refl }

-- ---- every number of a list is at least a and below b

data Within (a b : ℕ) : List ℕ → Type 0 where
  none : Within a b []
  one : {x : ℕ} {xs : List ℕ} → a ≤ x → x < b → Within a b xs → Within a b (x ∷ xs)

module _ (a b : ℕ) where
  both : {xs ys : List ℕ} → Within a b xs → Within a b ys → Within a b (xs ++ ys)
  both none q = q
  both (one h k p) q = one h k (both p q)

  at : (xs : List ℕ) → Within a b xs → (t : ℕ) → t < length xs → (a ≤ slice_index xs t) × (slice_index xs t < b)
  at [] none t h = absurd (omega arith)
  at (x ∷ xs) (one p q r) zero h = (p, q)
  at (x ∷ xs) (one p q r) (suc t) h = at xs r t (omega arith)

  gathered : (f : ℕ → List ℕ) (n : ℕ) → ((k : ℕ) → k < n → Within a b (f k)) → Within a b (gather f n)
  unfolding gather
  gathered f zero h = none
  gathered f (suc n) h = both (gathered f n (λ k p. h k (omega arith))) (h n (omega arith))

  triangle : (flat : Bool) (v i j : ℕ) → a ≤ v → i ≤ 3 → j ≤ 3 → v + 3 < b → Within a b (triangle_of flat v (v + i) (v + j))
  unfolding triangle_of
  triangle true v i j h p q r = none
  triangle false v i j h p q r = one {x = v} h (omega arith) (one {x = v + i} (omega arith) (omega arith) (one {x = v + j} (omega arith) (omega arith) none))

  segment : (v : ℕ) (r s : Rib) → a ≤ v → v + 3 < b → Within a b (segment_of v r s)
  unfolding segment_of
  segment v r s l h =
      both (triangle (no_area r.left r.right s.right) v 1 3 l (omega arith) (omega arith) h)
      (triangle (no_area r.left s.right s.left) v 3 2 l (omega arith) (omega arith) h)

  strip : (v : ℕ) (l : Lane) (ks : List ℕ) → a ≤ v → v + 2 * length ks ≤ b → Within a b (indices_of v l ks)
  unfolding indices_of
  strip v l ks k h = gathered (indices_at v l ks) (length ks - 1) (λ i p. segment (v + 2 * i) _ _ (omega arith) (omega arith))

-- two vertices a rib, and two normals
vertices_count : (g : Given) (k : ℕ) → length (lane_vertices g k) ≡ 6 * length (kept (lane_at g k))
unfolding lane_vertices vertices_of six_of
vertices_count g k = gather_even (vertices_at (lane_at g k) (kept (lane_at g k))) 6 (λ i. refl) (length (kept (lane_at g k)))

normals_count : (g : Given) (k : ℕ) → length (lane_normals g k) ≡ 6 * length (kept (lane_at g k))
unfolding lane_normals normals_of ups_of
normals_count g k = gather_even (normals_at (lane_at g k) (kept (lane_at g k))) 6 (λ i. refl) (length (kept (lane_at g k)))

lane_within : (g : Given) (k : ℕ) → Within (base_of g k) (base_of g (k + 1)) (lane_indices g k)
unfolding lane_indices
lane_within g k =
    let ks = kept (lane_at g k) in
    let e : length (gather (lane_vertices g) (k + 1)) ≡ length (gather (lane_vertices g) k) + length (lane_vertices g k) = rw (gather_next (lane_vertices g) k, length-append) in
    strip (base_of g k) (base_of g (k + 1)) (base_of g k) (lane_at g k) ks (omega arith) (omega (arith, vertices_count g k))

-- triangles are in threes
three : (flat : Bool) (x y z : ℕ) → Multiple 3 (length (triangle_of flat x y z))
unfolding triangle_of
three true x y z = record { times = 0; is = refl }
three false x y z = record { times = 1; is = refl }

six : (v : ℕ) (r s : Rib) → Multiple 3 (length (segment_of v r s))
unfolding segment_of
six v r s =
    let p = three (no_area r.left r.right s.right) v (v + 1) (v + 3) in
    let q = three (no_area r.left s.right s.left) v (v + 3) (v + 2) in
    record { times = p.times + q.times; is = rw (length-append, p.is, q.is, mul-add) }

lane_threes : (g : Given) (k : ℕ) → Multiple 3 (length (lane_indices g k))
unfolding lane_indices indices_of
lane_threes g k =
    let ks = kept (lane_at g k) in
    gather_multiple (indices_at (base_of g k) (lane_at g k) ks) 3 (λ i. six (base_of g k + 2 * i) _ _) (length ks - 1)

module _ (g : Given) where
  pub base_next : (k : ℕ) → length (gather (lane_vertices g) (k + 1)) ≡ length (gather (lane_vertices g) k) + length (lane_vertices g k)
  base_next k = rw (gather_next (lane_vertices g) k, length-append)

  pub index_next : (k : ℕ) → index_of g (k + 1) ≡ index_of g k + length (lane_indices g k)
  index_next k = rw (gather_next (lane_indices g) k, length-append)

  -- one lane more
  more : (k m : ℕ) → m ≡ length (kept (lane_at g k)) → (ss : List ℕ) → (id : ℕ) → Chain 0 0 ss (base_of g k) (index_of g k)
      → Chain 0 0 (ss ++ span_of m id (base_of g k) (base_of g (k + 1)) (index_of g k) (index_of g (k + 1))) (base_of g (k + 1)) (index_of g (k + 1))
  unfolding span_of
  more k zero e ss id c =
      let b : base_of g (k + 1) ≡ base_of g k = omega (arith, base_next k, no_vertices g k (sym e)) in
      let i : index_of g (k + 1) ≡ index_of g k = omega (arith, index_next k, no_indices g k (sym e)) in
      rw (append-nil, b, i) c
  more k (suc m) e ss id c = next {a = base_of g k} {b = index_of g k} id (base_of g (k + 1)) (index_of g (k + 1)) (omega (arith, base_next k)) (omega (arith, index_next k)) c

  chain_next : (k : ℕ) → Chain 0 0 (gather (lane_span g) k) (base_of g k) (index_of g k) → Chain 0 0 (gather (lane_span g) (k + 1)) (base_of g (k + 1)) (index_of g (k + 1))
  unfolding lane_span
  chain_next k c = rw (gather_next (lane_span g) k) (more k (length (kept (lane_at g k))) refl (gather (lane_span g) k) (word_of 10 g.lanes k 0) c)

  chain_to : (k : ℕ) → Chain 0 0 (gather (lane_span g) k) (base_of g k) (index_of g k)
  unfolding gather
  chain_to zero = start
  chain_to (suc k) = subst (λ (n : ℕ). Chain 0 0 (gather (lane_span g) n) (base_of g n) (index_of g n)) (add-one k) (chain_next k (chain_to k))

  -- the spans start at 0, each starts where the last ended, and the last ends at the totals
  pub spans_cover : Chain 0 0 (mesh_of g).spans (length (mesh_of g).vertices / 3) (length (mesh_of g).indices)
  unfolding mesh_of
  spans_cover = chain_to (lanes_of g)

  -- word j of the span of lane k, which has ribs
  span_word : (k : ℕ) → (length (kept (lane_at g k)) ≢ 0) → lane_span g k
      ≡ word_of 10 g.lanes k 0 ∷ base_of g k ∷ base_of g (k + 1) ∷ index_of g k ∷ index_of g (k + 1) ∷ []
  unfolding lane_span
  span_word k h = some (length (kept (lane_at g k))) h

  -- the number of spans before lane k's
  pub spans_before : ℕ → ℕ
  spans_before k = length (gather (lane_span g) k) / 5

  fives : (k : ℕ) → length (gather (lane_span g) k) ≡ 5 * spans_before k
  unfolding lane_span spans_before
  fives k = let m = gather_multiple (lane_span g) 5 (λ i. span_five (length (kept (lane_at g i))) (word_of 10 g.lanes i 0) (base_of g i) (base_of g (i + 1)) (index_of g i) (index_of g (i + 1))) k in omega (arith, m.is)

  -- the span of a lane with ribs: the lane's id, the run of its vertices and the run of its indices
  pub span_is : (k j : ℕ) → k < lanes_of g → (length (kept (lane_at g k)) ≢ 0) → j < 5
      → word_of 5 (mesh_of g).spans (spans_before k) j
      ≡ slice_index (word_of 10 g.lanes k 0 ∷ base_of g k ∷ base_of g (k + 1) ∷ index_of g k ∷ index_of g (k + 1) ∷ []) j
  unfolding mesh_of word_of
  span_is k j h some small =
      rw (← (fives k))
      (gather_at (lane_span g) (lanes_of g) k j 0 h (rw (span_word k some) small) ∙ ap (λ (xs : List ℕ). slice_index xs j) (span_word k some))

  -- ---- triangles

  -- every index belongs to one lane, which has ribs
  pub index_owner : (t : ℕ) → t < length (mesh_of g).indices → Owner (lane_indices g) (lanes_of g) t
  unfolding mesh_of
  index_owner t h = gather_owner (lane_indices g) (lanes_of g) t h

  pub owner_ribs : (k : ℕ) → 0 < length (lane_indices g k) → length (kept (lane_at g k)) ≢ 0
  owner_ribs k h e = omega (arith, no_indices g k e)

  -- a lane's indices name vertices of that lane
  pub corners_within : (k t : ℕ) → k < lanes_of g → t < length (lane_indices g k)
      → (base_of g k ≤ slice_index (mesh_of g).indices (index_of g k + t)) × (slice_index (mesh_of g).indices (index_of g k + t) < base_of g (k + 1))
  unfolding mesh_of
  corners_within k t h p =
      rw (gather_at (lane_indices g) (lanes_of g) k t 0 h p) (at (base_of g k) (base_of g (k + 1)) (lane_indices g k) (lane_within g k) t p)

  -- every index names a vertex
  pub indices_below : (t : ℕ) → t < length (mesh_of g).indices → slice_index (mesh_of g).indices t < length (mesh_of g).vertices / 3
  unfolding mesh_of
  indices_below t h =
      let o = gather_owner (lane_indices g) (lanes_of g) t h in
      let k = o.owner in
      let e : index_of g k + (t - index_of g k) ≡ t = omega (arith, o.from) in
      let c = corners_within k (t - index_of g k) o.below_n (omega (arith, o.to, o.from)) in
      let b : base_of g (k + 1) ≤ length (gather (lane_vertices g) (lanes_of g)) / 3 = omega (arith, base_next k, gather_fits (lane_vertices g) k (lanes_of g) o.below_n) in
      let d : slice_index_or (gather (lane_indices g) (lanes_of g)) t 0 < base_of g (k + 1) = rw e at c.1 in
      omega arith

  -- the indices are in threes, in all and up to each lane
  pub indices_threes : (k : ℕ) → Multiple 3 (index_of g k)
  indices_threes k = gather_multiple (lane_indices g) 3 (λ i. lane_threes g i) k

  -- as many normals as vertices
  pub normals_match : length (mesh_of g).normals ≡ length (mesh_of g).vertices
  unfolding mesh_of
  normals_match = gather_same (lane_normals g) (lane_vertices g) (λ k. normals_count g k ∙ sym (vertices_count g k)) (lanes_of g)

  -- ---- the refusals and the answer, written out

  pub input_written_out : input_fault g
      ≡ (let n : ℕ = lanes_of g in
      refuse (any (run_long 10 1 g.lanes 4096) n) 1 4096
      (refuse (any (run_long 10 3 g.lanes 4096) n) 1 4096
      (refuse (any (run_long 10 5 g.lanes 4096) n) 1 4096
      (refuse (any (run_long 10 7 g.lanes 4096) n) 1 4096
      (refuse (longer 10 1024 g.lanes) 1 1024
      (refuse (uneven 3 g.points) 2 0
      (refuse (uneven 3 g.tangents) 2 1
      (refuse (uneven 2 g.banks) 2 3
      (refuse (uneven 10 g.lanes) 2 4
      (refuse (any (run_bad 10 1 g.lanes (length g.points / 3)) n) 2 4
      (refuse (any (run_bad 10 3 g.lanes (length g.tangents / 3)) n) 2 4
      (refuse (any (run_bad 10 5 g.lanes (length g.widths)) n) 2 4
      (refuse (any (run_bad 10 7 g.lanes (length g.banks / 2)) n) 2 4 fine)))))))))))))
  unfolding input_fault lane_limits lane_ragged runs_ragged or_else
  input_written_out = rw (else_refuse, else_refuse, else_refuse, else_refuse, else_refuse)

  pub answer_written_out : (before : Mesh)
      → answer_of g before
      ≡ (let m : Mesh = mesh_of g in
      let v : ℕ = length m.vertices in
      let i : ℕ = length m.indices in
      let s : ℕ = length m.spans in
      judge (input_fault g)
      (judge (result_fault v i s (length before.vertices) (length before.normals) (length before.indices) (length before.spans))
      (taken (record { vertices = v / 3; normals = v / 3; indices = i; spans = s / 5 }))))
  unfolding answer_of call_fault counts_of
  answer_written_out before =
      judge_or (input_fault g) _ _ ∙ rw (normals_match, strips_room)
