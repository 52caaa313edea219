-- What parts without a fault tell of their whole: how long its lists are, that numbers moved up still are words, that it stands in the memory; and from the
-- checks to the answer. Assumes nothing.
use Rattle.std.specs.Prelude.{◌≡◌, ℕ, ◌+◌, ◌*◌, ◌/◌, ◌<◌, ◌≤◌, List, ◌++◌, length, Float, Ok, Err}
use Rattle.std.proofs.Common.{sym, ap, subst, ◌∙◌, length-append, arith}
use Rattle.shape.specs.declared.memory.Lengths.{Lengths}
use Rattle.shape.specs.declared.mesh.MeshCounts.{MeshCounts}
use Rattle.shape.specs.declared.refusal.Refusal.{Refusal}
use Rattle.shape.specs.Lists.{Mesh, mesh_lists}
use Rattle.shape.specs.Memory.{Put}
use Rattle.shape.specs.MeshMemory.{lengths_of, mesh_room, leaves_mesh}
use Rattle.shape.specs.Refusal.{fine, found, told, taken, judge}
use Rattle.shape.specs.SurfaceMesh.{counts_of}
use Rattle.shape.proofs.Laws.Memory.{put_then}
use Rattle.shape.proofs.Laws.MeshMemory.{Fits, room_fits, mesh_left, mesh_stays}
use Rattle.shape.proofs.Laws.Refusal.{stops_first, goes_then}
use Rattle.joining.specs.Join.{points, indices_up, spans_up, join_of, input_fault, call_fault, join_answer}
use Rattle.joining.specs.JoinSteps.{Movable, SpanMovable}
use Rattle.joining.proofs.Laws.Moved.{spans_length}
use Rattle.joining.proofs.Laws.Faults.{parts}
use Rattle.joining.proofs.Laws.Join.{indices_joined, spans_joined}

module _ (a b : Mesh) where
  pub indices_put : {out m m' : List ℕ} → Put out m 0 a.indices (length a.indices)
      → Put m m' (length a.indices) (indices_up (points a) b.indices) (length a.indices + length b.indices)
      → Put out m' 0 (join_of a b).indices (length (join_of a b).indices)
  unfolding join_of
  indices_put p q =
      let e : length (a.indices ++ indices_up (points a) b.indices) ≡ length a.indices + length b.indices = indices_joined a b in
      rw e (put_then p q)

  pub spans_put : {out m m' : List ℕ} → Put out m 0 a.spans (length a.spans)
      → Put m m' (length a.spans) (spans_up (points a) (length a.indices) b.spans) (length a.spans + 5 * (length b.spans / 5))
      → Put out m' 0 (join_of a b).spans (length (join_of a b).spans)
  unfolding join_of
  spans_put p q = rw (length-append, spans_length) (put_then p q)

  module _ (e : input_fault a b ≡ fine) where
    pub lengths_joined : record {
      vertices = length a.vertices + length b.vertices;
      normals = length a.normals + length b.normals;
      indices = length a.indices + length b.indices;
      spans = length a.spans + length b.spans;
    }
        ≡ lengths_of (join_of a b)
    unfolding join_of
    lengths_joined =
        let i : length (a.indices ++ indices_up (points a) b.indices) ≡ length a.indices + length b.indices = indices_joined a b in
        let s : length (a.spans ++ spans_up (points a) (length a.indices) b.spans) ≡ length a.spans + length b.spans = spans_joined a b (parts a b e).second in
        rw (length-append a.vertices b.vertices, length-append a.normals b.normals, i, s)

    pub indices_fit : Movable (points a) b.indices
    indices_fit k h = let p = parts a b e in omega (arith, p.first_small.vertices, p.second_small.vertices, p.second.close k h)

    pub spans_fit : (k : ℕ) → k < length b.spans / 5 → SpanMovable (points a) (length a.indices) b.spans k
    spans_fit k h =
        let p = parts a b e in
        let v = p.second.vertex_runs k h in
        let i = p.second.index_runs k h in
        record {
          first = omega (arith, p.first_small.vertices, p.second_small.vertices, v.order, v.within);
          last = omega (arith, p.first_small.vertices, p.second_small.vertices, v.within);
          from = omega (arith, p.first_small.indices, p.second_small.indices, i.order, i.within);
          to = omega (arith, p.first_small.indices, p.second_small.indices, i.within);
        }

-- ---- from the checks to the answer

module _ (a b before : Mesh) (r : Refusal) where
  turned_back : found (Err r) ≡ call_fault a b before → (told (Err r) ≡ join_answer a b before) × (before ≡ leaves_mesh (join_answer a b before) (join_of a b) before)
  unfolding told join_answer judge found
  turned_back e = let t : told (Err r) ≡ join_answer a b before = rw (← e) in (t, mesh_stays (join_of a b) before t)

  pub parts_back : found (Err r) ≡ input_fault a b
      → (told (Err r) ≡ join_answer a b before) × (before ≡ leaves_mesh (join_answer a b before) (join_of a b) before)
  unfolding call_fault
  parts_back e = turned_back (stops_first r (mesh_room (join_of a b) before) e)

  pub room_back : input_fault a b ≡ fine → found (Err r) ≡ mesh_room (join_of a b) before
      → (told (Err r) ≡ join_answer a b before) × (before ≡ leaves_mesh (join_answer a b before) (join_of a b) before)
  unfolding call_fault found
  room_back e h = turned_back (goes_then (sym e) h)

module _
    (a b : Mesh)
    (v n : List Float)
    (i s : List ℕ)
    (e : input_fault a b ≡ fine)
    (h : found (Ok tt) ≡ mesh_room (join_of a b) (mesh_lists v n i s))
  where
    all_fits : Fits (lengths_of (join_of a b)) (lengths_of (mesh_lists v n i s))
    unfolding found
    all_fits = room_fits _ _ (sym h)

    -- there is room for each list
    pub rooms : (length a.vertices + length b.vertices ≤ length v)
        × (length a.normals + length b.normals ≤ length n)
        × (length a.indices + length b.indices ≤ length i)
        × (length a.spans + length b.spans ≤ length s)
    rooms =
        let f = subst (λ (m : Lengths). Fits m (lengths_of (mesh_lists v n i s))) (sym (lengths_joined a b e)) all_fits in
        (f.vertices, f.normals, f.indices, f.spans)

    all_taken : taken (counts_of (lengths_of (join_of a b))) ≡ join_answer a b (mesh_lists v n i s)
    unfolding join_answer call_fault judge found
    all_taken = let z : fine ≡ call_fault a b (mesh_lists v n i s) = goes_then (sym e) h in rw (← z)

    pub made : (c : MeshCounts) → c ≡ counts_of (lengths_of (join_of a b)) → {v' n' : List Float} {i' s' : List ℕ} {p q : ℕ}
        → Put v v' 0 (a.vertices ++ b.vertices) p → Put n n' 0 (a.normals ++ b.normals) q
        → Put i i' 0 (join_of a b).indices (length (join_of a b).indices) → Put s s' 0 (join_of a b).spans (length (join_of a b).spans)
        → (told (Ok c) ≡ join_answer a b (mesh_lists v n i s))
        × (mesh_lists v' n' i' s' ≡ leaves_mesh (join_answer a b (mesh_lists v n i s)) (join_of a b) (mesh_lists v n i s))
    unfolding told join_of
    made c k w x y z =
        let t : taken c ≡ join_answer a b (mesh_lists v n i s) = ap taken k ∙ all_taken in
        (t, mesh_left (join_of a b) t w x y z all_fits)
