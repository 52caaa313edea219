-- One lane more: its room, what it adds to the sizes, and what it adds to the memory; and from the checks to the answer. Assumes nothing.
use Rattle.std.proofs.Common.{◌≡◌, ℕ, zero, suc, ◌+◌, ◌-◌, ◌*◌, ◌/◌, ◌^◌, ◌<◌, ◌≤◌, Bool, true, false, List, [], ◌∷◌, length, drop, sym, refl, ap, ◌∙◌, subst, zero-add, arith, length-append, length-take, ltb-false, Result, Ok, Err}
use lib.Ieee.{Float, lt}
use Rattle.rounding.specs.Thresholds.{micro}
use Rattle.shape.specs.declared.memory.Lengths.{Lengths}
use Rattle.shape.specs.declared.mesh.MeshCounts.{MeshCounts}
use Rattle.shape.specs.declared.refusal.Refusal.{Refusal}
use Rattle.shape.specs.declared.strip.At.{At}
use Rattle.shape.specs.Gather.{gather, any}
use Rattle.shape.specs.Memory.{Put}
use Rattle.std.specs.Result.{is_ok}
use Rattle.shape.specs.Refusal.{Fault, fine, found, told, taken, judge}
use Rattle.shape.specs.Lists.{start_of, end_of, word_of, run_long, run_of, longer, Mesh, mesh_lists}
use Rattle.shape.specs.MeshMemory.{lengths_of, room_fault, mesh_room, leaves_mesh}
use Rattle.shape.specs.Strip.{Lane, welded, weld_next, keeps, step_of, end_kept, kept_of, kept, no_area, rib_at, triangle_of, indices_at, vertices_of, normals_of, indices_of}
use Rattle.shape.specs.SurfaceMesh.{
  Given,
  lanes_of,
  lane_run,
  lane_at,
  span_of,
  lane_vertices,
  lane_normals,
  lane_indices,
  lane_span,
  base_of,
  index_of,
  mesh_of,
  lane_limits,
  lane_ragged,
  input_fault,
  counts_of,
  call_fault,
  answer_of,
}
use Rattle.shape.specs.MeshSteps.{lengths_at, Grown, Topped, Enough, Sizes, Room, Wrote, Written, Fitting}
use Rattle.shape.proofs.Laws.Gather.{any_none, gather_next, gather_fits, gather_most}
use Rattle.shape.proofs.Laws.Memory.{put_none, put_length, put_turn}
use Rattle.shape.proofs.Laws.MeshMemory.{Fits, room_fits, fits_room, mesh_left, mesh_stays}
use Rattle.shape.proofs.Laws.Refusal.{passed, else_passed, stops_first, goes_then}
use Rattle.shape.proofs.Laws.SurfaceMesh.{normals_match}
use Rattle.shape.proofs.Strips.{vertices_length, segment_length, cond_few}

-- a run that is not too long
pub not_long : (ls : List ℕ) (k : ℕ) → run_long 10 1 ls 4096 k ≡ false → end_of 10 1 ls k - start_of 10 1 ls k ≤ 4096
unfolding run_long
not_long ls k h = ltb-false 4096 (end_of 10 1 ls k - start_of 10 1 ls k) h

pub run_short : (xs : List Float) (ls : List ℕ) (k : ℕ) → run_long 10 1 ls 4096 k ≡ false → length (lane_run 3 xs ls 1 k) / 3 ≤ 4096
unfolding lane_run run_of
run_short xs ls k h =
    let s = start_of 10 1 ls k in
    let e = end_of 10 1 ls k in
    omega (arith, length-take (3 * e - 3 * s) (drop (3 * s) xs), not_long ls k h)

pub lane_short : (g : Given) (k : ℕ) → run_long 10 1 g.lanes 4096 k ≡ false → length (lane_at g k).points / 3 ≤ 4096
unfolding lane_at
lane_short g k h = run_short g.points g.lanes k h

-- what the sizes gain by a lane whose kept points are ks
pub grow : (l : Lane) {ks : List ℕ} (at : At) (i w : ℕ) → ks ≡ kept l → length ks ≤ 4096
    → ((v : ℕ) → i ≡ length (indices_of v l ks)) → i ≤ 24576
    → ((id v v' j j' : ℕ) → w ≡ length (span_of (length ks) id v v' j j')) → w ≤ 5
    → Grown l at (record { floats = at.floats + 6 * length ks; index = at.index + i; word = at.word + w })
grow l {ks} at i w e few is less ws five =
    record {
      floats = omega (arith, ap length e, vertices_length l (kept l));
      index = λ v. ap (λ (x : ℕ). at.index + x) (rw e at (is v));
      word = λ id v v' j j'. ap (λ (x : ℕ). at.word + x) (rw e at (ws id v v' j j'));
      few_floats = omega arith;
      few_index = omega arith;
      few_words = omega arith;
    }

-- the span of a lane that has ribs
pub span_some : (m id v v' i i' : ℕ) → (m ≡ 0 → ⊥) → span_of m id v v' i i' ≡ id ∷ v ∷ v' ∷ i ∷ i' ∷ []
unfolding span_of
span_some zero id v v' i i' h = absurd (h refl)
span_some (suc m) id v v' i i' h = refl

span_same : (m a b d e f a' b' d' e' f' : ℕ) → length (span_of m a b d e f) ≡ length (span_of m a' b' d' e' f')
unfolding span_of
span_same zero a b d e f a' b' d' e' f' = refl
span_same (suc m) a b d e f a' b' d' e' f' = refl

empty : (xs : List ℕ) → length xs ≡ 0 → xs ≡ []
empty [] h = refl
empty (x ∷ xs) h = absurd (omega arith)

-- a lane that has none leaves all as it is
pub wrote_none : (l : Lane) {id : ℕ} {at : At} {v n : List Float} {i s : List ℕ} → length (kept l) ≡ 0 → Wrote l id at at v v n n i i s s
unfolding vertices_of normals_of indices_of span_of gather
wrote_none l {id} {at} {v} {n} {i} {s} h =
    let e = empty (kept l) h in
    record {
      vertices = subst (λ (ks : List ℕ). Put v v at.floats (vertices_of l ks) at.floats) (sym e) (put_none v at.floats);
      normals = subst (λ (ks : List ℕ). Put n n at.floats (normals_of l ks) at.floats) (sym e) (put_none n at.floats);
      indices = subst (λ (ks : List ℕ). Put i i at.index (indices_of (at.floats / 3) l ks) at.index) (sym e) (put_none i at.index);
      spans = subst (λ (m : ℕ). Put s s at.word (span_of m id (at.floats / 3) (at.floats / 3) at.index at.index) at.word) (sym h) (put_none s at.word);
    }

-- a strip, where ks are the kept points
module _ {l : Lane} {at : At} {v n : List Float} {i s : List ℕ} (room : Room l at v n i s) {ks : List ℕ} (e : ks ≡ kept l) where
  pub ribs_room : (at.floats + 6 * length ks ≤ length v) × (at.floats + 6 * length ks ≤ length n) × (at.floats / 3 + 2 * length ks < 4294967290)
  ribs_room = rw e (omega (arith, vertices_length l (kept l), room.vertices, room.normals, room.few_floats))

  pub indices_room : at.index + length (indices_of (at.floats / 3) l ks) ≤ length i
  indices_room = rw e room.indices

  pub span_room : (id f j : ℕ) → (length ks ≡ 0 → ⊥) → id < 2 ^ 32 → f ≡ at.floats + length (vertices_of l ks)
      → j ≡ at.index + length (indices_of (at.floats / 3) l ks)
      → (at.word + 5 ≤ length s) × (id < 2 ^ 32) × (at.floats / 3 < 2 ^ 32) × (f / 3 < 2 ^ 32) × (at.index < 2 ^ 32) × (j < 2 ^ 32)
  span_room id f j some small pf pj =
      let qf = rw e at pf in
      let qj = rw e at pj in
      let five : length (span_of (length (kept l)) id 0 0 0 0) ≡ 5 = ap length (span_some (length (kept l)) id 0 0 0 0 (rw e at some)) in
      omega (arith, room.few_floats, room.few_index, room.spans id 0 0 0 0)

module _ (l : Lane) (at : At) {ks : List ℕ} (e : ks ≡ kept l) where
  pub wrote : (id f j w : ℕ) → (length ks ≡ 0 → ⊥) → {v v' n n' : List Float} {i i' s s' : List ℕ}
      → Put v v' at.floats (vertices_of l ks) f → Put n n' at.floats (normals_of l ks) f
      → Put i i' at.index (indices_of (at.floats / 3) l ks) j
      → Put s s' at.word (id ∷ at.floats / 3 ∷ f / 3 ∷ at.index ∷ j ∷ []) w
      → Wrote l id at (record { floats = f; index = j; word = w }) v v' n n' i i' s s'
  wrote id f j w some a b d g =
      record {
        vertices = rw e at a;
        normals = rw e at b;
        indices = rw e at d;
        spans = rw (span_some (length (kept l)) id (at.floats / 3) (f / 3) at.index j (rw e at some)) g;
      }

-- ---- the most that a lane can give

front_few : (ps : List Float) (n : ℕ) → length (welded ps n).front ≤ n
unfolding welded weld_next
front_few ps zero = omega arith
front_few ps (suc n) =
    let w = welded ps n in
    rw length-append (omega (arith, front_few ps n, cond_few (keeps ps w.last w.step (suc n)) w.last))

last_few : (m : ℕ) (near : Bool) (e n : ℕ) → m ≤ e → suc e ≤ n → 2 ≤ n → m + length (end_kept m near e) ≤ n
unfolding end_kept
last_few zero true e n h p q = omega arith
last_few zero false e n h p q = omega arith
last_few (suc m) near e n h p q = omega arith

-- a rib for each point, or two
kept_few : (ps : List Float) (m n : ℕ) → m ≤ n → 2 ≤ n → length (kept_of ps m) ≤ n
unfolding kept_of
kept_few ps zero n h p = omega arith
kept_few ps (suc m) n h p = rw length-append (last_few (length (welded ps m).front) (lt (step_of ps 0 m) micro) m n (front_few ps m) h p)

triangle_few : (flat : Bool) (a b c : ℕ) → length (triangle_of flat a b c) ≤ 3
unfolding triangle_of
triangle_few true a b c = omega arith
triangle_few false a b c = omega arith

indices_few : (v : ℕ) (l : Lane) (ks : List ℕ) → length (indices_of v l ks) ≤ 6 * (length ks - 1)
unfolding indices_of
indices_few v l ks =
    gather_most (indices_at v l ks) 6
    (λ i.
    let a = rib_at l ks i in
    let b = rib_at l ks (i + 1) in
    let w = v + 2 * i in
    omega (
      arith,
      segment_length w a b,
      triangle_few (no_area a.left a.right b.right) w (w + 1) (w + 3),
      triangle_few (no_area a.left b.right b.left) w (w + 3) (w + 2),
    ))
    (length ks - 1)

span_few : (m id v v' i i' : ℕ) → length (span_of m id v v' i i') ≤ 5
unfolding span_of
span_few zero id v v' i i' = omega arith
span_few (suc m) id v v' i i' = omega arith

run_most : (xs : List Float) (ls : List ℕ) (k : ℕ) → length (lane_run 3 xs ls 1 k) / 3 ≤ end_of 10 1 ls k - start_of 10 1 ls k
unfolding lane_run run_of
run_most xs ls k =
    let s = start_of 10 1 ls k in
    let e = end_of 10 1 ls k in
    omega (arith, length-take (3 * e - 3 * s) (drop (3 * s) xs))

lane_few : (g : Given) (k n : ℕ) → end_of 10 1 g.lanes k - start_of 10 1 g.lanes k ≤ n → 2 ≤ n → length (kept (lane_at g k)) ≤ n
unfolding lane_at kept
lane_few g k n h p = kept_few (lane_run 3 g.points g.lanes 1 k) (length (lane_run 3 g.points g.lanes 1 k) / 3) n (omega (arith, run_most g.points g.lanes k)) p

pub next_enough : (g : Given) (k : ℕ) (at r : At) → Enough g k at → Topped g.lanes k at r → Enough g (k + 1) r
unfolding lane_vertices lane_indices lane_span
next_enough g k at r s t =
    let l = lane_at g k in
    let few = lane_few g k t.ribs t.enough t.two in
    record {
      floats = rw (gather_next (lane_vertices g) k, length-append) (omega (arith, s.floats, t.floats, few, vertices_length l (kept l)));
      index = rw (gather_next (lane_indices g) k, length-append) (omega (arith, s.index, t.index, few, indices_few (base_of g k) l (kept l)));
      word =
          rw (gather_next (lane_span g) k, length-append)
          (omega (
            arith,
            s.word,
            t.word,
            span_few (length (kept l)) (word_of 10 g.lanes k 0) (base_of g k) (base_of g (k + 1)) (index_of g k) (index_of g (k + 1)),
          ));
    }

-- the sizes with lane k
pub next_sizes : (g : Given) (k : ℕ) (at r : At) → Sizes g k at → Grown (lane_at g k) at r → Sizes g (k + 1) r
unfolding lane_vertices lane_indices lane_span
next_sizes g k at r s n =
    record {
      floats = rw (gather_next (lane_vertices g) k, length-append, ← s.floats) n.floats;
      index = rw (gather_next (lane_indices g) k, length-append, ← s.index) (n.index (base_of g k));
      word =
          rw (gather_next (lane_span g) k, length-append, ← s.word)
          (n.word (word_of 10 g.lanes k 0) (base_of g k) (base_of g (k + 1)) (index_of g k) (index_of g (k + 1)));
    }

-- the memory with lane k
module _ (g : Given) (k : ℕ) (at : At) {v v₁ n n₁ : List Float} {i i₁ s s₁ : List ℕ} (w : Written g k at v v₁ n n₁ i i₁ s s₁) where
  floats_are : at.floats ≡ length (gather (lane_vertices g) k)
  floats_are = w.vertices.ends ∙ zero-add (length (gather (lane_vertices g) k))

  index_is : at.index ≡ length (gather (lane_indices g) k)
  index_is = w.indices.ends ∙ zero-add (length (gather (lane_indices g) k))

  pub room_at : (m : ℕ) → Fitting g m v n i s → k < m → Room (lane_at g k) at v₁ n₁ i₁ s₁
  unfolding lane_vertices lane_indices lane_span
  room_at m f h =
      let fv = gather_fits (lane_vertices g) k m h in
      let fi = gather_fits (lane_indices g) k m h in
      let fs = gather_fits (lane_span g) k m h in
      record {
        vertices = omega (arith, floats_are, put_length w.vertices, f.vertices, fv);
        normals = omega (arith, floats_are, put_length w.normals, f.normals, fv);
        indices = rw (floats_are, index_is, put_length w.indices) (omega (arith, f.indices, fi));
        spans =
            λ id a b d e.
            omega (
              arith,
              w.spans.ends,
              put_length w.spans,
              f.spans,
              fs,
              span_same (length (kept (lane_at g k))) id a b d e (word_of 10 g.lanes k 0) (base_of g k) (base_of g (k + 1)) (index_of g k) (index_of g (k + 1)),
            );
        few_floats = omega (arith, floats_are, f.few_floats, fv);
        few_index = rw (floats_are, index_is) (omega (arith, f.few_index, fi));
      }

  pub next_written : (r : At) {v₂ n₂ : List Float} {i₂ s₂ : List ℕ} → Wrote (lane_at g k) (word_of 10 g.lanes k 0) at r v₁ v₂ n₁ n₂ i₁ i₂ s₁ s₂
      → Written g (k + 1) r v v₂ n n₂ i i₂ s s₂
  unfolding lane_vertices lane_normals lane_indices lane_span
  next_written r a =
      let vs = put_turn (lane_vertices g) k w.vertices a.vertices in
      let is = put_turn (lane_indices g) k w.indices (rw floats_are at a.indices) in
      let ev : r.floats ≡ length (gather (lane_vertices g) (k + 1)) = vs.ends ∙ zero-add (length (gather (lane_vertices g) (k + 1))) in
      let ei : r.index ≡ length (gather (lane_indices g) (k + 1)) = is.ends ∙ zero-add (length (gather (lane_indices g) (k + 1))) in
      record {
        vertices = vs;
        normals = put_turn (lane_normals g) k w.normals a.normals;
        indices = is;
        spans = put_turn (lane_span g) k w.spans (rw (ev, ei, floats_are, index_is) at a.spans);
      }

-- ---- the answer

pub few_lanes : (g : Given) → input_fault g ≡ fine → (lanes_of g ≤ 1024) × (any (run_long 10 1 g.lanes 4096) (lanes_of g) ≡ false)
unfolding input_fault lane_limits longer
few_lanes g e =
    let a = passed _ _ _ _ (else_passed (lane_limits g.lanes) (lane_ragged g) e).0 in
    let b = passed _ _ _ _ (passed _ _ _ _ (passed _ _ _ _ a.1).1).1 in
    let h : length g.lanes ≤ 10 * 1024 = ltb-false (10 * 1024) (length g.lanes) (passed _ _ _ _ b.1).0 in
    (omega arith, a.0)

pub short_lane : (g : Given) → input_fault g ≡ fine → (k : ℕ) → k < lanes_of g → run_long 10 1 g.lanes 4096 k ≡ false
short_lane g e k h = any_none (run_long 10 1 g.lanes 4096) k (lanes_of g) h (few_lanes g e).1

-- a check that lets the call pass
pub ok_fine : (r : Result Unit Refusal) (f : Fault) → found r ≡ f → is_ok r ≡ true → fine ≡ f
unfolding found
ok_fine (Ok tt) f e h = e
ok_fine (Err r) f e h = absurd (let z : ◌≡◌ {A = ℕ} 0 1 = cc in omega arith)

same_lengths : {v v' n n' i i' s s' : ℕ} → v ≡ v' → n ≡ n' → i ≡ i' → s ≡ s'
    → ◌≡◌ {A = Lengths} (record { vertices = v; normals = n; indices = i; spans = s }) (record { vertices = v'; normals = n'; indices = i'; spans = s' })
same_lengths a b c d = rw (a, b, c, d)

module _ (g : Given) (at : At) where
  -- where all lanes are counted
  pub all_lengths : Sizes g (lanes_of g) at → lengths_at at ≡ lengths_of (mesh_of g)
  unfolding mesh_of
  all_lengths z = same_lengths z.floats (z.floats ∙ sym (normals_match g)) z.index z.word

  -- where the most fits, so does the mesh
  pub most_fine : Enough g (lanes_of g) at → (lent : Lengths) → fine ≡ room_fault (lengths_at at) lent → fine ≡ room_fault (lengths_of (mesh_of g)) lent
  unfolding mesh_of
  most_fine z lent e =
      let f = room_fits (lengths_at at) lent (sym e) in
      let n = normals_match g in
      sym (fits_room (lengths_of (mesh_of g)) lent
      (record {
        few_vertices = omega (arith, z.floats, f.few_vertices);
        few_normals = omega (arith, n, z.floats, f.few_normals);
        few_indices = omega (arith, z.index, f.few_indices);
        few_spans = omega (arith, z.word, f.few_spans);
        vertices = omega (arith, z.floats, f.vertices);
        normals = omega (arith, n, z.floats, f.normals);
        indices = omega (arith, z.index, f.indices);
        spans = omega (arith, z.word, f.spans);
      }))

-- what is written is what the definition counts
pub written_sizes : (g : Given) (r : At) {v v' n n' : List Float} {i i' s s' : List ℕ} → Written g (lanes_of g) r v v' n n' i i' s s' → Sizes g (lanes_of g) r
written_sizes g r w =
    record {
      floats = w.vertices.ends ∙ zero-add (length (gather (lane_vertices g) (lanes_of g)));
      index = w.indices.ends ∙ zero-add (length (gather (lane_indices g) (lanes_of g)));
      word = w.spans.ends ∙ zero-add (length (gather (lane_span g) (lanes_of g)));
    }

-- a call that is not turned back: its lanes are sound, and its mesh has room
pub admitted : (g : Given) (lent : Lengths) → input_fault g ≡ fine → found (Ok tt) ≡ room_fault (lengths_of (mesh_of g)) lent → fine ≡ call_fault g lent
unfolding call_fault found
admitted g lent e h = goes_then (sym e) h

module _ (g : Given) (v n : List Float) (i s : List ℕ) (e : fine ≡ call_fault g (lengths_of (mesh_lists v n i s))) where
  all_fits : Fits (lengths_of (mesh_of g)) (lengths_of (mesh_lists v n i s))
  unfolding call_fault
  all_fits = room_fits _ _ (else_passed (input_fault g) (mesh_room (mesh_of g) (mesh_lists v n i s)) (sym e)).1

  pub fitting : Fitting g (lanes_of g) v n i s
  unfolding mesh_of
  fitting =
      let f = all_fits in
      record {
        vertices = f.vertices;
        normals = omega (arith, f.normals, normals_match g);
        indices = f.indices;
        spans = f.spans;
        few_floats = f.few_vertices;
        few_index = f.few_indices;
      }

  all_taken : taken (counts_of (lengths_of (mesh_of g))) ≡ answer_of g (mesh_lists v n i s)
  unfolding answer_of judge
  all_taken = rw (← e)

  pub made : (r : At) {v' n' : List Float} {i' s' : List ℕ} (c : MeshCounts) → c ≡ counts_of (lengths_at r) → Written g (lanes_of g) r v v' n n' i i' s s'
      → (told (Ok c) ≡ answer_of g (mesh_lists v n i s)) × (mesh_lists v' n' i' s' ≡ leaves_mesh (answer_of g (mesh_lists v n i s)) (mesh_of g) (mesh_lists v n i s))
  unfolding told mesh_of
  made r c k w =
      let t : taken c ≡ answer_of g (mesh_lists v n i s) = ap taken (k ∙ ap counts_of (all_lengths g r (written_sizes g r w))) ∙ all_taken in
      (t, mesh_left (mesh_of g) t w.vertices w.normals w.indices w.spans all_fits)

-- a call that is, for its lanes or for want of room
turned_back : (g : Given) (before : Mesh) (r : Refusal) → found (Err r) ≡ call_fault g (lengths_of before)
    → (told (Err r) ≡ answer_of g before) × (before ≡ leaves_mesh (answer_of g before) (mesh_of g) before)
unfolding told answer_of judge found
turned_back g before r e = let t : told (Err r) ≡ answer_of g before = rw (← e) in (t, mesh_stays (mesh_of g) before t)

module _ (g : Given) (before : Mesh) (r : Refusal) where
  pub lanes_back : found (Err r) ≡ input_fault g → (told (Err r) ≡ answer_of g before) × (before ≡ leaves_mesh (answer_of g before) (mesh_of g) before)
  unfolding call_fault
  lanes_back e = turned_back g before r (stops_first r (room_fault (lengths_of (mesh_of g)) (lengths_of before)) e)

  pub room_back : input_fault g ≡ fine → found (Err r) ≡ room_fault (lengths_of (mesh_of g)) (lengths_of before)
      → (told (Err r) ≡ answer_of g before) × (before ≡ leaves_mesh (answer_of g before) (mesh_of g) before)
  unfolding call_fault found
  room_back e h = turned_back g before r (goes_then (sym e) h)
