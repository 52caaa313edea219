-- What the refusals let through: two meshes within the limits, each fit to be a part. Assumes nothing.
use Rattle.std.specs.Prelude.{◌≡◌, ℕ, zero, suc, ◌/◌, ◌%◌, ◌<◌, ◌≤◌, Bool, true, false, not, ◌&&◌, ◌↔◌, List, length, ◌==◌, nat_lt, slice_index, refl}
use Rattle.std.proofs.Common.{sym, arith}
use borrow.Author.Tests.{ltb-false, leb-false, eqb-true, not-false, le-ltb, lt-leb, eq-eqb}
use Rattle.shape.specs.Gather.{any, least}
use Rattle.shape.specs.Lists.{Mesh, longer, uneven, start_of, end_of, last_end, run_bad, mesh_limits, mesh_ragged, mesh_fault}
use Rattle.shape.specs.Refusal.{fine, refuse, or_else}
use Rattle.shape.proofs.Laws.Gather.{least_none}
use Rattle.shape.proofs.Laws.Lists.{Sound, sound}
use Rattle.shape.proofs.Laws.Refusal.{passed, else_passed}
use Rattle.joining.proofs.Laws.Least.{least_below}
use Rattle.joining.specs.Join.{points, part_ragged, odd_normals, loose, first_loose, loose_fault, parts_fault, input_fault}

-- no list is past its limit
pub record Small (m : Mesh) : Type 0 where
  pub vertices : length m.vertices ≤ 196608
  pub normals : length m.normals ≤ 196608
  pub indices : length m.indices ≤ 196608
  pub spans : length m.spans ≤ 5120

-- no fault of 2, 7 or 8: whole elements, runs in order and within their lists, a normal for each vertex, no corner past the vertices
pub record Fit (m : Mesh) : Type 0 where
  pub vertices : length m.vertices % 3 ≡ 0
  pub normals : length m.normals % 3 ≡ 0
  pub indices : length m.indices % 3 ≡ 0
  pub spans : length m.spans % 5 ≡ 0
  pub vertex_runs : (k : ℕ) → k < length m.spans / 5 → Sound 5 1 m.spans (points m) k
  pub index_runs : (k : ℕ) → k < length m.spans / 5 → Sound 5 3 m.spans (length m.indices) k
  pub even : length m.normals / 3 ≡ points m
  pub close : (k : ℕ) → k < length m.indices → slice_index m.indices k < points m

-- ---- single tests

whole : (u : ℕ) {A : Type 0} (xs : List A) → uneven u xs ≡ false → length xs % u ≡ 0
unfolding uneven
whole u xs e = eqb-true (length xs % u) 0 (not-false (length xs % u == 0) e)

not_uneven : (u : ℕ) {A : Type 0} (xs : List A) → length xs % u ≡ 0 → uneven u xs ≡ false
unfolding uneven
not_uneven u xs e = rw e

any_never : (f : ℕ → Bool) (n : ℕ) → ((k : ℕ) → k < n → f k ≡ false) → any f n ≡ false
unfolding any
any_never f zero e = refl
any_never f (suc n) e = rw (any_never f n (λ k h. e k (omega arith)), e n (omega arith))

not_bad : (a : ℕ) (ws : List ℕ) (n k : ℕ) → Sound 5 a ws n k → run_bad 5 a ws n k ≡ false
unfolding run_bad
not_bad a ws n k s =
    rw (
      le-ltb (end_of 5 a ws k) (start_of 5 a ws k) s.order,
      le-ltb (start_of 5 a ws k) (last_end 5 a ws k) s.after,
      le-ltb n (end_of 5 a ws k) s.within,
    )

none_loose : (m : Mesh) → nat_lt (first_loose m) (length m.indices) ≡ false → (k : ℕ) → k < length m.indices → slice_index m.indices k < points m
unfolding first_loose loose
none_loose m e k h = go (loose m k) refl
  where
    go : (b : Bool) → loose m k ≡ b → slice_index m.indices k < points m
    go true q = absurd (let p = least_below (loose m) (length m.indices) k h q in omega (arith, p, ltb-false (first_loose m) (length m.indices) e))
    go false q = leb-false (points m) (slice_index m.indices k) q

pub none_past : (m : Mesh) → ((k : ℕ) → k < length m.indices → slice_index m.indices k < points m) → length m.indices ≡ least (loose m) (length m.indices)
unfolding loose
none_past m e = least_none (loose m) (length m.indices) (λ k h. lt-leb (points m) (slice_index m.indices k) (e k h))

not_loose : (m : Mesh) → ((k : ℕ) → k < length m.indices → slice_index m.indices k < points m) → first_loose m ≡ length m.indices
unfolding first_loose
not_loose m e = sym (none_past m e)

-- ---- groups of tests

pub small : (m : Mesh) → mesh_limits m ≡ fine → Small m
unfolding mesh_limits longer
small m e =
    let v = passed _ _ _ _ e in
    let n = passed _ _ _ _ v.1 in
    let i = passed _ _ _ _ n.1 in
    let s = passed _ _ _ _ i.1 in
    record {
      vertices = ltb-false _ _ v.0;
      normals = ltb-false _ _ n.0;
      indices = ltb-false _ _ i.0;
      spans = ltb-false _ _ s.0;
    }

pub small_through : (m : Mesh) → Small m → mesh_limits m ≡ fine
unfolding mesh_limits longer refuse
small_through m s =
    rw (
      le-ltb 196608 (length m.vertices) s.vertices,
      le-ltb 196608 (length m.normals) s.normals,
      le-ltb 196608 (length m.indices) s.indices,
      le-ltb 5120 (length m.spans) s.spans,
    )

-- no list is ragged
record Even (m : Mesh) : Type 0 where
  vertices : uneven 3 m.vertices ≡ false
  normals : uneven 3 m.normals ≡ false
  indices : uneven 3 m.indices ≡ false
  spans : uneven 5 m.spans ≡ false
  vertex_runs : any (run_bad 5 1 m.spans (points m)) (length m.spans / 5) ≡ false
  index_runs : any (run_bad 5 3 m.spans (length m.indices)) (length m.spans / 5) ≡ false

even : (p : ℕ) (m : Mesh) → part_ragged p m ≡ fine → Even m
unfolding part_ragged mesh_ragged
even p m e =
    let t = passed _ _ _ _ e in
    let v = passed _ _ _ _ t.1 in
    let n = passed _ _ _ _ v.1 in
    let s = passed _ _ _ _ n.1 in
    let a = passed _ _ _ _ s.1 in
    let b = passed _ _ _ _ a.1 in
    record {
      vertices = v.0;
      normals = n.0;
      indices = third (uneven 3 m.vertices) (uneven 3 m.normals) (uneven 3 m.indices) t.0 v.0 n.0;
      spans = s.0;
      vertex_runs = a.0;
      index_runs = b.0;
    }
  where
    third : (x y z : Bool) → (not x && not y && z) ≡ false → x ≡ false → y ≡ false → z ≡ false
    third false false z e f g = e
    third true y z e f g = absurd (let z : ◌≡◌ {A = ℕ} 0 1 = cc in omega arith)
    third false true z e f g = absurd (let z : ◌≡◌ {A = ℕ} 0 1 = cc in omega arith)

fit : (m : Mesh) → Even m → odd_normals m ≡ false → nat_lt (first_loose m) (length m.indices) ≡ false → Fit m
unfolding odd_normals
fit m e o l =
    record {
      vertices = whole 3 m.vertices e.vertices;
      normals = whole 3 m.normals e.normals;
      indices = whole 3 m.indices e.indices;
      spans = whole 5 m.spans e.spans;
      vertex_runs = λ k h. sound 5 1 m.spans (points m) (length m.spans / 5) k h e.vertex_runs;
      index_runs = λ k h. sound 5 3 m.spans (length m.indices) (length m.spans / 5) k h e.index_runs;
      even = eqb-true (length m.normals / 3) (points m) (not-false _ o);
      close = none_loose m l;
    }

module _ (m : Mesh) (f : Fit m) where
  vertex_runs_sound : any (run_bad 5 1 m.spans (points m)) (length m.spans / 5) ≡ false
  vertex_runs_sound = any_never (run_bad 5 1 m.spans (points m)) (length m.spans / 5) (λ k h. not_bad 1 m.spans (points m) k (f.vertex_runs k h))

  index_runs_sound : any (run_bad 5 3 m.spans (length m.indices)) (length m.spans / 5) ≡ false
  index_runs_sound = any_never (run_bad 5 3 m.spans (length m.indices)) (length m.spans / 5) (λ k h. not_bad 3 m.spans (length m.indices) k (f.index_runs k h))

  ragged_through : (p : ℕ) → mesh_ragged p m ≡ fine
  unfolding mesh_ragged refuse
  ragged_through p = rw (not_uneven 3 m.vertices f.vertices, not_uneven 3 m.normals f.normals, not_uneven 5 m.spans f.spans, vertex_runs_sound, index_runs_sound)

  fit_through : (p : ℕ) → part_ragged p m ≡ fine
  unfolding part_ragged refuse
  fit_through p =
      rw (
        not_uneven 3 m.vertices f.vertices,
        not_uneven 3 m.normals f.normals,
        not_uneven 3 m.indices f.indices,
        not_uneven 5 m.spans f.spans,
        vertex_runs_sound,
        index_runs_sound,
      )

  not_odd : odd_normals m ≡ false
  unfolding odd_normals
  not_odd = rw (eq-eqb (length m.normals / 3) (points m) f.even)

  close_through : (before : ℕ) → loose_fault before m ≡ fine
  unfolding loose_fault refuse
  close_through before = rw (not_loose m f.close, le-ltb (length m.indices) (length m.indices) (omega arith))

  -- a part by itself is taken by every call that takes a mesh
  pub mesh_fine : Small m → mesh_fault m ≡ fine
  unfolding mesh_fault or_else
  mesh_fine s = rw (small_through m s) (ragged_through 0)

-- ---- a joining has no fault in its input exactly where both parts are small and fit

pub record Parts (a b : Mesh) : Type 0 where
  pub first_small : Small a
  pub second_small : Small b
  pub first : Fit a
  pub second : Fit b

pub parts : (a b : Mesh) → input_fault a b ≡ fine → Parts a b
unfolding input_fault parts_fault loose_fault
parts a b e =
    let s = else_passed (mesh_limits a) _ e in
    let t = else_passed (mesh_limits b) _ s.1 in
    let r = else_passed (part_ragged 0 a) _ t.1 in
    let q = else_passed (part_ragged 4 b) _ r.1 in
    let o = passed _ _ _ _ q.1 in
    let u = passed _ _ _ _ o.1 in
    let l = else_passed (loose_fault 0 a) _ u.1 in
    record {
      first_small = small a s.0;
      second_small = small b t.0;
      first = fit a (even 0 a r.0) o.0 (passed _ _ _ _ l.0).0;
      second = fit b (even 4 b q.0) u.0 (passed _ _ _ _ l.1).0;
    }

pub no_fault : (a b : Mesh) → Parts a b → input_fault a b ≡ fine
unfolding input_fault parts_fault refuse or_else
no_fault a b p =
    rw (
      small_through a p.first_small,
      small_through b p.second_small,
      fit_through a p.first 0,
      fit_through b p.second 4,
      not_odd a p.first,
      not_odd b p.second,
      close_through a p.first 0,
      close_through b p.second (length a.indices),
    )

pub parts_are : (a b : Mesh) → (input_fault a b ≡ fine) ↔ Parts a b
parts_are a b = (parts a b, no_fault a b)
