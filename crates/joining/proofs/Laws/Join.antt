-- The joined mesh by itself: what stands where in it, that it is fit to be a part again, that an empty part changes nothing, and that brackets do not
-- matter. Assumes nothing.
use Rattle.std.specs.Prelude.{◌≡◌, ℕ, zero, suc, ◌+◌, ◌-◌, ◌/◌, ◌%◌, ◌<◌, ◌≤◌, List, ◌++◌, length, slice_index, refl}
use Rattle.std.proofs.Common.{sym, ap, subst, ◌∙◌, add-suc, add-zero, append-nil, append_assoc, length-append, get_or-append-add, arith}
use Rattle.std.proofs.Math.ListN.{get_or-append}
use Rattle.std.proofs.Math.Decide.{dec_lt}
use borrow.Author.Tests.{le-ltb}
use Rattle.shape.specs.Gather.{gather}
use Rattle.shape.specs.Lists.{Mesh, mesh_fault, word_of, start_of, end_of, last_end}
use Rattle.shape.specs.MeshMemory.{lengths_of, result_limits, result_short, room_fault, mesh_room}
use Rattle.shape.specs.Refusal.{fault, fine, refuse, or_else, taken, refused, judge}
use Rattle.shape.specs.SurfaceMesh.{counts_of}
use Rattle.shape.specs.declared.mesh.MeshCounts.{MeshCounts}
use Rattle.shape.proofs.Laws.Lists.{Sound}
use Rattle.shape.proofs.Laws.MeshMemory.{both_fine, room_fits}
use Rattle.lookup.proofs.Laws.Limits.{judged}
use Rattle.joining.specs.Join.{points, indices_up, span_up, spans_up, join_of, empty, input_fault, call_fault, join_answer}
use Rattle.joining.proofs.Laws.Moved.{add_threes, add_fives, indices_length, indices_at, indices_append, indices_twice, indices_still, spans_length, span_word, word_first, word_second, spans_append, spans_twice, spans_still}
use Rattle.joining.proofs.Laws.Faults.{Small, Fit, Parts, parts, no_fault, mesh_fine}

-- ---- how much there is of each list

module _ (a b : Mesh) where
  pub vertices_joined : length a.vertices % 3 ≡ 0 → points (join_of a b) ≡ points a + points b
  unfolding join_of
  vertices_joined e = rw length-append (add_threes _ _ e)

  pub normals_joined : Fit a → length (join_of a b).normals / 3 ≡ length a.normals / 3 + length b.normals / 3
  unfolding join_of
  normals_joined f = rw length-append (add_threes _ _ f.normals)

  pub indices_joined : length (join_of a b).indices ≡ length a.indices + length b.indices
  unfolding join_of
  indices_joined = rw (length-append, indices_length)

  pub spans_joined : Fit b → length (join_of a b).spans ≡ length a.spans + length b.spans
  unfolding join_of
  spans_joined f = rw (length-append, spans_length) (omega (arith, f.spans))

-- ---- what stands where

module _ (a b : Mesh) (f : Fit a) where
  pub index_first : (k : ℕ) → k < length a.indices → slice_index (join_of a b).indices k ≡ slice_index a.indices k
  unfolding join_of
  index_first k h = get_or-append a.indices _ 0 k h

  pub index_second : (k : ℕ) → k < length b.indices
      → slice_index (join_of a b).indices (length a.indices + k) ≡ points a + slice_index b.indices k
  unfolding join_of
  index_second k h = get_or-append-add a.indices _ k 0 ∙ indices_at (points a) b.indices k h

  -- word j of a span of the first part
  pub span_first : (k j : ℕ) → k < length a.spans / 5 → j < 5 → word_of 5 (join_of a b).spans k j ≡ word_of 5 a.spans k j
  unfolding join_of
  span_first k j h l = word_first a.spans _ k j h l

  -- and of the second
  pub span_second : (k j : ℕ) → k < length b.spans / 5 → j < 5
      → word_of 5 (join_of a b).spans (length a.spans / 5 + k) j
      ≡ slice_index (span_up (points a) (length a.indices) b.spans k) j
  unfolding join_of
  span_second k j h l = word_second a.spans _ k j f.spans ∙ span_word (points a) (length a.indices) b.spans k j h l

-- ---- runs, one list of spans after another: those of the second part are moved up by what the first part has

module _
    (a : ℕ)
    (ss tt uu : List ℕ)
    (n m s l : ℕ)
    (start₁ : (k : ℕ) → k < n → start_of 5 a uu k ≡ start_of 5 a ss k)
    (end₁ : (k : ℕ) → k < n → end_of 5 a uu k ≡ end_of 5 a ss k)
    (start₂ : (k : ℕ) → k < m → start_of 5 a uu (n + k) ≡ s + start_of 5 a tt k)
    (end₂ : (k : ℕ) → k < m → end_of 5 a uu (n + k) ≡ s + end_of 5 a tt k)
    (sound₁ : (k : ℕ) → k < n → Sound 5 a ss s k)
    (sound₂ : (k : ℕ) → k < m → Sound 5 a tt l k)
  where
    last₁ : (k : ℕ) → k < n → last_end 5 a uu k ≡ last_end 5 a ss k
    unfolding last_end
    last₁ zero h = refl
    last₁ (suc k) h = end₁ k (omega arith)

    seam : (k : ℕ) → k ≡ n → last_end 5 a uu k ≤ s
    unfolding last_end
    seam zero e = omega arith
    seam (suc k) e = let h : k < n = omega arith in omega (arith, end₁ k h, (sound₁ k h).within)

    last₂ : (k : ℕ) → k < m → last_end 5 a uu (n + k) ≤ s + last_end 5 a tt k
    unfolding last_end
    last₂ zero h = omega (arith, seam (n + 0) (add-zero n))
    last₂ (suc k) h = rw (add-suc n k) (omega (arith, end₂ k (omega arith)))

    runs_first : (k : ℕ) → k < n → Sound 5 a uu (s + l) k
    runs_first k h =
        let r = sound₁ k h in
        record {
          order = rw (start₁ k h, end₁ k h) r.order;
          after = rw (start₁ k h, last₁ k h) r.after;
          within = rw (end₁ k h) (omega (arith, r.within));
        }

    runs_second : (k : ℕ) → k < m → Sound 5 a uu (s + l) (n + k)
    runs_second k h =
        let r = sound₂ k h in
        record {
          order = rw (start₂ k h, end₂ k h) (omega (arith, r.order));
          after = rw (start₂ k h) (omega (arith, r.after, last₂ k h));
          within = rw (end₂ k h) (omega (arith, r.within));
        }

    runs : (k : ℕ) → k < n + m → Sound 5 a uu (s + l) k
    runs k h =
        elim (dec_lt k n) [
          | yes p ↦ runs_first k p
          | no p ↦ (let e : n + (k - n) ≡ k = omega arith in subst (Sound 5 a uu (s + l)) e (runs_second (k - n) (omega arith)))
        ]

-- ---- joining brings no new fault of 2, 7 or 8

pub joined_sound : (a b : Mesh) → Fit a → Fit b → Fit (join_of a b)
unfolding join_of span_up
joined_sound a b f g =
    let w = join_of a b in
    let n = length a.spans / 5 in
    let m = length b.spans / 5 in
    let v : length w.vertices / 3 ≡ points a + points b = vertices_joined a b f.vertices in
    let i : length w.indices ≡ length a.indices + length b.indices = indices_joined a b in
    let s : length w.spans ≡ length a.spans + length b.spans = spans_joined a b g in
    let c : length w.spans / 5 ≡ n + m = ap (λ (k : ℕ). k / 5) s ∙ add_fives (length a.spans) (length b.spans) f.spans in
    record {
      vertices = rw length-append (omega (arith, f.vertices, g.vertices));
      normals = rw length-append (omega (arith, f.normals, g.normals));
      indices = rw i (omega (arith, f.indices, g.indices));
      spans = rw s (omega (arith, f.spans, g.spans));
      vertex_runs = rw (c, v) (runs 1 a.spans b.spans w.spans n m (points a) (points b)
          (λ k h. span_first a b f k 1 h (omega arith))
          (λ k h. span_first a b f k 2 h (omega arith))
          (λ k h. span_second a b f k 1 h (omega arith))
          (λ k h. span_second a b f k 2 h (omega arith))
          f.vertex_runs g.vertex_runs);
      index_runs = rw (c, i) (runs 3 a.spans b.spans w.spans n m (length a.indices) (length b.indices)
          (λ k h. span_first a b f k 3 h (omega arith))
          (λ k h. span_first a b f k 4 h (omega arith))
          (λ k h. span_second a b f k 3 h (omega arith))
          (λ k h. span_second a b f k 4 h (omega arith))
          f.index_runs g.index_runs);
      even = normals_joined a b f ∙ (rw (f.even, g.even) (sym v));
      close = λ k h. subst (λ (n : ℕ). slice_index w.indices k < n) (sym v) (near k (subst (λ (n : ℕ). k < n) i h) (dec_lt k (length a.indices)));
    }
  where
    near : (k : ℕ) → k < length a.indices + length b.indices → Dec (k < length a.indices)
        → slice_index (join_of a b).indices k < points a + points b
    near k h (yes p) = rw (index_first a b f k p) (omega (arith, f.close k p))
    near k h (no p) =
        let q = k - length a.indices in
        let e : k ≡ length a.indices + q = omega arith in
        let l : q < length b.indices = omega arith in
        subst (λ (k : ℕ). slice_index (join_of a b).indices k < points a + points b) (sym e)
        (rw (index_second a b f q l) (omega (arith, g.close q l)))

-- ---- an empty part changes nothing

pub empty_left : (m : Mesh) → length m.spans % 5 ≡ 0 → join_of empty m ≡ m
unfolding join_of
empty_left m e = rw (indices_still m.indices, spans_still m.spans e)

pub empty_right : (m : Mesh) → join_of m empty ≡ m
unfolding join_of indices_up spans_up gather
empty_right m = rw (append-nil m.vertices, append-nil m.normals, append-nil m.indices, append-nil m.spans)

-- ---- brackets

pub brackets : (a b c : Mesh) → length a.vertices % 3 ≡ 0 → length b.spans % 5 ≡ 0 → join_of (join_of a b) c ≡ join_of a (join_of b c)
unfolding join_of
brackets a b c f g =
    let v = points a in
    let w = points b in
    let i = length a.indices in
    let j = length b.indices in
    let e : length (a.vertices ++ b.vertices) / 3 ≡ v + w = vertices_joined a b f in
    let h : length (a.indices ++ indices_up v b.indices) ≡ i + j = indices_joined a b in
    rw (
      e,
      h,
      append_assoc a.vertices b.vertices c.vertices,
      append_assoc a.normals b.normals c.normals,
      append_assoc a.indices (indices_up v b.indices) (indices_up (v + w) c.indices),
      append_assoc a.spans (spans_up v i b.spans) (spans_up (v + w) (i + j) c.spans),
      indices_append v b.indices (indices_up w c.indices),
      indices_twice v w c.indices,
      spans_append v i b.spans (spans_up w j c.spans) g,
      spans_twice v w i j c.spans,
    )

-- ---- which joinings are taken

-- with room for the whole, a joining is taken
abbrev pub Taken : Mesh → Mesh → Type 0
Taken a b =
    (before : Mesh) → result_short (lengths_of (join_of a b)) (lengths_of before) ≡ fine → join_answer a b before ≡ taken (counts_of (lengths_of (join_of a b)))

-- no part is longer than the whole
module _ (a b : Mesh) (g : Fit b) (s : Small (join_of a b)) where
  small_first : Small a
  unfolding join_of
  small_first =
      record {
        vertices = omega (arith, length-append a.vertices b.vertices, s.vertices);
        normals = omega (arith, length-append a.normals b.normals, s.normals);
        indices = omega (arith, indices_joined a b, s.indices);
        spans = omega (arith, spans_joined a b g, s.spans);
      }

  small_second : Small b
  unfolding join_of
  small_second =
      record {
        vertices = omega (arith, length-append a.vertices b.vertices, s.vertices);
        normals = omega (arith, length-append a.normals b.normals, s.normals);
        indices = omega (arith, indices_joined a b, s.indices);
        spans = omega (arith, spans_joined a b g, s.spans);
      }

  within : result_limits (lengths_of (join_of a b)) ≡ fine
  unfolding result_limits refuse
  within =
      rw (
        le-ltb 196608 (length (join_of a b).vertices) s.vertices,
        le-ltb 196608 (length (join_of a b).normals) s.normals,
        le-ltb 196608 (length (join_of a b).indices) s.indices,
        le-ltb 5120 (length (join_of a b).spans) s.spans,
      )

  -- fit parts are joined wherever the whole is within the limits
  pub joining_taken : Fit a → Taken a b
  unfolding join_answer call_fault room_fault judge or_else
  joining_taken f before e = rw (no_fault a b (record { first_small = small_first; second_small = small_second; first = f; second = g }), within, e)

-- parts whose whole is past a limit are turned back with that limit, whatever room there is
pub past_limit : (a b before : Mesh) (n p : ℕ) → input_fault a b ≡ fine → result_limits (lengths_of (join_of a b)) ≡ fault n p → join_answer a b before ≡ refused n p
unfolding join_answer call_fault room_fault judge or_else
past_limit a b before n p e h = rw (e, h)

-- and a joining that is taken has parts that are fit, and a whole within the limits, which lookups take
pub record Took (a b : Mesh) : Type 0 where
  pub input : input_fault a b ≡ fine
  pub parts : Parts a b
  pub whole : Fit (join_of a b)
  pub small : Small (join_of a b)
  pub mesh : mesh_fault (join_of a b) ≡ fine

pub took : (a b before : Mesh) (c : MeshCounts) → join_answer a b before ≡ taken c → Took a b
unfolding join_answer call_fault
took a b before c e =
    let w = join_of a b in
    let p = both_fine (input_fault a b) (mesh_room w before) (judged (call_fault a b before) (taken (counts_of (lengths_of w))) c e).0 in
    let q = parts a b p.0 in
    let r = room_fits (lengths_of w) (lengths_of before) p.1 in
    let s : Small w = record { vertices = r.few_vertices; normals = r.few_normals; indices = r.few_indices; spans = r.few_spans } in
    let f = joined_sound a b q.first q.second in
    record { input = p.0; parts = q; whole = f; small = s; mesh = mesh_fine w f s }

empty_fit : Fit empty
empty_fit =
    record {
      vertices = refl;
      normals = refl;
      indices = refl;
      spans = refl;
      vertex_runs = λ k h. absurd (omega arith);
      index_runs = λ k h. absurd (omega arith);
      even = refl;
      close = λ k h. absurd (omega arith);
    }

pub empty_left_taken : (m : Mesh) → Fit m → Small m → Taken empty m
empty_left_taken m f s = joining_taken empty m f (subst Small (sym (empty_left m f.spans)) s) empty_fit

pub empty_right_taken : (m : Mesh) → Fit m → Small m → Taken m empty
empty_right_taken m f s = joining_taken m empty empty_fit (subst Small (sym (empty_right m)) s) f

-- every joining on the way to a whole of three parts, either way round the brackets
pub record OnTheWay (a b c : Mesh) : Type 0 where
  pub first_two : Taken a b
  pub then_third : Taken (join_of a b) c
  pub last_two : Taken b c
  pub to_first : Taken a (join_of b c)

pub on_the_way : (a b c : Mesh) → Fit a → Fit b → Fit c → Small (join_of (join_of a b) c) → OnTheWay a b c
on_the_way a b c f g h s =
    let t = subst Small (brackets a b c f.vertices g.spans) s in
    let ab = joined_sound a b f g in
    let bc = joined_sound b c g h in
    record {
      first_two = joining_taken a b g (small_first (join_of a b) c h s) f;
      then_third = joining_taken (join_of a b) c h s ab;
      last_two = joining_taken b c h (small_second a (join_of b c) bc t) g;
      to_first = joining_taken a (join_of b c) bc t f;
    }

-- the same of the calls: where two joinings one after the other are taken, all on the way are, either way round the brackets, and the mesh is the same.
-- The first two parts and then the third:
pub either_way : (a b c m m' : Mesh) (n n' : MeshCounts) → join_answer a b m ≡ taken n → join_answer (join_of a b) c m' ≡ taken n'
    → OnTheWay a b c × (join_of (join_of a b) c ≡ join_of a (join_of b c))
either_way a b c m m' n n' p q =
    let t = took a b m n p in
    let u = took (join_of a b) c m' n' q in
    (on_the_way a b c t.parts.first t.parts.second u.parts.second u.small, brackets a b c t.parts.first.vertices t.parts.second.spans)

-- the last two and then the first
pub either_way_back : (a b c m m' : Mesh) (n n' : MeshCounts) → join_answer b c m ≡ taken n → join_answer a (join_of b c) m' ≡ taken n'
    → OnTheWay a b c × (join_of (join_of a b) c ≡ join_of a (join_of b c))
either_way_back a b c m m' n n' p q =
    let t = took b c m n p in
    let u = took a (join_of b c) m' n' q in
    let e = brackets a b c u.parts.first.vertices t.parts.first.spans in
    (on_the_way a b c u.parts.first t.parts.first t.parts.second (subst Small (sym e) u.small), e)
