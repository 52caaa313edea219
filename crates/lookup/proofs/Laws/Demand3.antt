-- Demand 3: the indexed lookup, with the plain one of Laws.Plain beside it. Whatever the index, it gives none where the plain lookup gives none, is never
-- higher, and names the right lane. An index that was built from the mesh is never foreign to it, and where the winner's grown box holds the point the
-- lookup in it gives the winner, as the plain lookup does. Assumes nothing.
use Rattle.std.specs.Prelude.{◌≡◌, ℕ, ◌+◌, ◌-◌, ◌≤◌, true, T, List, ◌++◌, length, take, drop, ◌≢◌, nat_lt, Float, Option, Some, None}
use Rattle.std.proofs.Math.Path.{refl, ap}
use Rattle.std.proofs.Common.{sym, ◌∙◌, subst, ltb-false}
use native.Mathlib.Omega.{arith}
use Rattle.std.proofs.Math.Seq.{take-append-add, take-append_seam}
use Rattle.std.specs.Float.Ieee.{le}
use Rattle.vector.specs.declared.coords.Vector.{Vector}
use Rattle.shape.specs.Lists.{Mesh, mesh_fault}
use Rattle.shape.specs.SurfaceMesh.{Given, mesh_of}
use Rattle.shape.specs.Refusal.{Fault, fine, fault, refuse, Answer, taken, refused, judge, leaves}
use Rattle.lookup.specs.declared.sampler.Detail.{Detail}
use Rattle.lookup.specs.Mesh.{triangles}
use Rattle.lookup.specs.Box.{in_box}
use Rattle.lookup.specs.Plain.{entry_of, gives, none, plain_of, answer_of}
use Rattle.lookup.specs.Winner.{Covers, height, normal, Wins, NoNan}
use Rattle.lookup.specs.Index.{index_words, build_of, index_room, answer_to, candidates_of}
use Rattle.lookup.specs.Consult.{Candidates, run_in, consult_of}
use Rattle.lookup.specs.Sampler.{Sample, hit, miss, detail_of, lookup_in, sample_of, sample_in, onward, top_fault, top_of}
use Rattle.lookup.specs.Demand3.{BuiltFrom, NamesLane, InWords, InBuilt, Demand3}
use Rattle.shape.proofs.Laws.Refusal.{passed}
use Rattle.lookup.proofs.Laws.Plain.{best_of, covers_below, answer_right, answer_none, plain_winner, run_winner}
use Rattle.lookup.proofs.Laws.Scan.{scan_found}
use Rattle.lookup.proofs.Laws.Lanes.{strip_of, strip_lane}
use Rattle.lookup.proofs.Laws.Index.{Hands, hands, candidates_rise, candidate}
use Rattle.lookup.proofs.Laws.Limits.{judged, input_not_foreign, short_index}

-- ---- what a taken building call leaves

-- is an index built from the mesh: any memory before, and as many words kept as one likes, from the call's own on
pub built_from : (m : Mesh) (before : List ℕ) (size kept : ℕ) → build_of m (length before) ≡ taken size → size ≤ kept
    → BuiltFrom m (take kept (leaves (build_of m (length before)) (index_words m.vertices m.indices) before))
built_from m before size kept took enough = record { before = before; size = size; took = took; kept = kept; enough = enough; is = refl }

one_taken : {A : Type 0} (a b : A) → taken a ≡ taken b → a ≡ b
one_taken a b e = cc

-- the mesh was in order
pub mesh_fine : (m : Mesh) (room n : ℕ) → build_of m room ≡ taken n → mesh_fault m ≡ fine
unfolding build_of
mesh_fine m room n e = (judged (mesh_fault m) (answer_to (index_words m.vertices m.indices) room) n e).0

-- the count is that of the index's words
size_is : (m : Mesh) (room n : ℕ) → build_of m room ≡ taken n → n ≡ length (index_words m.vertices m.indices)
unfolding build_of answer_to
size_is m room n e =
    let p = (judged (mesh_fault m) (answer_to (index_words m.vertices m.indices) room) n e).1 in
    let k = length (index_words m.vertices m.indices) in
    let q = (judged (index_room (index_words m.vertices m.indices) room) (taken k) n p).1 in
    sym (one_taken k n q)

-- which are within the limit
few_words : (m : Mesh) (room n : ℕ) → build_of m room ≡ taken n → n ≤ 4194304
unfolding build_of answer_to index_room refuse
few_words m room n e =
    let p = (judged (mesh_fault m) (answer_to (index_words m.vertices m.indices) room) n e).1 in
    let k = length (index_words m.vertices m.indices) in
    let q = (judged (refuse (nat_lt 4194304 k) 1 4194304 (refuse (nat_lt room k) 3 k fine)) (taken k) n p).0 in
    let r = ltb-false 4194304 k (passed (nat_lt 4194304 k) 1 4194304 (refuse (nat_lt room k) 3 k fine) q).0 in
    omega (arith, r, size_is m room n e)

-- so the words are those of the index of the mesh, and then others
pub record Words (m : Mesh) (ws : List ℕ) : Type 0 where
  pub rest : List ℕ
  pub are : ws ≡ index_words m.vertices m.indices ++ rest

pub words : (m : Mesh) (ws : List ℕ) → BuiltFrom m ws → Words m ws
unfolding leaves
words m ws b =
    let o = index_words m.vertices m.indices in
    let n = size_is m (length b.before) b.size b.took in
    let z : b.kept ≡ length o + (b.kept - length o) = omega (arith, b.enough) in
    let e : leaves (build_of m (length b.before)) o b.before ≡ o ++ drop (length o) b.before = rw b.took in
    record {
      rest = take (b.kept - length o) (drop (length o) b.before);
      are = b.is ∙ ap (take b.kept) e ∙ ap (λ (k : ℕ). take k (o ++ drop (length o) b.before)) z ∙ take-append-add o (drop (length o) b.before) (b.kept - length o);
    }

-- the words alone, with nothing past them, are within the limit
pub words_fit : (m : Mesh) (ws : List ℕ) (b : BuiltFrom m ws) → b.kept ≡ b.size → length ws ≤ 4194304
unfolding leaves
words_fit m ws b q =
    let o = index_words m.vertices m.indices in
    let n = size_is m (length b.before) b.size b.took in
    let e : leaves (build_of m (length b.before)) o b.before ≡ o ++ drop (length o) b.before = rw b.took in
    let w : ws ≡ o = b.is ∙ ap (take b.kept) e ∙ ap (λ (k : ℕ). take k (o ++ drop (length o) b.before)) (q ∙ n) ∙ take-append_seam o (drop (length o) b.before) in
    let l : length ws ≡ length o = ap (λ (xs : List ℕ). length xs) w in
    omega (arith, l, n, few_words m (length b.before) b.size b.took)

-- ---- a hit, whatever the index

-- what is given is a covering triangle's: its height, its normal, and what else is told of it
pub record TrueHit (m : Mesh) (x y : Float) (h : Float) (n : Vector) (t : ℕ) (d : Detail) : Type 0 where
  pub covered : Covers m x y t
  pub is_height : h ≡ height m x y t
  pub is_normal : n ≡ normal m x y t
  pub is_detail : d ≡ detail_of m t

module _ (m : Mesh) (ws : List ℕ) (x y : Float) (h : Float) (n : Vector) (t : ℕ) (d : Detail) where
  true_in : (run : List ℕ) → sample_in m x y run ≡ hit h n t d → TrueHit m x y h n t d
  unfolding sample_in sample_of
  true_in run e = go (best_of m x y (entry_of run) (length run)) refl e
    where
      go : (s : (Option (Float × ℕ))) → best_of m x y (entry_of run) (length run) ≡ s → sample_of m x y s ≡ hit h n t d → TrueHit m x y h n t d
      go (Some (g, j)) q z =
          let f = scan_found m.vertices m.indices x y (entry_of run) (length run) q in
          let u : j ≡ t = cc in
          let v : g ≡ h = cc in
          let w : normal m x y j ≡ n = cc in
          let o : detail_of m j ≡ d = cc in
          rw (← u, ← v, ← w, ← o) (record { covered = f.counted; is_height = f.height; is_normal = refl; is_detail = refl })
      go None q z = let u : ◌≡◌ {A = ℕ} 0 1 = cc in absurd (omega arith)

  pub hit_true : top_of m ws x y ≡ taken (hit h n t d) → TrueHit m x y h n t d
  unfolding top_of onward
  hit_true e = go (consult_of ws (triangles m.indices) x y) (judged (top_fault m ws) (onward (consult_of ws (triangles m.indices) x y) (λ (p : Candidates). sample_in m x y (run_in ws p))) (hit h n t d) e).1
    where
      go : (a : Answer Candidates) → onward a (λ (p : Candidates). sample_in m x y (run_in ws p)) ≡ taken (hit h n t d) → TrueHit m x y h n t d
      go (taken p) q = true_in (run_in ws p) (one_taken (sample_in m x y (run_in ws p)) (hit h n t d) q)
      go (refused number place) q = let z : ◌≡◌ {A = ℕ} 0 1 = cc in absurd (omega arith)

-- ---- none where the plain lookup gives none, and never higher, whatever the index

module _ (m : Mesh) (ws : List ℕ) (x y : Float) where
  pub none_where_none : answer_of m x y ≡ taken none → (s : Sample) → top_of m ws x y ≡ taken s → s ≡ miss
  none_where_none p (hit h n t d) e = absurd ((answer_none m x y none p).0 refl t (hit_true m ws x y h n t d e).covered)
  none_where_none p miss e = refl

  pub never_higher : NoNan m x y → (h : Float) (n : Vector) (k : ℕ) → answer_of m x y ≡ taken (gives h n k)
      → (h' : Float) (n' : Vector) (k' : ℕ) (d : Detail) → top_of m ws x y ≡ taken (hit h' n' k' d) → T (le h' h)
  never_higher nn h n k p h' n' k' d e =
      let r = answer_right m x y nn (gives h n k) p in
      let g = hit_true m ws x y h' n' k' d e in
      rw (g.is_height, r.1) (r.0.greatest k' g.covered)

-- ---- the lane: over a mesh that came from lanes, a hit names the lane whose strip holds the triangle

pub lane_named : (g : Given) (ws : List ℕ) (x y : Float) (h : Float) (n : Vector) (t : ℕ) (d : Detail)
    → top_of (mesh_of g) ws x y ≡ taken (hit h n t d) → NamesLane g t d.lane
lane_named g ws x y h n t d e =
    let k = hit_true (mesh_of g) ws x y h n t d e in
    let s = strip_of g t (covers_below (mesh_of g) x y t k.covered) in
    record { of = s.of; in_strip = s.in_strip; named = ap (λ (i : Detail). i.lane) k.is_detail ∙ strip_lane g t s.of s.in_strip }

-- ---- an index that was built from the mesh

module _ (m : Mesh) (ws : List ℕ) (b : BuiltFrom m ws) (x y : Float) where
  handed : Hands ws (triangles m.indices) x y (candidates_of m.vertices m.indices x y)
  handed = let w = words m ws b in subst (λ (o : List ℕ). Hands o (triangles m.indices) x y (candidates_of m.vertices m.indices x y)) (sym w.are) (hands m.vertices m.indices w.rest x y)

  consulted : onward (consult_of ws (triangles m.indices) x y) (λ (p : Candidates). sample_in m x y (run_in ws p)) ≡ taken (sample_in m x y (candidates_of m.vertices m.indices x y))
  unfolding onward
  consulted = rw (handed.answers, handed.is)

  top_is : top_of m ws x y ≡ judge (top_fault m ws) (taken (sample_in m x y (candidates_of m.vertices m.indices x y)))
  unfolding top_of
  top_is = rw consulted

  -- an index as long as the limit or shorter is taken
  pub top_taken : length ws ≤ 4194304 → top_of m ws x y ≡ taken (sample_in m x y (candidates_of m.vertices m.indices x y))
  unfolding judge
  top_taken l = top_is ∙ rw (short_index m ws l, mesh_fine m (length b.before) b.size b.took)

  -- "it is never foreign to that mesh"
  pub never_foreign : (place : ℕ) → top_of m ws x y ≢ refused 4 place
  unfolding judge
  never_foreign place e = go (top_fault m ws) (input_not_foreign m ws) (sym top_is ∙ e)
    where
      go : (f : Fault) → ((p : ℕ) → f ≢ fault 4 p) → judge f (taken (sample_in m x y (candidates_of m.vertices m.indices x y))) ≢ refused 4 place
      go fine h k = let z : ◌≡◌ {A = ℕ} 0 1 = cc in omega arith
      go (fault number p) h k = h p (cc)

  -- what a taken call gave
  gave : (s : Sample) → top_of m ws x y ≡ taken s → s ≡ sample_in m x y (candidates_of m.vertices m.indices x y)
  gave s e =
      sym (one_taken (sample_in m x y (candidates_of m.vertices m.indices x y)) s
      (judged (top_fault m ws) (taken (sample_in m x y (candidates_of m.vertices m.indices x y))) s (sym top_is ∙ e)).1)

  -- ---- the winner, where its grown box holds the point

  pub winner_in_box : (k : ℕ) → Wins m x y k → in_box m.vertices m.indices k x y ≡ true
      → (s : Sample) → top_of m ws x y ≡ taken s → s ≡ hit (height m x y k) (normal m x y k) k (detail_of m k)
  unfolding sample_in sample_of
  winner_in_box k w i s e =
      let c = candidates_of m.vertices m.indices x y in
      let a = candidate m.vertices m.indices k x y i in
      gave s e ∙ ap (sample_of m x y) (run_winner m x y (entry_of c) (length c) (candidates_rise m.vertices m.indices x y) k w a.at a.in_range a.is)

  -- so the two lookups give the same height, normal and triangle
  pub same_answer : (k : ℕ) → Wins m x y k → in_box m.vertices m.indices k x y ≡ true
      → (s : Sample) → top_of m ws x y ≡ taken s → answer_of m x y ≡ taken (lookup_in s)
  unfolding lookup_in answer_of judge
  same_answer k w i s e =
      rw (winner_in_box k w i s e, mesh_fine m (length b.before) b.size b.took) (ap taken (plain_winner m x y k w))

-- ---- the demand

not_both : {A : Type 0} {a : A} {number place : ℕ} {r : Answer A} → r ≡ taken a → r ≢ refused number place
not_both p q = let z : ◌≡◌ {A = ℕ} 0 1 = cc in omega arith

plain_taken : (m : Mesh) (x y : Float) → mesh_fault m ≡ fine → (number place : ℕ) → answer_of m x y ≢ refused number place
unfolding answer_of judge
plain_taken m x y f number place e = not_both {a = plain_of m x y} (rw f) e

in_words : (m : Mesh) (ws : List ℕ) (x y : Float) → InWords m ws x y
in_words m ws x y =
    record {
      indexed_none = none_where_none m ws x y;
      never_higher = never_higher m ws x y;
      lane = λ g q h n t d e. lane_named g ws x y h n t d (subst (λ (o : Mesh). top_of o ws x y ≡ taken (hit h n t d)) q e);
    }

in_built : (m : Mesh) (ws : List ℕ) → BuiltFrom m ws → (x y : Float) → InBuilt m ws x y
in_built m ws b x y =
    record {
      never_foreign = never_foreign m ws b x y;
      indexed_taken = λ l number place e. not_both (top_taken m ws b x y l) e;
      winner = λ k w i s e. (winner_in_box m ws b x y k w i s e, same_answer m ws b x y k w i s e);
    }

pub demand3 : (m : Mesh) (x y : Float) → Demand3 m x y
demand3 m x y =
    record {
      plain_taken = plain_taken m x y;
      plain = answer_right m x y;
      plain_none = answer_none m x y;
      in_words = λ ws. in_words m ws x y;
      in_built = λ ws b. in_built m ws b x y;
    }
