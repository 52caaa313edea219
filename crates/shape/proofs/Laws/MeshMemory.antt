-- Laws about a mesh as result and lent memory: what a fault that is not there tells, what is left, and that the one fault of room is what strips and junctions
-- had each for itself. Assumes nothing.
use Rattle.std.specs.Prelude.{◌≡◌, ℕ, ◌*◌, ◌≤◌, Bool, true, false, List, length, nat_lt, refl, Float, Result, Ok, Err}
use Rattle.std.proofs.Common.{◌∙◌, arith}
use Rattle.std.proofs.Math.Decide.{dec_lt}
use borrow.Author.Tests.{ltb-false, lt-ltb, le-ltb}
use Rattle.shape.specs.declared.memory.Lengths.{Lengths}
use Rattle.shape.specs.declared.refusal.Refusal.{Refusal}
use Rattle.shape.specs.Refusal.{Fault, fine, found, refuse, or_else, Answer, taken, refused, leaves}
use Rattle.shape.specs.Memory.{Put}
use Rattle.shape.specs.Lists.{Mesh, mesh_lists}
use Rattle.shape.specs.MeshMemory.{lengths_of, result_limits, result_short, room_fault, leaves_mesh}
use Rattle.shape.proofs.Laws.Memory.{sets_front}
use Rattle.shape.proofs.Laws.Refusal.{passed, else_passed, else_faulty, else_fine, else_refuse}

-- ---- faults that are not there, by the laws of a single fault

pub first_fine : (b : Bool) (n p : ℕ) (after : Fault) → refuse b n p after ≡ fine → (b ≡ false) × (after ≡ fine)
first_fine = passed

pub both_fine : (a b : Fault) → or_else a b ≡ fine → (a ≡ fine) × (b ≡ fine)
both_fine = else_passed

-- a check in two parts: the first finds something, or nothing
module _ (k : Result Unit Refusal) (a b : Fault) (e : found k ≡ a) where
  pub fault_first : {r : Refusal} → k ≡ Err r → found (Err r) ≡ or_else a b
  fault_first h = else_faulty b e h

  pub fault_then : (l : Result Unit Refusal) → k ≡ Ok tt → found l ≡ b → found l ≡ or_else a b
  fault_then l h x = else_fine b e h x

-- two parts of a fault order are one chain
pub or_refuse : (b : Bool) (n p : ℕ) (x y : Fault) → or_else (refuse b n p x) y ≡ refuse b n p (or_else x y)
or_refuse = else_refuse

-- a test that stands twice
again : (b : Bool) (n p : ℕ) (x : Fault) → refuse b n p (refuse b n p x) ≡ refuse b n p x
unfolding refuse
again true n p x = refl
again false n p x = refl

-- ---- room

-- a result within the limits and the lent lists
pub record Fits (made lent : Lengths) : Type 0 where
  pub few_vertices : made.vertices ≤ 196608
  pub few_normals : made.normals ≤ 196608
  pub few_indices : made.indices ≤ 196608
  pub few_spans : made.spans ≤ 5120
  pub vertices : made.vertices ≤ lent.vertices
  pub normals : made.normals ≤ lent.normals
  pub indices : made.indices ≤ lent.indices
  pub spans : made.spans ≤ lent.spans

module _ (made lent : Lengths) where
  pub room_fits : room_fault made lent ≡ fine → Fits made lent
  unfolding room_fault result_limits result_short
  room_fits e =
      let p = else_passed (result_limits made) (result_short made lent) e in
      let a = passed (nat_lt (3 * 65536) made.vertices) _ _ _ p.0 in
      let b = passed (nat_lt (3 * 65536) made.normals) _ _ _ a.1 in
      let c = passed (nat_lt 196608 made.indices) _ _ _ b.1 in
      let d = passed (nat_lt (5 * 1024) made.spans) _ _ _ c.1 in
      let q = passed (nat_lt lent.vertices made.vertices) _ _ _ p.1 in
      let r = passed (nat_lt lent.normals made.normals) _ _ _ q.1 in
      let s = passed (nat_lt lent.indices made.indices) _ _ _ r.1 in
      let t = passed (nat_lt lent.spans made.spans) _ _ _ s.1 in
      record {
        few_vertices = ltb-false 196608 made.vertices a.0;
        few_normals = ltb-false 196608 made.normals b.0;
        few_indices = ltb-false 196608 made.indices c.0;
        few_spans = ltb-false 5120 made.spans d.0;
        vertices = ltb-false lent.vertices made.vertices q.0;
        normals = ltb-false lent.normals made.normals r.0;
        indices = ltb-false lent.indices made.indices s.0;
        spans = ltb-false lent.spans made.spans t.0;
      }

  pub fits_room : Fits made lent → room_fault made lent ≡ fine
  unfolding room_fault result_limits result_short refuse or_else
  fits_room f =
      simp (
        le-ltb 196608 made.vertices f.few_vertices,
        le-ltb 196608 made.normals f.few_normals,
        le-ltb 196608 made.indices f.few_indices,
        le-ltb 5120 made.spans f.few_spans,
        le-ltb lent.vertices made.vertices f.vertices,
        le-ltb lent.normals made.normals f.normals,
        le-ltb lent.indices made.indices f.indices,
        le-ltb lent.spans made.spans f.spans,
      )

-- ---- what is left

same_lists : {v v' n n' : List Float} {i i' s s' : List ℕ} → v ≡ v' → n ≡ n' → i ≡ i' → s ≡ s' → mesh_lists v n i s ≡ mesh_lists v' n' i' s'
same_lists a b c d = rw (a, b, c, d)

pub mesh_stays : {A : Type 0} {a b : ℕ} {answer : Answer A} (result before : Mesh) → refused a b ≡ answer → before ≡ leaves_mesh answer result before
unfolding leaves_mesh leaves
mesh_stays result before e = rw (← e)

put_left : {A B : Type 0} {m m' xs : List A} {q : ℕ} {a : B} {answer : Answer B} → taken a ≡ answer → Put m m' 0 xs q → length xs ≤ length m
    → m' ≡ leaves answer xs m
unfolding leaves
put_left {A} {B} {m} {m'} {xs} e p h = rw (← e) (p.memory ∙ sets_front xs m h)

-- what a taken call puts at the front of each list is what its answer leaves
pub mesh_left : {A : Type 0} {a : A} {answer : Answer A} (result : Mesh) {v v' n n' : List Float} {i i' s s' : List ℕ} {p q r t : ℕ} → taken a ≡ answer
    → Put v v' 0 result.vertices p → Put n n' 0 result.normals q → Put i i' 0 result.indices r → Put s s' 0 result.spans t
    → Fits (lengths_of result) (lengths_of (mesh_lists v n i s)) → mesh_lists v' n' i' s' ≡ leaves_mesh answer result (mesh_lists v n i s)
unfolding leaves_mesh
mesh_left result e w x y z f = same_lists (put_left e w f.vertices) (put_left e x f.normals) (put_left e y f.indices) (put_left e z f.spans)

-- ---- the room written out for strips, with as many normals as vertices, and for junctions, with no spans

unfoldable pub result_fault : ℕ → ℕ → ℕ → ℕ → ℕ → ℕ → ℕ → Fault
result_fault v i s v' n' i' s' =
    refuse (nat_lt (3 * 65536) v) 1 65536
    (refuse (nat_lt 196608 i) 1 196608
    (refuse (nat_lt (5 * 1024) s) 1 1024
    (refuse (nat_lt v' v) 3 v
    (refuse (nat_lt n' v) 3 v
    (refuse (nat_lt i' i) 3 i
    (refuse (nat_lt s' s) 3 s fine))))))

pub strips_room : (v i s : ℕ) (lent : Lengths)
    → room_fault (record { vertices = v; normals = v; indices = i; spans = s }) lent ≡ result_fault v i s lent.vertices lent.normals lent.indices lent.spans
unfolding room_fault result_limits result_short result_fault or_else
strips_room v i s lent = once (nat_lt (3 * 65536) v) (nat_lt 196608 i) (nat_lt (5 * 1024) s) _
  where
    once : (a b c : Bool) (after : Fault)
        → or_else (refuse a 1 65536 (refuse a 1 65536 (refuse b 1 196608 (refuse c 1 1024 fine)))) after
        ≡ refuse a 1 65536 (refuse b 1 196608 (refuse c 1 1024 after))
    once a b c after = rw (else_refuse a, else_refuse a, else_refuse b, else_refuse c) (again a 1 65536 _)

unfoldable pub ground_fault : ℕ → ℕ → ℕ → ℕ → Fault
ground_fault many v n i =
    refuse (nat_lt 65536 many) 1 65536
    (refuse (nat_lt v (3 * many)) 3 (3 * many)
    (refuse (nat_lt n (3 * many)) 3 (3 * many)
    (refuse (nat_lt i many) 3 many fine)))

pub ground_room : (many v n i : ℕ)
    → room_fault (record { vertices = 3 * many; normals = 3 * many; indices = many; spans = 0 }) (record { vertices = v; normals = n; indices = i; spans = 0 })
    ≡ ground_fault many v n i
unfolding room_fault result_limits result_short ground_fault refuse or_else
ground_room many v n i =
    elim (dec_lt 65536 many) [
      | yes p ↦ simp (lt-ltb 65536 many p, lt-ltb (3 * 65536) (3 * many) (omega arith))
      | no p ↦ simp (le-ltb 65536 many (omega arith), le-ltb (3 * 65536) (3 * many) (omega arith), le-ltb 196608 many (omega arith))
    ]
