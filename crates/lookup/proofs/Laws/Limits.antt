-- What it means that the indexed lookup's input is in order, and the refusals that it may have. Assumes nothing.
use Rattle.std.specs.Prelude.{◌≡◌, ℕ, ◌+◌, ◌/◌, ◌≤◌, Bool, false, List, length, ◌≢◌, refl}
use Rattle.std.proofs.Common.{arith, le-ltb, ltb-false}
use Rattle.shape.specs.Gather.{any}
use Rattle.shape.specs.Lists.{Mesh, longer, uneven, run_bad, mesh_limits, mesh_ragged, mesh_fault}
use Rattle.shape.specs.Refusal.{Fault, fine, fault, refuse, or_else, Answer, taken, judge}
use Rattle.shape.proofs.Laws.Refusal.{passed, else_passed}
use Rattle.lookup.specs.Sampler.{EndsRise, top_fault}
use Rattle.lookup.proofs.Laws.Faults.{Holds, holds_fine, holds_refuse, holds_else}
use Rattle.lookup.proofs.Laws.Spans.{ends_rise}

-- an answer that was taken: nothing was at fault
pub judged : {A : Type 0} (f : Fault) (a : Answer A) (s : A) → judge f a ≡ taken s → (f ≡ fine) × (a ≡ taken s)
unfolding judge
judged fine a s e = (refl, e)
judged (fault number place) a s e = let z : ◌≡◌ {A = ℕ} 0 1 = cc in absurd (omega arith)

-- what holds of 1 and of 2 with every place holds of each fault of the input

module _ (P : ℕ → ℕ → Type 0) (over : (p : ℕ) → P 1 p) (ragged : (p : ℕ) → P 2 p) where
  limits_hold : (m : Mesh) → Holds P (mesh_limits m)
  unfolding mesh_limits
  limits_hold m =
      holds_refuse P (longer 3 65536 m.vertices) 1 65536 _ (over _)
      (holds_refuse P (longer 3 65536 m.normals) 1 65536 _ (over _)
      (holds_refuse P (longer 1 196608 m.indices) 1 196608 _ (over _)
      (holds_refuse P (longer 5 1024 m.spans) 1 1024 fine (over _) (holds_fine P))))

  ragged_hold : (p : ℕ) (m : Mesh) → Holds P (mesh_ragged p m)
  unfolding mesh_ragged
  ragged_hold p m =
      holds_refuse P (uneven 3 m.vertices) 2 p _ (ragged _)
      (holds_refuse P (uneven 3 m.normals) 2 (p + 1) _ (ragged _)
      (holds_refuse P (uneven 5 m.spans) 2 (p + 3) _ (ragged _)
      (holds_refuse P (any (run_bad 5 1 m.spans (length m.vertices / 3)) (length m.spans / 5)) 2 (p + 3) _ (ragged _)
      (holds_refuse P (any (run_bad 5 3 m.spans (length m.indices)) (length m.spans / 5)) 2 (p + 3) fine (ragged _) (holds_fine P)))))

  input_holds : (m : Mesh) (ws : List ℕ) → Holds P (top_fault m ws)
  unfolding top_fault
  input_holds m ws =
      holds_else P (mesh_limits m) _ (limits_hold m)
      (λ e. holds_else P (refuse (longer 1 4194304 ws) 1 4194304 fine) _ (holds_refuse P (longer 1 4194304 ws) 1 4194304 fine (over _) (holds_fine P))
      (λ f. ragged_hold 0 m))

-- only consulting the index tells that it is foreign
pub input_not_foreign : (m : Mesh) (ws : List ℕ) (p : ℕ) → top_fault m ws ≢ fault 4 p
input_not_foreign m ws p e = input_holds (λ k q. k ≢ 4) (λ q z. omega arith) (λ q z. omega arith) m ws 4 p e refl

-- an index within its limit changes nothing
pub short_index : (m : Mesh) (ws : List ℕ) → length ws ≤ 4194304 → top_fault m ws ≡ mesh_fault m
unfolding top_fault mesh_fault longer refuse or_else
short_index m ws l = go (longer 1 4194304 ws) (le-ltb 4194304 (length ws) l)
  where
    go : (b : Bool) → b ≡ false → or_else (mesh_limits m) (or_else (refuse b 1 4194304 fine) (mesh_ragged 0 m)) ≡ or_else (mesh_limits m) (mesh_ragged 0 m)
    go b e = rw e

-- ---- where the input is in order

-- so is the mesh
pub mesh_in_order : (m : Mesh) (ws : List ℕ) → top_fault m ws ≡ fine → mesh_fault m ≡ fine
unfolding top_fault mesh_fault or_else
mesh_in_order m ws e =
    let p = else_passed (mesh_limits m) _ e in
    let q = else_passed (refuse (longer 1 4194304 ws) 1 4194304 fine) (mesh_ragged 0 m) p.1 in
    rw p.0 q.1

-- and the index is within its limit
pub index_in_order : (m : Mesh) (ws : List ℕ) → top_fault m ws ≡ fine → length ws ≤ 4194304
unfolding top_fault longer
index_in_order m ws e =
    let p = else_passed (mesh_limits m) _ e in
    let q = else_passed (refuse (longer 1 4194304 ws) 1 4194304 fine) (mesh_ragged 0 m) p.1 in
    ltb-false 4194304 (length ws) (passed (longer 1 4194304 ws) 1 4194304 fine q.0).0

-- its lists are within the limits, and no span's run of indices ends before the last one's
pub record InOrder (m : Mesh) : Type 0 where
  pub indices : length m.indices ≤ 196608
  pub spans : length m.spans ≤ 5120
  pub ends : EndsRise m.spans (length m.spans / 5)

pub in_order : (m : Mesh) → mesh_fault m ≡ fine → InOrder m
unfolding mesh_fault mesh_limits mesh_ragged longer
in_order m e =
    let limits = else_passed (mesh_limits m) (mesh_ragged 0 m) e in
    let normals = (passed (longer 3 65536 m.vertices) 1 65536 _ limits.0).1 in
    let indices = (passed (longer 3 65536 m.normals) 1 65536 _ normals).1 in
    let long = passed (longer 1 196608 m.indices) 1 196608 _ indices in
    let many = passed (longer 5 1024 m.spans) 1 1024 _ long.1 in
    let threes = (passed (uneven 3 m.vertices) 2 0 _ limits.1).1 in
    let fives = (passed (uneven 3 m.normals) 2 1 _ threes).1 in
    let vertex_runs = (passed (uneven 5 m.spans) 2 3 _ fives).1 in
    let index_runs = (passed (any (run_bad 5 1 m.spans (length m.vertices / 3)) (length m.spans / 5)) 2 3 _ vertex_runs).1 in
    let within = passed (any (run_bad 5 3 m.spans (length m.indices)) (length m.spans / 5)) 2 3 _ index_runs in
    record {
      indices = ltb-false 196608 (length m.indices) long.0;
      spans = ltb-false 5120 (length m.spans) many.0;
      ends = ends_rise m.spans (length m.indices) (length m.spans / 5) within.0;
    }
