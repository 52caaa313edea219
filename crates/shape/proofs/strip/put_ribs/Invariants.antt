-- `shape::strip::put_ribs` meets its contract: so far k ribs and k segments are written. Assumes nothing.
use Rattle.std.proofs.Common.{◌≡◌, ℕ, ◌+◌, ◌*◌, List}
use lib.Ieee.{Float}
use Rattle.shape.specs.declared.strip.At.{At}
use Rattle.shape.specs.declared.rib.Walk.{Walk}
use Rattle.shape.specs.Gather.{gather}
use Rattle.shape.specs.Memory.{Put}
use Rattle.shape.specs.Strip.{Lane, lane_of, vertices_at, normals_at, indices_at}
use Rattle.shape.specs.MeshSteps.{walk_at}
use Rattle.shape.proofs.strip.put_ribs.Given as goal

pub record Inv (l : Lane) (ks : List ℕ) (v : ℕ) (at : At) (v₀ v₁ n₀ n₁ : List Float) (i₀ i₁ : List ℕ) (w : Walk) (q j i : ℕ) : Type 0 where
  pub k : ℕ
  pub next : i ≡ k + 1
  pub vs : Put v₀ v₁ at.floats (gather (vertices_at l ks) k) q
  pub ns : Put n₀ n₁ at.floats (gather (normals_at l ks) k) q
  pub is : Put i₀ i₁ at.index (gather (indices_at v l ks) k) j
  pub here : w ≡ walk_at l ks k
  pub at_q : q ≡ at.floats + 6 * k

abbrev pub invariant-loop-i : goal.invariant-loop-i
invariant-loop-i l =
    Inv (lane_of l.course.lane) l.course.ks.now l.v l.at l.initial.vertices l.vertices l.initial.normals l.normals l.initial.indices l.indices l.w l.q l.j l.i
