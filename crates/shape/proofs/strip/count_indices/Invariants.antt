-- `shape::strip::count_indices` meets its contract: so far the indices of the first k segments are counted. Assumes nothing.
use Rattle.std.proofs.Common.{◌≡◌, ℕ, ◌+◌, ◌-◌, ◌*◌, ◌≤◌, List, length}
use Rattle.shape.specs.declared.rib.Walk.{Walk}
use Rattle.shape.specs.Gather.{gather}
use Rattle.shape.specs.Strip.{Lane, lane_of, indices_at}
use Rattle.shape.specs.MeshSteps.{walk_at}
use Rattle.shape.proofs.strip.count_indices.Given as goal

pub record Inv (l : Lane) (ks : List ℕ) (w : Walk) (q i : ℕ) : Type 0 where
  pub k : ℕ
  pub next : i ≡ k + 1
  pub sum : (v : ℕ) → q ≡ length (gather (indices_at v l ks) k)
  pub here : w ≡ walk_at l ks k
  pub most : k ≤ length ks - 1
  pub few : q ≤ 6 * k

abbrev pub invariant-loop-i : goal.invariant-loop-i
invariant-loop-i l = Inv (lane_of l.course.lane) l.course.ks.now l.w l.q l.i
