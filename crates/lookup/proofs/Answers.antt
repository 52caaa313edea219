-- What is located and scanned picks the case of `top_of`. Assumes nothing.
use Rattle.std.proofs.Common.{◌≡◌, ℕ, ◌-◌, List, length, take, drop, sym, arith, Option, Some, None}
use lib.Ieee.{Float}
use Rattle.shape.specs.Refusal.{fine, fault, judge, taken, refused}
use Rattle.shape.specs.Lists.{Mesh}
use Rattle.lookup.specs.Mesh.{triangles}
use Rattle.lookup.specs.Plain.{scan_of, entry_of}
use Rattle.lookup.specs.Consult.{run_in, nowhere, run, consult_of}
use Rattle.lookup.specs.Sampler.{top_fault, miss, sample_in, sample_of, onward, top_of}
use Rattle.lookup.specs.Sixteen.{Small}
use Rattle.lookup.proofs.Laws.Scan.{scan_found}
use Rattle.lookup.proofs.Laws.Plain.{covers_below}
use Rattle.lookup.proofs.Laws.Limits.{InOrder, in_order, mesh_in_order}

pub turned_back : (m : Mesh) (ws : List ℕ) (x y : Float) {n p : ℕ} → top_fault m ws ≡ fault n p → refused n p ≡ top_of m ws x y
unfolding top_of judge
turned_back m ws x y e = rw e

module _ (m : Mesh) (ws : List ℕ) (x y : Float) (f : top_fault m ws ≡ fine) where
  pub ordered : InOrder m
  ordered = in_order m (mesh_in_order m ws f)

  pub refuses : {n p : ℕ} → refused n p ≡ consult_of ws (triangles m.indices) x y → refused n p ≡ top_of m ws x y
  unfolding top_of judge onward
  refuses g = rw (f, ← g)

  pub nothing : taken nowhere ≡ consult_of ws (triangles m.indices) x y → taken miss ≡ top_of m ws x y
  unfolding top_of judge onward sample_in sample_of scan_of run_in
  nothing g = rw (f, ← g)

  pub gives : {a e : ℕ} → taken (run a e) ≡ consult_of ws (triangles m.indices) x y → {r : List ℕ} → r ≡ take (e - a) (drop a ws) → {s : Option (Float × ℕ)}
      → s ≡ scan_of m.vertices m.indices x y (entry_of r) (length r) → taken (sample_of m x y s) ≡ top_of m ws x y
  unfolding top_of judge onward sample_in run_in
  gives g u v = rw (f, ← g, ← u, ← v)

  -- the triangle is one of the mesh
  pub small : {r : List ℕ} (q : List ℕ) → r ≡ q → (s : Option (Float × ℕ)) → s ≡ scan_of m.vertices m.indices x y (entry_of r) (length r) → Small s
  unfolding Small
  small {r} q u (Some (h, t)) v =
      let l = covers_below m x y t (scan_found m.vertices m.indices x y (entry_of r) (length r) (sym v)).counted in
      omega (arith, l, ordered.indices)
  small q u None v = tt
