-- `shape::junction::put_row` meets its contract: the pairs of triangles of the row so far, and then the last. Assumes nothing.
use Rattle.std.proofs.Common.{◌≡◌, ℕ, ◌+◌, ◌-◌, ◌*◌, List}
use Rattle.std.specs.Prelude.{Float}
use Rattle.vector.specs.declared.coords.Point.{Point}
use Rattle.shape.specs.Gather.{gather}
use Rattle.shape.specs.Memory.{Put}
use Rattle.shape.specs.JunctionMesh.{lattice, raised_by, corner_coords, face_normals, cell_of}
use Rattle.shape.proofs.junction.put_row.Given as goal

-- j pairs of the row are put, and p and q are the two points that they end in
pub record Inv (A : ℕ → ℕ → Point) (n i from : ℕ) (v₀ v n₀ m : List Float) (at : ℕ) (p q : Point) (j : ℕ) : Type 0 where
  pub vs : Put v₀ v from (gather (cell_of corner_coords A n i) j) at
  pub ns : Put n₀ m from (gather (cell_of face_normals A n i) j) at
  pub isp : p ≡ A i j
  pub isq : q ≡ A (i + 1) j
  pub here : at ≡ from + 18 * j

abbrev pub invariant-loop-j : goal.invariant-loop-j
invariant-loop-j l =
    Inv (λ x y. raised_by l.relief (lattice l.e x y)) l.e.n l.i l.from l.initial.vertices l.vertices l.initial.normals l.normals l.at l.p l.q (l.j - 1)
