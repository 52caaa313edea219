-- `shape::junction::put_split` meets its contract: the rows so far. Assumes nothing.
use Rattle.shape.specs.Gather.{gather}
use Rattle.shape.specs.Memory.{Put}
use Rattle.shape.specs.JunctionMesh.{lattice, raised_by, corner_coords, face_normals, row_of}
use Rattle.shape.proofs.junction.put_split.Given as goal

abbrev pub invariant-loop-i : goal.invariant-loop-i
invariant-loop-i l =
    record {
      vs : Put l.initial.vertices l.vertices l.from (gather (row_of corner_coords (λ x y. raised_by l.relief (lattice l.e x y)) l.e.n) l.i) l.at;
      ns : Put l.initial.normals l.normals l.from (gather (row_of face_normals (λ x y. raised_by l.relief (lattice l.e x y)) l.e.n) l.i) l.at;
    }
