-- `shape::junction::put_ears` meets its contract: the ears so far. Assumes nothing.
use Rattle.std.proofs.Common.{ℕ}
use Rattle.shape.specs.Gather.{gather}
use Rattle.shape.specs.Memory.{Put}
use Rattle.shape.specs.JunctionMesh.{raised_by, spacing_of, corner_coords, face_normals, ear_cut, ear_mesh}
use Rattle.shape.proofs.junction.put_ears.Given as goal

abbrev pub invariant-loop-k : goal.invariant-loop-k
invariant-loop-k l =
    record {
      vs : Put l.initial.vertices l.vertices 0 (gather (λ (x : ℕ). ear_mesh corner_coords (raised_by l.relief) (ear_cut (spacing_of l.relief.grid) l.ears.ring.now l.ears.numbers.now x)) l.k) l.at;
      ns : Put l.initial.normals l.normals 0 (gather (λ (x : ℕ). ear_mesh face_normals (raised_by l.relief) (ear_cut (spacing_of l.relief.grid) l.ears.ring.now l.ears.numbers.now x)) l.k) l.at;
    }
