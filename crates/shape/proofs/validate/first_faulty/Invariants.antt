-- `shape::validate::first_faulty`: nothing is wrong with a triangle before t. Assumes nothing.
use Rattle.std.proofs.Common.{◌≡◌, false}
use Rattle.shape.specs.Gather.{any}
use Rattle.shape.specs.Verdict.{faulty_at}
use Rattle.shape.proofs.validate.first_faulty.Given as goal

abbrev pub invariant-loop-t : goal.invariant-loop-t
invariant-loop-t l = any (faulty_at l.mesh.vertices.now l.mesh.indices.now) l.t ≡ false
