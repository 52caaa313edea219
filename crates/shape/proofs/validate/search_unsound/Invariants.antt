-- `shape::validate::search_unsound`: every vertex before i is finite. Assumes nothing.
use Rattle.std.proofs.Common.{◌≡◌, false}
use Rattle.shape.specs.Gather.{any}
use Rattle.shape.specs.Verdict.{unsound}
use Rattle.shape.proofs.validate.search_unsound.Given as goal

abbrev pub invariant-loop-i : goal.invariant-loop-i
invariant-loop-i l = any (unsound l.mesh.vertices.now) l.i ≡ false
