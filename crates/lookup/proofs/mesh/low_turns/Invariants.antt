-- `lookup::mesh::low_turns` meets its contract. The loop's invariant: `peak` is the highest after the first k of the part. Assumes nothing.
use Rattle.std.proofs.Common.{◌≡◌}
use Rattle.lookup.specs.Sixteen.{best_of, scan_on, PeakWeighed}
use Rattle.lookup.proofs.mesh.low_turns.Given as goal

abbrev pub invariant-loop-k : goal.invariant-loop-k
invariant-loop-k l =
    (best_of l.peak ≡ scan_on l.mesh.vertices.now l.mesh.indices.now l.x l.y (best_of l.fn.before) l.part l.k) × PeakWeighed l.mesh.vertices.now l.mesh.indices.now l.x l.y l.peak
