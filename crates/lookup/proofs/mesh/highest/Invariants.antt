-- `lookup::mesh::highest` meets its contract. The loop's invariant: `peak` is the highest of what is before the part. Assumes nothing.
use Rattle.std.proofs.Common.{◌≡◌, ◌-◌, ◌≤◌, length, drop}
use Rattle.std.specs.Slice.Iter.{chunks_rest, chunks_size}
use Rattle.lookup.specs.Sixteen.{best_of, PeakWeighed, HitOf}
use Rattle.lookup.proofs.mesh.highest.Given as goal

abbrev pub invariant-loop-part : goal.invariant-loop-part
invariant-loop-part l =
    let rest = chunks_rest l.part-iterator in
    let i = length l.run - length rest in
    (chunks_size l.part-iterator ≡ 16) × (length rest ≤ length l.run) × (rest ≡ drop i l.run) × (length l.a ≡ 32) × (length l.b ≡ 32) × (length l.c ≡ 32) × (length l.low ≡ 16)
    × HitOf l.mesh.vertices.now l.mesh.indices.now l.x l.y l.run i (best_of l.peak) l.whole × PeakWeighed l.mesh.vertices.now l.mesh.indices.now l.x l.y l.peak
