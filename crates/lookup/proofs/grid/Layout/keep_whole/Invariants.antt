-- `lookup::grid::Layout::keep_whole` meets its contract: one block more is kept in each turn, or it is known that a triangle is missing or its first corner a NaN. Assumes nothing.
use Rattle.std.proofs.Common.{◌≡◌, true}
use Rattle.lookup.specs.Index.{blocks_of}
use Rattle.lookup.specs.Steps.{Kept, from}
use Rattle.lookup.proofs.grid.Layout.keep_whole.Given as goal

abbrev pub invariant-loop-k : goal.invariant-loop-k
invariant-loop-k l =
    l.whole ≡ true → Kept (from l.t (blocks_of l.self.mesh.vertices.now l.self.mesh.indices.now l.self.grid.frame)) l.k l.blocks
