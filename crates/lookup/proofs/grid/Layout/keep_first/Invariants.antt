-- `lookup::grid::Layout::keep_first` meets its contract: the blocks below t are kept, or all are. Assumes nothing.
use Rattle.std.proofs.Common.{min}
use Rattle.lookup.specs.Index.{blocks_of}
use Rattle.lookup.specs.Steps.{Kept, from}
use Rattle.lookup.proofs.grid.Layout.keep_first.Given as goal

abbrev pub invariant-loop-t : goal.invariant-loop-t
invariant-loop-t l = let m = l.self.mesh in Kept (from 0 (blocks_of m.vertices.now m.indices.now l.self.grid.frame)) (min l.t l.n) l.blocks
