-- `surface::held::Surface::unpack_threes` meets its contract: those of the first k vertices are put. Assumes nothing.
use Rattle.std.proofs.Common.{◌*◌}
use Rattle.surface.specs.File.{words_of}
use Rattle.surface.specs.Held.{three_in}
use Rattle.surface.proofs.Copies.{Filled}
use Rattle.surface.proofs.held.Surface.unpack_threes.Given as goal

abbrev pub invariant-loop-k : goal.invariant-loop-k
invariant-loop-k l = Filled (three_in (words_of l.self.bytes.now) l.j) 3 l.initial.out l.out 0 l.k (3 * l.k)
