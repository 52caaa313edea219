-- `surface::held::Surface::unpack_points` meets its contract: those of the first k questions are put. Assumes nothing.
use Rattle.std.proofs.Common.{◌*◌}
use Rattle.surface.specs.File.{words_of}
use Rattle.surface.specs.Held.{point_in}
use Rattle.surface.proofs.Copies.{Filled}
use Rattle.surface.proofs.held.Surface.unpack_points.Given as goal

abbrev pub invariant-loop-k : goal.invariant-loop-k
invariant-loop-k l = Filled (point_in (words_of l.self.bytes.now)) 2 l.initial.out l.out 0 l.k (2 * l.k)
