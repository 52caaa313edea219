-- `surface::held::Surface::unpack_indices` meets its contract: those of the first t triangles are put. Assumes nothing.
use Rattle.std.proofs.Common.{◌*◌}
use Rattle.surface.specs.File.{words_of}
use Rattle.surface.specs.Held.{corners_in}
use Rattle.surface.proofs.Copies.{Filled}
use Rattle.surface.proofs.held.Surface.unpack_indices.Given as goal

abbrev pub invariant-loop-t : goal.invariant-loop-t
invariant-loop-t l = Filled (corners_in (words_of l.self.bytes.now)) 3 l.initial.out l.out 0 l.t (3 * l.t)
