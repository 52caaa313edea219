-- `surface::file::copy_words` meets its contract: the first k records are put. Assumes nothing.
use Rattle.std.proofs.Common.{◌*◌}
use Rattle.surface.specs.File.{held_at}
use Rattle.surface.proofs.Copies.{Filled}
use Rattle.surface.proofs.file.copy_words.Given as goal

abbrev pub invariant-loop-k : goal.invariant-loop-k
invariant-loop-k l = Filled (held_at l.bytes) 8 l.initial.held l.held 0 l.k (8 * l.k)
