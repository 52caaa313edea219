-- `surface::file::put_file` meets its contract: the bytes of the words so far are put. Assumes nothing.
use Rattle.std.proofs.Common.{◌+◌, ◌*◌, get_or}
use Rattle.surface.specs.File.{four_bytes}
use Rattle.surface.proofs.Copies.{Filled}
use Rattle.surface.proofs.file.put_file.Given as goal

abbrev pub invariant-loop-j : goal.invariant-loop-j
invariant-loop-j l = Filled (λ k. four_bytes (get_or l.words k 0)) 4 l.initial.bytes l.bytes l.at l.j (l.at + 4 * l.j)
