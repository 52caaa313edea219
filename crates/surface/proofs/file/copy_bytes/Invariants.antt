-- `surface::file::copy_bytes` meets its contract: the first k records are put. Assumes nothing.
use Rattle.std.proofs.Common.{◌*◌}
use Rattle.surface.specs.File.{encode, file_at}
use Rattle.surface.proofs.Copies.{Filled}
use Rattle.surface.proofs.file.copy_bytes.Given as goal

abbrev pub invariant-loop-k : goal.invariant-loop-k
invariant-loop-k l = Filled (λ k. encode (file_at l.held k)) 32 l.initial.bytes l.bytes 0 l.k (32 * l.k)
