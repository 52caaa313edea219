-- `surface::file::past_greatest` meets its contract: no id of the first k records is past the greatest. Assumes nothing.
use Rattle.std.proofs.Common.{◌≡◌, false}
use Rattle.shape.specs.Gather.{any}
use Rattle.surface.specs.File.{past_at}
use Rattle.surface.proofs.file.past_greatest.Given as goal

abbrev pub invariant-loop-k : goal.invariant-loop-k
invariant-loop-k l = any (past_at l.held) l.k ≡ false
