-- `surface::file::spare_used` meets its contract: no word before the one looked at is spare and used. Assumes nothing.
use Rattle.std.proofs.Common.{◌≡◌, false}
use Rattle.shape.specs.Gather.{any}
use Rattle.surface.specs.File.{spare_used}
use Rattle.surface.proofs.file.spare_used.Given as goal

abbrev pub invariant-loop-j : goal.invariant-loop-j
invariant-loop-j g l = any (spare_used g.R.Records.form l.r.words) l.j ≡ false
