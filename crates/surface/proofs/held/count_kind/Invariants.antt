-- `surface::held::count_kind` meets its contract: those of the first k records are counted. Assumes nothing.
use Rattle.std.proofs.Common.{◌≡◌}
use Rattle.surface.specs.File.{words_of}
use Rattle.surface.specs.Kind.{number}
use Rattle.surface.specs.Held.{how_many, is_kind}
use Rattle.surface.proofs.held.count_kind.Given as goal

abbrev pub invariant-loop-k : goal.invariant-loop-k
invariant-loop-k l = l.found ≡ how_many (is_kind (words_of l.bytes) (number l.kind)) l.k
