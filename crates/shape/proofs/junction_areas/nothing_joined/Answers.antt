-- `shape::junction_areas::nothing_joined` meets its contract: the gap is none. Assumes nothing.
use Rattle.shape.proofs.Reaching.{no_gap}
use Rattle.shape.proofs.junction_areas.nothing_joined.Goals as goal

pub invariant_of-result : goal.invariant_of-result
invariant_of-result c = record { least = no_gap.0; under = no_gap.1 }
