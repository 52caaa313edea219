-- `shape::junction::Relief::spacing` meets its contract, by the case. Assumes nothing.
use Rattle.std.proofs.Common.{rules}
use Rattle.std.specs.Float.Ieee.{of_bits}
use Rattle.shape.specs.JunctionMesh.{spacing_of}
use Rattle.shape.proofs.junction.Relief.spacing.Goals as goal

pub returns : goal.returns
unfolding spacing_of of_bits
returns c = search rules
