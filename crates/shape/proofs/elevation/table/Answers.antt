-- `shape::elevation::table` meets its contract, with three numbers below 0 in one row. Assumes nothing.
use Rattle.shape.specs.ElevationSteps.{table_row}
use Rattle.shape.proofs.elevation.table.Goals as goal

pub returns-in-2 : goal.returns-in-2
unfolding table_row
returns-in-2 c = rw c.in-2.is
