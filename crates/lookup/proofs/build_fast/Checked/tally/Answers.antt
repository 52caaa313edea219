-- `lookup::build_fast::Checked::tally` meets its contract: both ways do. Assumes nothing.
use Rattle.lookup.proofs.Tallies.{box_there}
use Rattle.lookup.proofs.build_fast.Checked.tally.Goals as goal

pub tally_on-requires-clause-sound : goal.tally_on-requires-clause-sound
tally_on-requires-clause-sound c =
    (c.sound.ensures c.if-sound.true, box_there _ _ _ _ _ _ c.in-Some.ensures c.around.ensures c.grown-first.ensures)
