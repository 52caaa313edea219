-- `lookup::build_fast::Checked::tally_on` meets its contract: one triangle more is tallied and measured in each turn, or passed over. Assumes nothing.
use Rattle.lookup.proofs.Tallies.{Measured}
use Rattle.lookup.proofs.build_fast.Checked.tally_on.Given as goal

abbrev pub invariant-loop-t : goal.invariant-loop-t
invariant-loop-t l =
    Measured l.self.mesh.vertices.now l.self.mesh.indices.now l.first l.t l.count l.extent l.narrow l.width l.height
