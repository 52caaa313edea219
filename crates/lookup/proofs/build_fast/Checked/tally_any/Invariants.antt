-- `lookup::build_fast::Checked::tally_any` meets its contract: one triangle more is tallied and measured in each turn, or passed over. Assumes nothing.
use Rattle.lookup.specs.Steps.{Tallied}
use Rattle.lookup.proofs.Tallies.{Sized}
use Rattle.lookup.proofs.build_fast.Checked.tally_any.Given as goal

abbrev pub invariant-loop-t : goal.invariant-loop-t
invariant-loop-t l =
    Tallied l.self.mesh.vertices.now l.self.mesh.indices.now l.t l.count l.extent × Sized l.self.mesh.vertices.now l.self.mesh.indices.now l.t l.narrow l.width l.height
