-- `shape::mesh::Checked::room` meets its contract: the most that the lanes can give fits, or the mesh is counted. Assumes nothing.
use Rattle.std.proofs.Common.{sym, ◌∙◌}
use Rattle.shape.specs.Refusal.{found}
use Rattle.shape.specs.SurfaceMesh.{given_of}
use Rattle.shape.proofs.Meshing.{ok_fine, all_lengths, most_fine}
use Rattle.shape.proofs.mesh.Checked.room.Goals as goal

pub returns-then-is_ok : goal.returns-then-is_ok
unfolding found
returns-then-is_ok c =
    let e = rw c.from.ensures at c.room_fault.ensures in
    most_fine (given_of c.args.self.lanes) c.most_sizes.result c.most_sizes.ensures c.args.lent
    (ok_fine c.room_fault.result _ e (sym c.is_ok.ensures.value ∙ c.if-is_ok.true))

pub returns : goal.returns
returns c = rw (c.from-2.ensures, all_lengths (given_of c.args.self.lanes) c.totals.result c.totals.ensures) at c.room_fault-2.ensures
