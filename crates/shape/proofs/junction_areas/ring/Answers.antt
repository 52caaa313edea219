-- `shape::junction_areas::ring` meets its contract: lists that are turned back. Assumes nothing.
use Rattle.std.proofs.Common.{◌≡◌, rules, Err}
use Rattle.shape.proofs.Joining.{lists_told}
use Rattle.shape.proofs.junction_areas.ring.Goals as goal

pub returns-in_err-checked : goal.returns-in_err-checked
returns-in_err-checked c =
    let h : c.from_residual.result ≡ Err c.in_err-checked.field-0.0 = search rules in
    rw h (lists_told _ _ _ _ c.in_err-checked.ensures)
