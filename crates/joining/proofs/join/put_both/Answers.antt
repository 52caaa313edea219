-- `joining::join::put_both` meets its contract: one list is copied to the front, and the other behind it. Assumes nothing.
use Rattle.std.proofs.Common.{refl, ◌∙◌, arith, length-take, length-take-le, length-drop}
use Rattle.shape.proofs.Laws.Memory.{copied}
use Rattle.joining.proofs.Putting.{front_put, behind_put}
use Rattle.joining.proofs.join.put_both.Goals as goal

pub returns : goal.returns
returns g c =
    let first = c.copy.ensures in
    let second = c.copy-2.ensures in
    behind_put
    (front_put c.args.out.now (first.out_after ∙ copied _ _ _ first.value (length-take-le _ _ (omega arith))) refl (omega arith))
    (second.out_after ∙ copied _ _ _ second.value (simp (length-take, length-drop) (omega arith)))
    (omega arith)
    (omega arith)
