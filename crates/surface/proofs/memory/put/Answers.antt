-- `surface::memory::put` meets its contract: all elements are copied from `at` on. Assumes nothing.
use Rattle.std.proofs.Common.{◌∙◌, arith, length-take, length-drop}
use Rattle.shape.proofs.Laws.Memory.{copied}
use Rattle.surface.proofs.Texts.{put_over}
use Rattle.surface.proofs.memory.put.Goals as goal

pub returns : goal.returns
returns g c =
    let copy = c.copy.ensures in
    let all = copy.out_after ∙ copied _ _ _ copy.value (simp (length-take, length-drop) (omega arith)) in
    rw all (put_over c.args.out.now c.args.xs.now c.args.at _ (omega arith) (omega arith))
