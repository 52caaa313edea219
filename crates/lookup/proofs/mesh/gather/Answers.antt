-- `lookup::mesh::gather` meets its contract. The loop's invariant: of the first k triangles, each that is there is held, and the flag tells whether all are. Assumes nothing.
use Rattle.std.proofs.Common.{sym, ◌∙◌, rules}
use Rattle.lookup.proofs.Sixteens.{gather_step, gather_pass}
use Rattle.lookup.proofs.mesh.gather.Goals as goal

pub loop-k-preserved-in_default : goal.loop-k-preserved-in_default
loop-k-preserved-in_default c =
    let l = c.loop-k.invariant in
    (l.0, l.1, l.2, gather_pass _ _ _ _ l.3 (sym c.corners.ensures ∙ c.in_default.is))

pub loop-k-preserved : goal.loop-k-preserved
loop-k-preserved c = (
  search rules,
  search rules,
  search rules,
  gather_step _ _ _ _ c.loop-k.invariant.3 (sym c.corners.ensures ∙ c.in-Some.is) c.put_ground.ensures
      c.put_ground-in-loop-k.ensures c.put_ground-in-loop-k-2.ensures,
)
