-- `shape::junction_areas::Checked::join` meets its contract. Assumes nothing.
use Rattle.std.proofs.Common.{◌≡◌, ◌/◌, length, refl, ap, arith}
use Rattle.shape.specs.Gather.{gather}
use Rattle.shape.specs.Outline.{solid, joined, origin, flat}
use Rattle.shape.specs.declared.junction_areas.RingSoFar.{RingSoFar}
use Rattle.shape.specs.OutlineSteps.{tip_of}
use Rattle.shape.proofs.Joining.{sound_lists, last_end_within}
use Rattle.shape.proofs.junction_areas.Checked.join.Goals as goal

pub loop-k-init : goal.loop-k-init
unfolding solid gather joined origin flat tip_of
loop-k-init c = record {
  joins = record { holds = rw c.nothing_joined-j.ensures.0 (record { many = refl; end = refl; front = refl }); solids = c.nothing_joined-j.ensures.1; gap = c.nothing_joined-j.ensures.2 };
  count = omega (arith, ap (λ (r : RingSoFar). r.count) c.nothing_joined-j.ensures.0);
}

pub returns : goal.returns
returns c =
    let l = c.loop-k.invariant in
    let e : c.loop-k.k ≡ length c.args.self.segments.words.now / 2 = omega arith in
    (rw e at l.joins, omega (arith, l.count, last_end_within (sound_lists _ _ c.args.self.sound) c.loop-k.k (omega arith)))
