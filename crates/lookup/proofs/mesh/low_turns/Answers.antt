-- `lookup::mesh::low_turns` meets its contract. The loop's invariant: `peak` is the highest after the first k of the part. Assumes nothing.
use Rattle.std.proofs.Common.{sym, refl, ◌∙◌, arith}
use Rattle.lookup.specs.Sixteen.{scan_on}
use Rattle.lookup.proofs.Turns.{passed_missing, passed_outside, taken_inside}
use Rattle.lookup.proofs.Sixteens.{pass_next, weighs, weighed_next, best_higher}
use Rattle.lookup.proofs.mesh.low_turns.Goals as goal

pub loop-k-preserved-then-low-k : goal.loop-k-preserved-then-low-k
loop-k-preserved-then-low-k c =
    let l = c.loop-k in (
      pass_next _ _ _ _ _ _ _ _ l.invariant.0 (c.requires.passing l.k (omega (arith, c)) c.if-low-k.true),
      l.invariant.1,
    )

pub loop-k-preserved-in_default : goal.loop-k-preserved-in_default
loop-k-preserved-in_default c =
    let l = c.loop-k in (passed_missing _ _ _ _ _ _ _ refl _ l.invariant.0 (sym c.corners.ensures ∙ c.in_default.is), l.invariant.1)

pub loop-k-preserved-then-not-inside : goal.loop-k-preserved-then-not-inside
loop-k-preserved-then-not-inside c =
    let l = c.loop-k in (
      passed_outside _ _ _ _ _ _ _ refl _ l.invariant.0 (sym c.corners.ensures ∙ c.in-Some.is)
          (rw (← c.weigh-weights.ensures) (sym c.inside.ensures ∙ c.if-not-inside.true)),
      l.invariant.1,
    )

pub loop-k-preserved : goal.loop-k-preserved
loop-k-preserved c =
    let l = c.loop-k in
    let f = sym c.corners.ensures ∙ c.in-Some.is in
    rw c.higher-peak.ensures (
      best_higher _ _ _
          ∙ rw (c.height-height.ensures, c.weigh-weights.ensures)
          (taken_inside _ _ _ _ _ _ _ refl _ l.invariant.0 f
          (rw (← c.weigh-weights.ensures) (sym c.inside.ensures ∙ c.if-not-inside.false))),
      weighed_next _ _ _ _ _ _ _ l.invariant.1 (weighs _ _ _ _ f c.weigh-weights.ensures),
    )

pub loop-k-init : goal.loop-k-init
unfolding scan_on
loop-k-init c = (refl, c.requires.peak_weighed)
