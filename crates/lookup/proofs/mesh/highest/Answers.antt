-- `lookup::mesh::highest` meets its contract. The loop's invariant: `peak` is the highest of what is before the part. Assumes nothing.
use Rattle.std.proofs.Common.{◌≡◌, ◌-◌, length, ◌∙◌, sym, refl, arith, rules}
use Rattle.std.specs.Slice.Iter.{chunks_rest}
use Rattle.lookup.specs.Plain.{scan_of}
use Rattle.lookup.specs.Sixteen.{best_of}
use Rattle.lookup.proofs.Sixteens.{exactly_none, hit_step, weighed_none}
use Rattle.lookup.proofs.Cuts.{cut_first, cut_next}
use Rattle.lookup.proofs.mesh.highest.Goals as goal

pub loop-part-init : goal.loop-part-init
unfolding scan_of best_of
loop-part-init c =
    let i = c.into_iter-part-iterator.ensures.into_iter_gives in
    let f = cut_first _ _ c.chunks-part-items.ensures.rest in
    rw i (c.chunks-part-items.ensures.size, f.0, f.1, refl, refl, refl, refl, rw f.2 (record { found = refl; flag = exactly_none _ }), weighed_none _ _ _ _)

pub loop-part-preserved : goal.loop-part-preserved
loop-part-preserved c =
    let l = c.loop-part.invariant in
    let s = c.in-Some.ensures.steps in
    let f = cut_next _ _ _ _ l.1 l.2 s.1.0 in (
      s.0 ∙ l.0,
      f.0,
      f.1,
      search rules,
      search rules,
      search rules,
      search rules,
      rw f.2 (hit_step _ _ _ _ _ _ _ _ (sym s.1.0 ∙ l.2) l.7 c.weigh_part-there.ensures refl c.low_turns-peak.ensures.best_after),
      c.low_turns-peak.ensures.peak_after,
    )

pub returns : goal.returns
returns c =
    let l = c.loop-part.invariant in
    let z : length c.args.run.now - length (chunks_rest c.loop-part.part-iterator) ≡ length c.args.run.now = omega (arith, c.in-None.ensures.steps.1.0) in
    record { hit_of = rw z at l.7; peak_weighed = l.8 }
