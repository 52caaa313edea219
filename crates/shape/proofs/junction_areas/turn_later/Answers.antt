-- `shape::junction_areas::turn_later` meets its contract. Assumes nothing.
use Rattle.std.proofs.Common.{sym, ◌∙◌}
use Rattle.shape.proofs.Joining.{later_back, later_front}
use Rattle.shape.proofs.junction_areas.turn_later.Goals as goal

pub returns-then-nearer : goal.returns-then-nearer
returns-then-nearer c =
    later_back c.args.end c.args.gap.root c.args.s.now _ _ (rw (← c.final_point.ensures) c.squares_between-far.ensures.rooted)
    (rw (← c.first_point.ensures) c.squares_between-near.ensures.rooted) _ (sym c.nearer.ensures ∙ c.if-nearer.true) c.widened.ensures

pub returns : goal.returns
returns c =
    later_front c.args.end c.args.gap.root c.args.s.now _ _ (rw (← c.final_point.ensures) c.squares_between-far.ensures.rooted)
    (rw (← c.first_point.ensures) c.squares_between-near.ensures.rooted) _ (sym c.nearer.ensures ∙ c.if-nearer.false) c.widened-2.ensures
