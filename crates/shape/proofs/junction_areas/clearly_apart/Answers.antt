-- `shape::junction_areas::clearly_apart` meets its contract. Assumes nothing.
use Rattle.shape.proofs.Reaching.{far_in_x, far_in_y, own_number}
use Rattle.shape.proofs.junction_areas.clearly_apart.Goals as goal

pub returns-then-is_wide : goal.returns-then-is_wide
returns-then-is_wide c = λ h. far_in_x _ _ (c.is_wide.ensures c.if-is_wide.true) (own_number _ h)

pub returns-then-is_wide-2 : goal.returns-then-is_wide-2
returns-then-is_wide-2 c = λ h. far_in_y _ _ (c.is_wide-2.ensures c.if-is_wide-2.true) (own_number _ h)
