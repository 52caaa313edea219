-- `surface::text::PairLine::put` meets its contract. Assumes nothing.
use Rattle.shape.proofs.Laws.Memory.{put_then}
use Rattle.surface.proofs.text.PairLine.put.Goals as goal

pub returns : goal.returns
returns c = put_then (put_then c.put_number-at.ensures.put c.put_number-at-2.ensures.put) c.put.ensures
