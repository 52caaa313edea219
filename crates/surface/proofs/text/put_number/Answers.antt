-- `surface::text::put_number` meets its contract. Assumes nothing.
use native.Mathlib.Omega.{arith}
use Rattle.shape.proofs.Laws.Memory.{put_then}
use Rattle.surface.proofs.text.put_number.Goals as goal

pub returns : goal.returns
returns c =
    let p = c.put-next.ensures in
    let q = c.put_decimal.ensures 9 (omega arith) in
    record { put = put_then p q; value = omega (arith, p.ends, q.ends) }
