-- `surface::text::put_float` meets its contract. Assumes nothing.
use native.Mathlib.Omega.{arith}
use Rattle.shape.proofs.Laws.Memory.{put_then}
use Rattle.rounding.specs.Stored.{stored_of}
use Rattle.surface.proofs.Laws.Text.{hex_eight}
use Rattle.surface.proofs.text.put_float.Goals as goal

pub returns : goal.returns
returns c =
    let p = c.put-next.ensures in
    let q = rw c.stored_word.ensures at c.put_hexadecimal.ensures in
    record { put = put_then p q; value = omega (arith, p.ends, q.ends, hex_eight (stored_of c.args.x)) }
