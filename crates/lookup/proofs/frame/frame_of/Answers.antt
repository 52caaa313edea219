-- `lookup::frame::frame_of` meets its contract. Assumes nothing.
use lib.Ieee.{of_bits}
use Rattle.lookup.specs.Frame.{frame_of, cell_of}
use Rattle.lookup.proofs.frame.frame_of.Goals as goal

pub returns : goal.returns
unfolding frame_of cell_of of_bits
returns c =
    rw (
      c.max-2.ensures,
      c.max.ensures,
      c.nearest_u32_to_f32-along.ensures,
      c.nearest_u32_to_f32-across.ensures,
      c.side-rows.ensures.0,
      c.side-cols.ensures.0,
      c.fine-first.ensures,
    )
