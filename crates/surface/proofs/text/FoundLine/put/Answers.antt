-- `surface::text::FoundLine::put` meets its contract. Assumes nothing.
use Rattle.shape.proofs.Laws.Memory.{put_then}
use Rattle.surface.specs.Text.{found_line}
use Rattle.surface.proofs.text.FoundLine.put.Goals as goal

pub returns : goal.returns
unfolding found_line
returns c =
    let a = c.put_number-at.ensures in
    let b = c.put_float-at.ensures in
    let d = c.put_normal-at.ensures in
    let e = c.put_number-at-2.ensures in
    let f = c.put_lane-at.ensures in
    let g = c.put.ensures in
    put_then (put_then (put_then (put_then (put_then a.put b.put) d.put) e.put) f) g
