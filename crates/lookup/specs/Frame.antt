-- Document 01, "Height under a wheel": the frame of the index's grid, as `Grid::build` makes it: the extent of the boxes, the side of a cell, and how many
-- cells there are on each side. Each operation rounds once, in the Rust's order. Definitions only. Assumes nothing.
use Rattle.std.specs.Prelude.{ℕ, zero, suc, ◌+◌, min, max, List, pos, Float, Option, Some, None}
use Rattle.std.specs.Float.{binary32}
use Rattle.std.specs.Float.Ieee.{to_unsigned, of_int}
use Rattle.rounding.specs.Extremes.{min_of, max_of}
use Rattle.rounding.specs.Root.{sqrt_of}
use Rattle.rounding.specs.Whole.{whole_of, ceil_of}
use Rattle.vector.specs.Single.{◌⊖◌, ◌⊗◌, ◌⊘◌, single, 1f}
use Rattle.lookup.specs.Box.{box_of, merge_of}
use Rattle.lookup.specs.declared.boxes.Aabb.{Aabb}
use Rattle.lookup.specs.declared.frame.Frame.{Frame}

-- the box around what two have
unfoldable pub join_of : Option Aabb → Option Aabb → Option Aabb
unfolding merge_of
join_of (Some a) (Some b) = Some (merge_of a b)
join_of None (Some b) = Some b
join_of (Some a) None = Some a
join_of None None = None

-- the box around the boxes of the first n triangles, taken in their order
unfoldable pub extent_of : List Float → List ℕ → ℕ → Option Aabb
unfolding join_of box_of
extent_of vs is zero = None
extent_of vs is (suc t) = join_of (extent_of vs is t) (box_of vs is t)

unfoldable pub one_of : Option Aabb → ℕ
one_of (Some b) = 1
one_of None = 0

-- how many of the first n triangles have a box
unfoldable pub boxes_of : List Float → List ℕ → ℕ → ℕ
unfolding one_of box_of
boxes_of vs is zero = 0
boxes_of vs is (suc t) = boxes_of vs is t + one_of (box_of vs is t)

-- a count as a single
abbrev pub count_of : ℕ → Float
count_of n = of_int binary32 (pos n)

-- 1e-3, 2 and 1,024
abbrev pub milli : Float
milli = single 0x3a83_126f

abbrev pub two : Float
two = single 0x4000_0000

abbrev pub most : Float
most = single 0x4480_0000

-- the first side of a cell: two boxes to a cell, and no side of the grid over 1,024 cells
unfoldable pub fine_of : Float → Float → ℕ → Float
unfolding min_of max_of sqrt_of
fine_of w h count =
    let target = max_of (count_of count ⊘ two) 1f in
    let area = max_of w milli ⊗ max_of h milli in
    max_of (max_of (sqrt_of binary32 (area ⊘ target)) (max_of w h ⊘ most)) milli

-- how many cells a length takes, from 1 to 1,024
unfoldable pub side_of : Float → Float → ℕ
unfolding whole_of to_unsigned
side_of w cell = min (max (to_unsigned 64 (ceil_of binary32 (w ⊘ cell))) 1) 1024

-- the side of a cell, worked out anew from the counts
unfoldable pub cell_of : Float → Float → ℕ → ℕ → Float
unfolding max_of
cell_of w h cols rows = max_of (max_of (w ⊘ count_of cols) (h ⊘ count_of rows)) milli

unfoldable pub frame_of : Aabb → ℕ → Frame
unfolding fine_of side_of cell_of
frame_of e count =
    let w = e.max_x ⊖ e.min_x in
    let h = e.max_y ⊖ e.min_y in
    let cols = side_of w (fine_of w h count) in
    let rows = side_of h (fine_of w h count) in
    record { min_x = e.min_x; min_y = e.min_y; max_x = e.max_x; max_y = e.max_y; cell = cell_of w h cols rows; cols = cols; rows = rows }
