-- Document 01, "Height under a wheel": a triangle's grown box. It runs from the least to the greatest x and y of its corners, each bound moved out by 1e-4
-- times (width in x + height in y), rounded in the Rust's order. Definitions only. Assumes nothing.
use Rattle.std.specs.Prelude.{ℕ, Bool, false, ◌&&◌, List, Float, Option, Some, None}
use Rattle.std.specs.Float.Ieee.{le}
use Rattle.rounding.specs.Extremes.{min_of, max_of}
use Rattle.vector.specs.Single.{◌⊕◌, ◌⊖◌, ◌⊗◌, single}
use Rattle.vector.specs.declared.coords.Point.{Point}
use Rattle.lookup.specs.Mesh.{corners_of}
use Rattle.lookup.specs.declared.boxes.Aabb.{Aabb}
use Rattle.lookup.specs.declared.mesh.Triangle.{Triangle}

-- from the least to the greatest x and y of three corners
unfoldable pub around_of : Point → Point → Point → Aabb
unfolding min_of max_of
around_of a b c =
    record {
      min_x = min_of (min_of a.x b.x) c.x;
      max_x = max_of (max_of a.x b.x) c.x;
      min_y = min_of (min_of a.y b.y) c.y;
      max_y = max_of (max_of a.y b.y) c.y;
    }

-- 1e-4 (0x38d1b717) times (width + height)
unfoldable pub slack_of : Aabb → Float
slack_of b = single 0x38d1_b717 ⊗ ((b.max_x ⊖ b.min_x) ⊕ (b.max_y ⊖ b.min_y))

-- each bound moved out by that
unfoldable pub grown_of : Aabb → Aabb
unfolding slack_of
grown_of b =
    record {
      min_x = b.min_x ⊖ slack_of b;
      max_x = b.max_x ⊕ slack_of b;
      min_y = b.min_y ⊖ slack_of b;
      max_y = b.max_y ⊕ slack_of b;
    }

unfoldable pub grown_box : Option Triangle → Option Aabb
unfolding around_of grown_of
grown_box (Some t) = Some (grown_of (around_of t.a t.b t.c))
grown_box None = None

-- the grown box of triangle t; none if a corner is past the vertices
unfoldable pub box_of : List Float → List ℕ → ℕ → Option Aabb
unfolding grown_box corners_of
box_of vs is t = grown_box (corners_of vs is t)

-- a point lies in a box when each coordinate is between its bounds or on one
unfoldable pub within : Aabb → Float → Float → Bool
within b x y = (le b.min_x x && le x b.max_x) && (le b.min_y y && le y b.max_y)

unfoldable pub in_boxed : Option Aabb → Float → Float → Bool
unfolding within
in_boxed (Some b) x y = within b x y
in_boxed None x y = false

unfoldable pub in_box : List Float → List ℕ → ℕ → Float → Float → Bool
unfolding box_of in_boxed
in_box vs is t x y = in_boxed (box_of vs is t) x y

-- the box around two
unfoldable pub merge_of : Aabb → Aabb → Aabb
unfolding min_of max_of
merge_of a b =
    record {
      min_x = min_of a.min_x b.min_x;
      max_x = max_of a.max_x b.max_x;
      min_y = min_of a.min_y b.min_y;
      max_y = max_of a.max_y b.max_y;
    }
