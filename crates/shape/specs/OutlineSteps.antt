-- What the steps of joining promise one another (document 01, "Junction outline"). Definitions only. Assumes nothing.
use Rattle.std.specs.Prelude.{◌≡◌, ℕ, ◌+◌, ◌*◌, ◌/◌, ◌<◌, ◌≤◌, false, T, Option, None, Some, List, [], ◌∷◌, length, Float}
use Rattle.std.proofs.lemmas.List.Edits.{sets}
use Rattle.std.specs.Float.{binary32, binary64}
use Rattle.std.specs.Float.Ieee.{le, mul}
use Rattle.rounding.specs.Hypot.{squares_of}
use Rattle.rounding.specs.Root.{sqrt_of}
use Rattle.rounding.specs.Width.{narrow_of}
use Rattle.rounding.specs.Numbers.{IsNum}
use Rattle.rounding.specs.Numbers.{nought}
use Rattle.vector.specs.Single.{◌⊖◌, single}
use Rattle.vector.specs.declared.coords.Point.{Point}
use Rattle.shape.specs.declared.junction_areas.RingSoFar.{RingSoFar}
use Rattle.shape.specs.Gather.{any}
use Rattle.shape.specs.Lists.{max_segments, max_boundary_points, last_end, run_bad}
use Rattle.shape.specs.Outline.{last_of, flat, solid, solids, segment_at}

-- the sum of squares between two places, and the root that makes a distance of it
unfoldable pub squares_between : Point → Point → Float
unfolding squares_of
squares_between p q = squares_of (p.x ⊖ q.x) (p.y ⊖ q.y)

unfoldable pub rooted_of : Float → Float
unfolding narrow_of sqrt_of
rooted_of s = narrow_of binary32 (sqrt_of binary64 s)

-- a difference of at least 0.002 (0x3b03126f), by its square
abbrev pub wide : Float
wide = single 0x3b03_126f

unfoldable pub Wide : Float → Type 0
Wide x = T (le (mul binary64 wide wide) (mul binary64 x x))

-- a number that is not below 0, or a NaN
unfoldable pub Squares : Float → Type 0
Squares s = IsNum s → T (le nought s)

-- lists that are not turned back
pub record SoundLists (ws : List ℕ) (xs : List Float) : Type 0 where
  pub few : length ws ≤ 2 * max_segments
  pub small : length xs ≤ 3 * max_boundary_points
  pub runs : any (run_bad 2 0 ws (length xs / 3)) (length ws / 2) ≡ false

-- segment k is empty, and passed over
pub record Skips (ws : List ℕ) (k : ℕ) : Type 0 where
  pub next : length (solid ws (k + 1)) ≡ length (solid ws k)
  pub after : last_end 2 0 ws k ≤ last_end 2 0 ws (k + 1)

-- segment k is s, and not empty
pub record Adds (ws : List ℕ) (xs : List Float) (k : ℕ) (s : List Float) : Type 0 where
  pub next : length (solid ws (k + 1)) ≡ length (solid ws k) + 1
  pub here : s ≡ segment_at ws xs (length (solid ws k))
  pub below : length (solid ws k) < solids ws
  pub some : 3 ≤ length s
  pub after : 3 * last_end 2 0 ws k + length s ≤ 3 * last_end 2 0 ws (k + 1)

-- the points of a list of coordinates, as far as they are whole
unfoldable pub points_of : List Float → List Point
points_of [] = []
points_of (x ∷ []) = []
points_of (x ∷ y ∷ []) = []
points_of (x ∷ y ∷ z ∷ xs) = record { x = x; y = y; z = z } ∷ points_of xs

-- the last point of a ring, if it has any
unfoldable pub tip_of : List Point → Option Point
tip_of [] = None
tip_of (q ∷ ring) = Some (last_of (q ∷ ring))

-- the memory, blank before, has the ring's coordinates at its front, and h tells of the ring
pub record Holds (blank memory : List Float) (ring : List Point) (h : RingSoFar) : Type 0 where
  pub many : h.count ≡ length ring
  pub end : h.last ≡ tip_of ring
  pub front : memory ≡ sets blank 0 (flat ring)
