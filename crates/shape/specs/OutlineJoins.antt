-- What joining the first segments makes (document 01, "Junction outline"). Definitions only. Assumes nothing.
use Rattle.std.specs.Prelude.{◌≡◌, ℕ, List, length, Float}
use Rattle.shape.specs.declared.junction_areas.Joined.{Joined}
use Rattle.shape.specs.Outline.{solid, joined}
use Rattle.shape.specs.OutlineSteps.{Holds}

-- the ring of the first k segments, the empty ones among them passed over
pub record Joins (ws : List ℕ) (xs blank memory : List Float) (k : ℕ) (j : Joined) : Type 0 where
  pub holds : Holds blank memory (joined ws xs (length (solid ws k))).ring j.ring
  pub solids : j.segments ≡ length (solid ws k)
  pub gap : j.gap.root ≡ (joined ws xs (length (solid ws k))).gap
