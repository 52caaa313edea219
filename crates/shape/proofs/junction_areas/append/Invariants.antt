-- `shape::junction_areas::append` meets its contract: after i turns the ring is the one extended by i points. Assumes nothing.
use Rattle.std.proofs.Common.{◌≡◌, ◌+◌, ◌<◌, ◌≤◌, false, List}
use Rattle.std.specs.Prelude.{is_none}
use lib.Ieee.{Float}
use Rattle.vector.specs.declared.coords.Point.{Point}
use Rattle.shape.specs.Outline.{extended}
use Rattle.shape.specs.OutlineSteps.{Holds}
use Rattle.shape.proofs.junction_areas.append.Given as goal

-- what i points of the segment make of whatever ring there was
abbrev pub invariant-loop-i : goal.invariant-loop-i
invariant-loop-i l = record {
  holds : (blank : List Float) (ring : List Point) → Holds blank l.initial.line ring l.initial.h → Holds blank l.line (extended ring l.back l.s l.i) l.h;
  few : l.h.count ≤ l.initial.h.count + l.i;
  some : 0 < l.i → is_none l.h.last ≡ false;
}
