-- `shape::weld::weld` meets its contract: what `h` and `kept` hold is what `welded` says of the points before i. Assumes nothing.
use Rattle.std.proofs.Common.{◌≡◌, ℕ, ◌-◌, ◌<◌, List, length}
use lib.Ieee.{Float, binary32}
use lib.Seq.{sets}
use Rattle.rounding.specs.Root.{sqrt_of}
use Rattle.shape.specs.declared.weld.Welding.{Welding}
use Rattle.shape.specs.Strip.{Weld, welded}
use Rattle.shape.proofs.weld.weld.Given as goal

-- `h` and the memory hold what `w` says
pub record Holds (k₀ k : List ℕ) (h : Welding) (w : Weld) : Type 0 where
  pub count : h.count ≡ length w.front
  pub last : h.last ≡ w.last
  pub step : sqrt_of binary32 h.square ≡ w.step
  pub memory : k ≡ sets k₀ 0 w.front

pub record Inv (ps : List Float) (k₀ k : List ℕ) (h : Welding) (i : ℕ) : Type 0 where
  pub holds : Holds k₀ k h (welded ps (i - 1))
  pub few : h.count < i
  pub old : h.last < i

abbrev pub invariant-loop-i : goal.invariant-loop-i
invariant-loop-i l = Inv l.lane.points.now l.initial.kept l.kept l.h l.i
