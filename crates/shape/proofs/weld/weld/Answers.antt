-- `shape::weld::weld` meets its contract: what `h` and `kept` hold is what `welded` says of the points 0 to i. Assumes nothing.
use Rattle.std.proofs.Common.{◌≡◌, ℕ, zero, suc, ◌+◌, ◌-◌, ◌/◌, ◌≤◌, cond, List, [], ◌∷◌, length, refl, zero-add, arith, length-append, length-take}
use lib.Ieee.{Float, binary32, lt}
use lib.Ieee as Ieee
use Rattle.rounding.specs.Root.{sqrt_of}
use Rattle.rounding.specs.Thresholds.{micro}
use Rattle.shape.specs.declared.weld.Welding.{Welding}
use Rattle.shape.specs.Memory.{Put}
use Rattle.shape.specs.Strip.{Weld, welded, weld_next, keeps, step_of, kept_of, end_kept}
use Rattle.shape.proofs.Laws.Memory.{sets_append, put_front}
use Rattle.shape.proofs.Strips.{cond_few, cond_le}
use Rattle.shape.proofs.weld.weld.Invariants.{Holds}
use Rattle.shape.proofs.weld.weld.Goals as goal

module _ (ps : List Float) (k₀ k k' : List ℕ) (h h' : Welding) (w : Weld) (i : ℕ) (hold : Holds k₀ k h w) where
  next : (h'.last ≡ cond (keeps ps h.last (sqrt_of binary32 h.square) i) i h.last)
      → (sqrt_of binary32 h'.square ≡ cond (keeps ps h.last (sqrt_of binary32 h.square) i) (step_of ps h.last i) (sqrt_of binary32 h.square))
      → Put k k' h.count (cond (keeps ps h.last (sqrt_of binary32 h.square) i) (h.last ∷ []) []) h'.count
      → Holds k₀ k' h' (weld_next ps w i)
  unfolding weld_next
  next l s p =
      record {
        count = rw (length-append, ← hold.last, ← hold.step, ← hold.count) p.ends;
        last = rw (← hold.last, ← hold.step) l;
        step = rw (← hold.last, ← hold.step) s;
        memory = rw (sets_append, ← hold.memory, zero-add, ← hold.last, ← hold.step, ← hold.count) p.memory;
      }

welded_next : (ps : List Float) (i : ℕ) → 1 ≤ i → welded ps (i + 1 - 1) ≡ weld_next ps (welded ps (i - 1)) i
unfolding welded
welded_next ps zero h = absurd (omega arith)
welded_next ps (suc i) h =
    let e : suc i + 1 - 1 ≡ suc i = omega arith in
    let d : suc i - 1 ≡ i = omega arith in
    rw (e, d)

module _ (ps : List Float) (k₀ k k' : List ℕ) (h : Welding) (i : ℕ) (hold : Holds k₀ k h (welded ps i)) where
  finish : (r : ℕ) → Put k k' h.count (end_kept h.count (lt (step_of ps 0 i) micro) i) r → Put k₀ k' 0 (kept_of ps (suc i)) r
  unfolding kept_of
  finish r p =
      record {
        memory = rw (sets_append, ← hold.memory, zero-add, ← hold.count) p.memory;
        ends = rw (zero-add, length-append, ← hold.count) p.ends;
      }

pub returns-then-n-eq0-clause-course : goal.returns-then-n-eq0-clause-course
unfolding kept_of
returns-then-n-eq0-clause-course c = (refl, rw c.if-n-eq0.true)

pub loop-i-init : goal.loop-i-init
unfolding welded sqrt_of Ieee.of_bits
loop-i-init c = record { holds = record { count = refl; last = refl; step = refl; memory = refl }; few = omega arith; old = omega arith }

pub loop-i-preserved : goal.loop-i-preserved
loop-i-preserved c =
    let ps = c.args.lane.points.now in
    let at = c.loop-i in
    let k = keeps ps at.h.last (sqrt_of binary32 at.h.square) at.i in
    let did = c.weld_step-h in
    record {
      holds = rw (welded_next ps at.i at.auto.i)
          (next ps c.args.kept.now at.kept did.new.kept at.h did.result (welded ps (at.i - 1)) at.i at.invariant.holds
          did.ensures.step_value.0 did.ensures.step_value.1 did.ensures.put);
      few = omega (arith, did.ensures.put.ends, cond_few k at.h.last, at.invariant.few);
      old = omega (arith, did.ensures.step_value.0, cond_le k at.i at.h.last at.i (omega arith) (omega (arith, at.invariant.old)));
    }

pub returns : goal.returns
returns c =
    let ps = c.args.lane.points.now in
    let at = c.loop-i in
    let did = c.weld_end-m in
    let here : length ps / 3 - 1 ≡ at.i - 1 = omega (arith, at.auto) in
    let all : length ps / 3 ≡ suc (at.i - 1) = omega (arith, at.auto) in
    let put = finish ps c.args.kept.now at.kept did.new.kept at.h (at.i - 1) at.invariant.holds did.result (rw here at did.ensures.put) in
    let few = did.ensures.upper_bound in
    record { course = (refl, rw all (put_front put (omega (arith, few, c.told-kept)))); few = simp length-take (omega (arith, few)) }
