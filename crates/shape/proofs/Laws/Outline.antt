-- The greatest gap of an outline is a number, so "at most 0.1" is the Rust's "not above 0.1"; and the faults of its lists as one chain. Assumes nothing.
use Rattle.std.specs.Prelude.{◌≡◌, ℕ, zero, suc, ◌/◌, Bool, true, false, not, T, List, length, refl, Float}
use Rattle.std.proofs.Common.{sym, subst}
use Rattle.std.specs.Float.Ieee.{lt, le, of_bits}
use Rattle.rounding.specs.Extremes.{max_of}
use Rattle.rounding.specs.Thresholds.{tenth}
use Rattle.rounding.proofs.Laws.Order.{le_num_right, lt→not_le, le_of_not_lt}
use Rattle.rounding.specs.Numbers.{IsNum}
use Rattle.rounding.proofs.Laws.Extremes.{max_picks}
use Rattle.vector.specs.declared.coords.Point.{Point}
use Rattle.shape.specs.Outline.{last_of, gap_at, joined, widest, outline_limits, outline_ragged, outline_fault}
use Rattle.shape.specs.Gather.{any}
use Rattle.shape.specs.Lists.{longer, uneven, run_bad}
use Rattle.shape.specs.Refusal.{fine, refuse, or_else}
use Rattle.shape.proofs.Laws.Refusal.{else_refuse}

max_number : (x y : Float) → IsNum x → IsNum (max_of x y)
max_number x y n = le_num_right x (max_of x y) ((max_picks x y).left n)

gap_at_number : (ws : List ℕ) (xs : List Float) (i : ℕ) (end : Point) (gap : Float) → IsNum gap → IsNum (gap_at ws xs i end gap)
unfolding gap_at
gap_at_number ws xs zero end gap n = n
gap_at_number ws xs (suc i) end gap n = max_number gap _ n

pub gap_number : (ws : List ℕ) (xs : List Float) (n : ℕ) → IsNum (joined ws xs n).gap
unfolding joined of_bits
gap_number ws xs zero = tt
gap_number ws xs (suc i) = gap_at_number ws xs i (last_of (joined ws xs i).ring) (joined ws xs i).gap (gap_number ws xs i)

pub widest_number : (ws : List ℕ) (xs : List Float) (n : ℕ) → IsNum (widest (joined ws xs n))
unfolding widest
widest_number ws xs n = max_number (joined ws xs n).gap _ (gap_number ws xs n)

at_most : (g c : Float) → IsNum g → IsNum c → (p q : Bool) → le g c ≡ p → lt c g ≡ q → p ≡ not q
at_most g c n m true true e h = absurd (lt→not_le c g (subst T (sym h) tt) (subst T (sym e) tt))
at_most g c n m true false e h = refl
at_most g c n m false true e h = refl
at_most g c n m false false e h = absurd (subst T e (le_of_not_lt c g m n h))

pub closed_unless_above : (ws : List ℕ) (xs : List Float) (n : ℕ) → le (widest (joined ws xs n)) tenth ≡ not (lt tenth (widest (joined ws xs n)))
unfolding of_bits
closed_unless_above ws xs n = at_most (widest (joined ws xs n)) tenth (widest_number ws xs n) tt _ _ refl refl

-- the faults of an outline's lists, each before the next
pub outline_fault_chain : (ws : List ℕ) (xs : List Float)
    → outline_fault ws xs
    ≡ refuse (longer 2 256 ws) 1 256
    (refuse (longer 3 4096 xs) 1 4096
    (refuse (uneven 2 ws) 2 0
    (refuse (any (run_bad 2 0 ws (length xs / 3)) (length ws / 2)) 2 0
    (refuse (uneven 3 xs) 2 1 fine))))
unfolding outline_fault outline_limits outline_ragged or_else
outline_fault_chain ws xs = rw (else_refuse, else_refuse)
