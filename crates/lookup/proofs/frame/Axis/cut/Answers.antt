-- `lookup::frame::Axis::cut` meets its contract: each case is a law of `proofs/Digits.antt`. Assumes nothing.
use Rattle.std.proofs.Common.{◌≡◌, ℕ, ◌-◌, ◌<◌, ◌≤◌, min, sym, arith}
use lib.Ieee.{binary32, of_bits, to_bits}
use Rattle.rounding.proofs.Laws.Order.{T_of, le_num_right, not_nan_num}
use Rattle.lookup.proofs.Digits.{Whole, whole, past_most, under_one}
use Rattle.lookup.proofs.frame.Axis.cut.Goals as goal
use Rattle.lookup.proofs.frame.Axis.cut.Goals.{Then-q-2}

-- q counts in whole cells
within : (c : Then-q-2) → Whole c.args.q (to_bits binary32 c.args.q)
unfolding of_bits
within c = whole c.args.q (T_of c.well_formed.1.0.1) c.if-q.true c.if-q-2.true

lesser : (i n k : ℕ) → i ≡ n → i < k → i ≡ min n (k - 1)
lesser i n k e h = omega arith

last : (n k : ℕ) → 0 < k → k ≤ n → k - 1 ≡ min n (k - 1)
last n k p h = omega arith

first : (n k : ℕ) → n ≡ 0 → 0 ≡ min n (k - 1)
first n k h = omega arith

pub float_to_bits-bits : goal.float_to_bits-bits
unfolding of_bits
float_to_bits-bits c = not_nan_num c.args.q (le_num_right _ c.args.q (T_of c.if-q.true))

pub overflow_sub-i : goal.overflow_sub-i
overflow_sub-i c = (within (goal.at.overflow_sub-i c).Then-q-2).most

pub overflow_shr-i : goal.overflow_shr-i
overflow_shr-i c = omega (arith, (within (goal.at.overflow_shr-i c).Then-q-2).least)

pub returns-then-i-self : goal.returns-then-i-self
returns-then-i-self c = lesser _ _ _ (sym (within (goal.at.returns-then-i-self c).Then-q-2).is) c.if-i-self.true

pub returns-then-q-2 : goal.returns-then-q-2
returns-then-q-2 c =
    let w = within (goal.at.returns-then-q-2 c).Then-q-2 in
    last _ _ c.args.self.some (omega (arith, w.is, c.if-i-self.false))

pub returns-then-q : goal.returns-then-q
unfolding of_bits
returns-then-q c =
    last _ _ c.args.self.some (omega (arith, c.args.self.few, past_most c.args.q c.if-q.true c.if-q-2.false))

pub returns : goal.returns
unfolding of_bits
returns c = first _ _ (under_one c.args.q c.if-q.false)
