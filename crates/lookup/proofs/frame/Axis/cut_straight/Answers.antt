-- `lookup::frame::Axis::cut_straight` meets its contract, by the laws of `proofs/Straight.antt`. Assumes nothing.
use Rattle.std.proofs.Common.{◌-◌, min, ◌∙◌, arith}
use lib.Ieee.{of_bits, to_unsigned}
use Rattle.lookup.proofs.Straight.{CutsTo, cut_by}
use Rattle.lookup.proofs.frame.Axis.cut_straight.Goals as goal
use Rattle.lookup.proofs.frame.Axis.cut_straight.Goals.{After-lower-c}

cuts_to : (c : After-lower-c) → let s = c in CutsTo c.lower-c.result (min (to_unsigned 64 s.args.q) (s.args.self.count - 1))
unfolding of_bits
cuts_to c =
    let s = c in
    cut_by s.args.q c.nearest_u32_to_f32-last.result c.upper.result c.lower-c.result s.args.self.count s.args.self.some
    s.args.self.few c.nearest_u32_to_f32-last.ensures c.upper.ensures c.lower-c.ensures

pub float_to_bits-near : goal.float_to_bits-near
unfolding of_bits
float_to_bits-near c = (cuts_to (goal.at.float_to_bits-near c).After-lower-c).plain

pub overflow_sub-near : goal.overflow_sub-near
unfolding of_bits
overflow_sub-near c = omega (arith, (cuts_to (goal.at.overflow_sub-near c).After-lower-c).bits)

pub overflow_sub-result : goal.overflow_sub-result
unfolding of_bits
overflow_sub-result c = let l = cuts_to (goal.at.overflow_sub-result c).After-lower-c in omega (arith, l.bits, c.below.ensures ∙ l.down)

pub overflow_cast-result : goal.overflow_cast-result
unfolding of_bits
overflow_cast-result c = let l = cuts_to (goal.at.overflow_cast-result c).After-lower-c in omega (arith, l.bits, c.below.ensures ∙ l.down)

pub returns : goal.returns
unfolding of_bits
returns c = let l = cuts_to (goal.at.returns c).After-lower-c in omega (arith, l.bits, l.least, c.below.ensures ∙ l.down)
