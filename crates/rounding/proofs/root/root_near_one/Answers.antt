-- `rounding::root::root_near_one` meets its contract: its test of the bits is the definition's order. Assumes nothing.
use Rattle.std.proofs.Common.{◌≡◌, Bool, cond, Some, None, ap, ◌∙◌, arith}
use lib.Ieee.{Float, binary32}
use lib.Ieee.Bits.{of_bits-to_bits, to_bits-lt}
use Rattle.rounding.specs.Root.{sqrt_of, near_one}
use Rattle.rounding.proofs.Laws.Order.{T_of}
use Rattle.rounding.proofs.Fields.{no_nan}
use Rattle.rounding.proofs.Nearby.{near_yes, near_no, near_nan}
use Rattle.rounding.proofs.root.root_near_one.Goals as goal

-- the answer, by the definition's
answer : (x : Float) (b : Bool) → b ≡ near_one x → cond b (Some (sqrt_of binary32 x)) None ≡ cond (near_one x) (Some (sqrt_of binary32 x)) None
answer x b e = ap (λ (c : Bool). cond c (Some (sqrt_of binary32 x)) None) e

pub returns-then-x : goal.returns-then-x
returns-then-x c = answer c.args.x _ (near_nan c.args.x c.if-x.true)

pub float_to_bits-b : goal.float_to_bits-b
float_to_bits-b c = no_nan c.args.x c.if-x.false

pub overflow_cast-b : goal.overflow_cast-b
overflow_cast-b c = omega (arith, to_bits-lt binary32 c.args.x (T_of c.well_formed.0.1))

pub overflow_add-b : goal.overflow_add-b
overflow_add-b c = omega (arith, to_bits-lt binary32 c.args.x (T_of c.well_formed.0.1))

pub returns-then-b-eq130048 : goal.returns-then-b-eq130048
returns-then-b-eq130048 c =
    let x = c.args.x in
    let h = T_of c.well_formed.0.1 in
    ap Some (c.near_one.ensures ∙ ap (sqrt_of binary32) (of_bits-to_bits binary32 x h)) ∙ answer x _ (near_yes x h (no_nan x c.if-x.false) c.if-b-eq130048.true)

pub returns : goal.returns
returns c =
    let x = c.args.x in
    answer x _ (near_no x (T_of c.well_formed.0.1) (no_nan x c.if-x.false) c.if-b-eq130048.false)
