-- `rounding::width::widen` meets its contract: each case is a law of `proofs/Widening.antt`. Assumes nothing.
use Rattle.std.proofs.Common.{◌≡◌, ℕ, ◌+◌, ◌*◌, ◌/◌, ◌%◌, ◌^◌, ◌≤◌, Bool, cond, not, T, leb, sym, refl, ap, ◌∙◌, arith}
use lib.Ieee.Bits.{to_bits-lt}
use lib.Ieee.{Float, binary32, binary64, fits, to_bits, of_bits, ones, hid, top, nan_bits, div}
use Rattle.rounding.proofs.Laws.Order.{T_of, nan_of_differs}
use Rattle.rounding.proofs.Fields.{no_nan}
use Rattle.rounding.proofs.Sign.{within, is_inf}
use Rattle.rounding.proofs.Words.{masked, sign_wide, inf_signed}
use Rattle.rounding.proofs.Narrowing.{no_nan_most}
use Rattle.rounding.proofs.Widening.{same_number}
use Rattle.rounding.proofs.width.widen.Goals as goal

pub returns-then-x : goal.returns-then-x
unfolding div of_bits
returns-then-x c = sym (nan_of_differs c.args.x c.if-x.true)

pub float_to_bits-b : goal.float_to_bits-b
float_to_bits-b c = no_nan c.args.x c.if-x.false

-- the sign in its place
sign : Float → Bool
sign x = leb (top binary32) (to_bits binary32 x)

abbrev placed : Float → ℕ
placed x = to_bits binary32 x / 2 ^ 31 * 2 ^ 63 % 2 ^ 64

placed_is : (x : Float) → T (fits binary32 x) → placed x ≡ cond (sign x) (top binary64) 0
unfolding sign
placed_is x t = sign_wide x t

plain : (x : Float) → T (fits binary32 x) → (r : ℕ) → r ≤ ones binary64 * hid binary64 → T (not (nan_bits binary64 (placed x + r)))
plain x t r h = no_nan_most binary64 (sign x) (placed x) r (placed_is x t) h (omega arith)

pub overflow_cast-sign : goal.overflow_cast-sign
overflow_cast-sign c = omega (arith, to_bits-lt binary32 c.args.x (T_of c.well_formed.0.1))

pub float_from_bits-result : goal.float_from_bits-result
float_from_bits-result c = plain c.args.x (T_of c.well_formed.0.1) 0x7ff0_0000_0000_0000 (omega arith)

pub returns-then-size-eq2139095040 : goal.returns-then-size-eq2139095040
unfolding sign
returns-then-size-eq2139095040 c =
    ap (λ (y : ℕ). of_bits binary64 (y + 0x7ff0_0000_0000_0000)) (placed_is c.args.x (T_of c.well_formed.0.1))
    ∙ inf_signed binary64 (sign c.args.x)
    ∙ sym (is_inf binary32 c.args.x (sign c.args.x) (T_of c.well_formed.0.1) (sym (masked binary32 c.args.x) ∙ c.if-size-eq2139095040.true) refl)

pub widen_bits-requires : goal.widen_bits-requires
widen_bits-requires c = rw (masked binary32 c.args.x) (within binary32 c.args.x (T_of c.well_formed.0.1) c.if-x.false c.if-size-eq2139095040.false)

pub float_from_bits-result-2 : goal.float_from_bits-result-2
float_from_bits-result-2 c = plain c.args.x (T_of c.well_formed.0.1) c.widen_bits.result (omega (arith, c.widen_bits.ensures.finite))

pub returns : goal.returns
unfolding sign
returns c =
    let r = c.widen_bits.result in
    ap (λ (y : ℕ). of_bits binary64 (y + r)) (placed_is c.args.x (T_of c.well_formed.0.1))
    ∙ same_number c.args.x (sign c.args.x) r (T_of c.well_formed.0.1) (within binary32 c.args.x (T_of c.well_formed.0.1) c.if-x.false c.if-size-eq2139095040.false) refl (rw (masked binary32 c.args.x) at c.widen_bits.ensures)
