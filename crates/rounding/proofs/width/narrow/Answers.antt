-- `rounding::width::narrow` meets its contract: each case is a law of `proofs/Narrowing.antt`. Assumes nothing.
use Rattle.std.proofs.Common.{◌≡◌, ℕ, ◌+◌, ◌-◌, ◌*◌, ◌/◌, ◌%◌, ◌^◌, ◌≤◌, Bool, false, cond, not, T, leb, sym, refl, ap, ◌∙◌, arith}
use lib.Bits.{bit_and, and_mask}
use lib.Ieee.{Float, binary32, binary64, fits, to_bits, of_bits, ones, hid, top, nan_bits, div}
use Rattle.rounding.proofs.Laws.Order.{T_of}
use Rattle.rounding.proofs.Fields.{no_nan}
use Rattle.rounding.proofs.Words.{sign_thin, sign_le, inf_signed}
use Rattle.rounding.proofs.Sign.{sized, within}
use Rattle.rounding.proofs.Narrowing.{nan_thin, inf_thin, signed_thin, no_nan_most}
use Rattle.rounding.proofs.width.narrow.Goals as goal

masked : (x : Float) → bit_and (to_bits binary64 x) (2 ^ 63 - 1) ≡ sized binary64 x
masked x = and_mask (to_bits binary64 x) 63

pub returns-then-x : goal.returns-then-x
unfolding div of_bits
returns-then-x c = nan_thin c.args.x c.if-x.true

pub float_to_bits-b : goal.float_to_bits-b
float_to_bits-b c = no_nan c.args.x c.if-x.false

-- the sign, and with it the bits up to the infinity's, which are no NaN's
sign : Float → Bool
sign x = leb (top binary64) (to_bits binary64 x)

abbrev placed : Float → ℕ
placed x = to_bits binary64 x / 2 ^ 63 * 2 ^ 31 % 2 ^ 64

placed_is : (x : Float) → T (fits binary64 x) → placed x ≡ cond (sign x) (top binary32) 0
unfolding sign
placed_is x t = sign_thin x t

placed_le : (x : Float) → T (fits binary64 x) → placed x ≤ 2 ^ 31
placed_le x t = rw (placed_is x t) (sign_le binary32 (sign x))

plain : (x : Float) → T (fits binary64 x) → (r : ℕ) → r ≤ ones binary32 * hid binary32 → T (not (nan_bits binary32 (placed x + r)))
plain x t r h = no_nan_most binary32 (sign x) (placed x) r (placed_is x t) h (omega arith)

pub overflow_cast-result : goal.overflow_cast-result
overflow_cast-result c = omega (arith, placed_le c.args.x (T_of c.well_formed.0.1))

pub float_from_bits-result : goal.float_from_bits-result
float_from_bits-result c = plain c.args.x (T_of c.well_formed.0.1) 0x7f80_0000 (omega arith)

pub returns-then-size-eq9218868437227405312 : goal.returns-then-size-eq9218868437227405312
unfolding sign
returns-then-size-eq9218868437227405312 c =
    ap (λ (y : ℕ). of_bits binary32 (y + 0x7f80_0000)) (placed_is c.args.x (T_of c.well_formed.0.1)) ∙ inf_signed binary32 (sign c.args.x) ∙ inf_thin c.args.x (sign c.args.x) (T_of c.well_formed.0.1) (sym (masked c.args.x) ∙ c.if-size-eq9218868437227405312.true) refl

pub narrow_bits-requires : goal.narrow_bits-requires
narrow_bits-requires c = rw (masked c.args.x) (within binary64 c.args.x (T_of c.well_formed.0.1) c.if-x.false c.if-size-eq9218868437227405312.false)

pub overflow_add-result-2 : goal.overflow_add-result-2
overflow_add-result-2 c = omega (arith, placed_le c.args.x (T_of c.well_formed.0.1), (c.narrow_bits.ensures false).most)

pub overflow_cast-result-2 : goal.overflow_cast-result-2
overflow_cast-result-2 c = omega (arith, placed_le c.args.x (T_of c.well_formed.0.1), (c.narrow_bits.ensures false).most)

pub float_from_bits-result-2 : goal.float_from_bits-result-2
float_from_bits-result-2 c = plain c.args.x (T_of c.well_formed.0.1) c.narrow_bits.result (c.narrow_bits.ensures false).most

pub returns : goal.returns
unfolding sign
returns c =
    let r = c.narrow_bits.result in
    ap (λ (y : ℕ). of_bits binary32 (y + r)) (placed_is c.args.x (T_of c.well_formed.0.1))
    ∙ signed_thin c.args.x (sign c.args.x) r (T_of c.well_formed.0.1) (within binary64 c.args.x (T_of c.well_formed.0.1) c.if-x.false c.if-size-eq9218868437227405312.false) refl (rw (masked c.args.x) at (c.narrow_bits.ensures (sign c.args.x)))
