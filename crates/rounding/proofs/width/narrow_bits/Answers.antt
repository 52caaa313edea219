-- `rounding::width::narrow_bits` meets its contract: the law of each way out is `proofs/Pack.antt`'s. Assumes nothing.
use Rattle.std.proofs.Common.{◌≡◌, ℕ, ◌+◌, ◌-◌, ◌*◌, ◌/◌, ◌%◌, ◌^◌, ◌<◌, ◌≤◌, min, Bool, cond, sym, ap, ◌∙◌, ap₂, le_trans, div-lt_iff_lt-mul, arith, pow_pos, pow_mono, shl_exact}
use lib.Bits.{bit_and, and_mask}
use lib.Ieee.{binary32, binary64, low, hid, top, ones, to_bits, round}
use lib.Ieee.Nearest.{closest}
use Rattle.rounding.specs.Steps.{size_of}
use Rattle.rounding.proofs.Pack.{packs_high, packs_low, closest_le, closest_none}
use Rattle.rounding.proofs.width.narrow_bits.Goals as goal

abbrev shift : ℕ → ℕ
shift b = b / 2 ^ 52 - 1

abbrev digits : ℕ → ℕ
digits b = b - shift b * 2 ^ 52

short : (b : ℕ) → digits b < 2 ^ 53
short b = omega arith

lead : (b : ℕ) → 896 ≤ shift b → 2 ^ 52 ≤ digits b
lead b h = omega arith

kept_le : (q s : ℕ) → 29 ≤ s → q < 2 ^ 53 → closest q (2 ^ s) ≤ 2 ^ 24
kept_le q s h l =
    let a : 2 ^ 29 ≤ 2 ^ s = pow_mono h in
    le_trans (closest_le q (2 ^ s)) ((div-lt_iff_lt-mul (pow_pos s)).1 (omega arith))

high : (s : Bool) (b : ℕ) → 896 ≤ shift b →
    to_bits binary32 (round binary32 s (size_of 53 b) (2 ^ low binary64)) ≡ cond s (top binary32) 0 + min
    ((shift b - 896) * 2 ^ 23 + closest (digits b) (2 ^ 29)) (ones binary32 * hid binary32)
high s b h =
    let e : shift b + 29 - 925 ≡ shift b - 896 = omega arith in
    packs_high binary32 s (digits b) (shift b) 925 29 (short b) (lead b h) (omega arith)
    ∙ ap (λ (x : ℕ). cond s (top binary32) 0 + min (x * 2 ^ 23 + closest (digits b) (2 ^ 29)) (ones binary32 * hid binary32)) e

small : (s : Bool) (b : ℕ) → shift b < 896 → to_bits binary32 (round binary32 s (size_of 53 b) (2 ^ low binary64)) ≡ cond s (top binary32) 0 + closest (digits b) (2 ^ (925 - shift b))
small s b h =
    let m = kept_le (digits b) (925 - shift b) (omega arith) (short b) in
    packs_low binary32 s (digits b) (shift b) 925 29 (short b) (omega arith)
    ∙ ap (λ (x : ℕ). cond s (top binary32) 0 + x) (omega arith)

-- the digits as the code masks them, with the leading one
abbrev read : ℕ → ℕ
read b = 2 ^ 52 + bit_and b (2 ^ 52 - 1)

read_is : (b : ℕ) → 1 ≤ b / 2 ^ 52 → read b ≡ digits b
read_is b h = rw (and_mask b 52) (omega arith)

-- the exponent of the result, shifted to its place
placed : (b : ℕ) → b < 2047 * 2 ^ 52 → (b / 2 ^ 52 - 897) * 2 ^ 23 % 2 ^ 64 ≡ (shift b - 896) * 2 ^ 23
placed b h =
    let l : b / 2 ^ 52 - 897 < 2 ^ 11 = omega arith in
    let e : b / 2 ^ 52 - 897 ≡ shift b - 896 = omega arith in
    shl_exact 11 23 64 l (omega arith) ∙ ap (λ (x : ℕ). x * 2 ^ 23) e

-- the result before its overflow is looked at
total_is : (b r : ℕ) → b < 2047 * 2 ^ 52 → 897 ≤ b / 2 ^ 52 → r ≡ closest (read b) (2 ^ 29)
    → (b / 2 ^ 52 - 897) * 2 ^ 23 % 2 ^ 64 + r ≡ (shift b - 896) * 2 ^ 23 + closest (digits b) (2 ^ 29)
total_is b r l h e =
    let k : 1 ≤ b / 2 ^ 52 = omega arith in
    ap₂ (λ (x y : ℕ). x + y) (placed b l) (e ∙ ap (λ (x : ℕ). closest x (2 ^ 29)) (read_is b k))

pub returns-then-t-gt2139095040 : goal.returns-then-t-gt2139095040
returns-then-t-gt2139095040 c = λ s.
    let b = c.args.b in
    let r = total_is c.args.b c.nearest_even.result c.requires c.if-field-ge897.true c.nearest_even.ensures in
    let g : 896 ≤ shift b = omega (arith, c.if-field-ge897.true) in
    record { value = high s b g ∙ ap (λ (x : ℕ). cond s (top binary32) 0 + x) (omega (arith, c.if-t-gt2139095040.true)); most = omega arith }

pub returns-then-field-ge897 : goal.returns-then-field-ge897
returns-then-field-ge897 c = λ s.
    let b = c.args.b in
    let r = total_is c.args.b c.nearest_even.result c.requires c.if-field-ge897.true c.nearest_even.ensures in
    let g : 896 ≤ shift b = omega (arith, c.if-field-ge897.true) in
    record { value = high s b g ∙ ap (λ (x : ℕ). cond s (top binary32) 0 + x) (omega (arith, c.if-t-gt2139095040.false)); most = omega (arith, c.if-t-gt2139095040.false) }

pub returns-then-field-ge863 : goal.returns-then-field-ge863
returns-then-field-ge863 c = λ s.
    let b = c.args.b in
    let f = c.if-field-ge863.true in
    let g : shift b < 896 = omega (arith, c.if-field-ge897.false) in
    let h : 1 ≤ b / 2 ^ 52 = omega (arith, f) in
    let e : 926 - b / 2 ^ 52 ≡ 925 - shift b = omega arith in
    let r : c.nearest_even-then-field-ge863.result ≡ closest (digits b) (2 ^ (925 - shift b)) = c.nearest_even-then-field-ge863.ensures ∙ ap₂ (λ (x y : ℕ). closest x (2 ^ y)) (read_is b h) e in
    let m = kept_le (digits b) (925 - shift b) (omega arith) (short b) in
    record { value = small s b g ∙ ap (λ (x : ℕ). cond s (top binary32) 0 + x) (sym r); most = omega arith }

pub returns : goal.returns
returns c = λ s.
    let b = c.args.b in
    let g : shift b < 862 = omega (arith, c.if-field-ge863.false) in
    let k : 54 ≤ 925 - shift b = omega arith in
    let p : 2 ^ 54 ≤ 2 ^ (925 - shift b) = pow_mono k in
    let z = short b in
    record { value = small s b (omega arith) ∙ ap (λ (x : ℕ). cond s (top binary32) 0 + x) (closest_none (digits b) (2 ^ (925 - shift b)) (omega arith)); most = omega arith }
