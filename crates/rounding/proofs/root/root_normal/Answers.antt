-- `rounding::root::root_normal` meets its contract: the trial that passes the test is the root, by `proofs/RootTrial.antt`, and the rest is `root_bits`. Assumes nothing.
use Rattle.std.proofs.Common.{◌≡◌, ℕ, ◌+◌, ◌-◌, ◌*◌, ◌/◌, ◌%◌, ◌^◌, ◌<◌, ap, ◌∙◌, arith, shl_exact}
use lib.Bits.{bit_and, and_mask}
use lib.Ieee.{binary32}
use Rattle.rounding.proofs.RootTrial.{Passes, digits, field, halved, right}
use Rattle.rounding.proofs.root.root_normal.Goals as goal

-- the code's digits: the fraction and the field's last bit are masked, and the shift loses nothing
moved : (b y : ℕ) → y < 2 → ((0x80_0000 + b % 0x80_0000) * 2 ^ (24 - y)) % 2 ^ 64 ≡ (0x80_0000 + b % 0x80_0000) * 2 ^ (24 - y)
moved b y h = let l : 0x80_0000 + b % 0x80_0000 < 2 ^ 24 = omega arith in shl_exact 24 (24 - y) 64 l (omega arith)

abbrev shifted : ℕ → ℕ
shifted b = ((0x80_0000 + bit_and b 0x7f_ffff) * 2 ^ (24 - bit_and (b / 2 ^ 23) 1)) % 2 ^ 64

shifted_is : (b : ℕ) → shifted b ≡ digits binary32 b
shifted_is b = rw (and_mask b 23, and_mask (b / 2 ^ 23) 1) (moved b (b / 2 ^ 23 % 2) (omega arith))

-- the field of the root's exponent, shifted to its place
placed : (b : ℕ) → b < 255 * 2 ^ 23 → (b / 2 ^ 23 + 125) / 2 * 2 ^ 23 % 2 ^ 64 ≡ halved binary32 (field binary32 b) * 2 ^ 23
placed b h =
    let l : (b / 2 ^ 23 + 125) / 2 < 2 ^ 9 = omega arith in
    let e : (b / 2 ^ 23 + 125) / 2 ≡ halved binary32 (field binary32 b) = omega arith in
    shl_exact 9 23 64 l (omega arith) ∙ ap (λ (x : ℕ). x * 2 ^ 23) e

pub returns-then-v-square : goal.returns-then-v-square
returns-then-v-square c =
    let b = c.args.b in
    let r = c.trial-r.result in
    let p : Passes (digits binary32 b) r = record { under = rw (shifted_is b) at c.if-square-v.true; over = rw (shifted_is b) at c.if-v-square.true } in
    rw (placed b c.requires.b_finite) (right binary32 b r c.requires.b_normal c.requires.b_finite p)
