-- `rounding::width::widen_bits` meets its contract: each way out is a law of `proofs/Widening.antt`. Assumes nothing.
use Rattle.std.proofs.Common.{◌≡◌, ℕ, ◌+◌, ◌-◌, ◌*◌, ◌/◌, ◌%◌, ◌^◌, ◌<◌, ◌≢◌, sym, subst, ap₂, mod-eq_of_lt, arith}
use lib.Count.{count_leading_zeros}
use Rattle.rounding.specs.Steps.{Widens}
use Rattle.rounding.proofs.Widening.{Moved, normal, moved, small}
use Rattle.rounding.proofs.width.widen_bits.Goals as goal

abbrev places : ℕ → ℕ
places b = count_leading_zeros 64 b - 11

below : (c : goal.Else-b-eq0) → c.args.b < 2 ^ 23
below c = omega (arith, c.if-b-ne0.false)

up : (c : goal.Else-b-eq0) → Moved c.args.b (places c.args.b)
up c = let n = c.if-b-eq0.false in let z : 0 < c.args.b = omega arith in moved c.args.b z (below c)

pub returns-then-b-ne0 : goal.returns-then-b-ne0
returns-then-b-ne0 c =
    let b = c.args.b in
    let l : b * 2 ^ 29 < 2 ^ 64 = omega (arith, c.requires) in
    subst (λ (y : ℕ). Widens b (y + 896 * 2 ^ 52)) (sym (mod-eq_of_lt l)) (normal b (let n : b / 2 ^ 23 ≢ 0 = c.if-b-ne0.true in omega arith) c.requires)

pub overflow_sub-z : goal.overflow_sub-z
overflow_sub-z c = let m = up c in omega arith

-- the shifts lose nothing
sum : (b z : ℕ) → Moved b z → (925 - z) * 2 ^ 52 % 2 ^ 64 + b * 2 ^ z % 2 ^ 64 ≡ (925 - z) * 2 ^ 52 + b * 2 ^ z
sum b z m =
    let r = m.room in
    let h : (925 - z) * 2 ^ 52 < 2 ^ 64 = omega arith in
    let l : b * 2 ^ z < 2 ^ 64 = omega arith in
    ap₂ (λ (x y : ℕ). x + y) (mod-eq_of_lt h) (mod-eq_of_lt l)

pub overflow_add-result-2 : goal.overflow_add-result-2
overflow_add-result-2 c =
    let b = c.args.b in
    let m = up c in
    let r = m.room in
    let e = sum b (places b) m in
    omega arith

pub returns : goal.returns
returns c =
    let b = c.args.b in
    subst (λ (y : ℕ). Widens b y) (sym (sum b (places b) (up c))) (small b (places b) (below c) (up c))
