-- `rounding::root::root_bits` meets its contract: the fields of the pattern are those of `proofs/Fields.antt`. Assumes nothing.
use Rattle.std.proofs.Common.{◌≡◌, ℕ, refl, ◌+◌, ◌-◌, ◌*◌, ◌/◌, ◌%◌, ◌^◌, ap, div-add-mod', arith}
use lib.Bits.{bit_and}
use lib.Ieee.{low}
use Rattle.rounding.specs.Root.{root_of}
use Rattle.rounding.specs.Steps.{Rooted}
use Rattle.rounding.proofs.RootScaled.{Bounds, sized, lead}
use Rattle.rounding.proofs.Fields.{digits_is, sqrt_low, sqrt_mid}
use Rattle.rounding.proofs.root.root_bits.Goals as goal

-- the digits below the leading one, as the code has them
digits : (p e b : ℕ) → Bounds p e → bit_and b ((1 * 2 ^ (p - 1)) % 2 ^ 64 - 1) ≡ b % 2 ^ (p - 1)
digits p e b k = digits_is p b k.short k.two

pub root_of-requires-clause-m_some : goal.root_of-requires-clause-m_some
root_of-requires-clause-m_some g c =
    let k = sized g.met.T.Binary.laid_out c.DIGITS-p.ensures refl in
    let d = div-add-mod' c.args.b (2 ^ (c.DIGITS-p.result - 1)) in
    let z = ap (λ (x : ℕ). x * 2 ^ (c.DIGITS-p.result - 1)) c.if-field-eq0.true in
    rw (digits _ _ c.args.b k.within) (omega (arith, c.requires.b_some))

pub returns-then-field-eq0 : goal.returns-then-field-eq0
returns-then-field-eq0 g c =
    let f = g.T.Binary.format in
    let k = sized g.met.T.Binary.laid_out c.DIGITS-p.ensures refl in
    let h : Rooted f (root_of f (c.args.b % 2 ^ (c.DIGITS-p.result - 1) * 2 ^ 0) (2 ^ low f)) c.root_of.result = rw (digits _ _ c.args.b k.within) at c.root_of.ensures in
    rw (sqrt_low f c.args.b c.requires.b_some c.requires.b_finite (rw k.digits c.if-field-eq0.true), k.digits) (rw k.digits at h)

pub returns-else-field-eq0 : goal.returns-else-field-eq0
returns-else-field-eq0 g c =
    let f = g.T.Binary.format in
    let b = c.args.b in
    let p = c.DIGITS-p.result in
    let k = sized g.met.T.Binary.laid_out c.DIGITS-p.ensures refl in
    let h : Rooted f (root_of f ((2 ^ (p - 1) + b % 2 ^ (p - 1)) * 2 ^ (b / 2 ^ (p - 1) - 1)) (2 ^ low f)) c.root_of-else-field-eq0.result =
    rw (digits _ _ b k.within, lead _ _ k.within) at c.root_of-else-field-eq0.ensures in
    rw (sqrt_mid f b c.requires.b_finite (rw k.digits (let n = c.if-field-eq0.false in omega arith)), k.digits) (rw k.digits at h)
