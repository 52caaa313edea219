-- `rounding::whole::whole_bits` meets its contract: its four ways out are laws of `proofs/Cut.antt`. Assumes nothing.
use Rattle.std.proofs.Common.{◌≡◌, ℕ, ◌+◌, ◌-◌, ◌*◌, ◌/◌, ◌%◌, ◌^◌, ◌<◌, ◌≤◌, sym, refl, ap, ◌∙◌, subst, one-mul, arith, lit<, pow_mono, shl_exact, le-leb}
use borrow.Author.Tests.{lt-leb}
use lib.Bits.{bit_and, and_mask}
use lib.Ieee.{Format, prec, emax, hid}
use Rattle.rounding.specs.declared.whole.Way.{Way}
use Rattle.rounding.specs.Steps.{Wholes, limit_of, addend_of}
use Rattle.rounding.proofs.RootScaled.{Bounds, sized, lead}
use Rattle.rounding.proofs.Cut.{unchanged, cut, stays, rises, moves_at}
use Rattle.rounding.proofs.whole.whole_bits.Goals as goal

-- the number of digits below one
abbrev below : ℕ → ℕ → ℕ → ℕ
below p e b = e + p - 1 - b / 2 ^ (p - 1)

unit : (p e b : ℕ) → Bounds p e → e ≤ b / 2 ^ (p - 1) → (1 * 2 ^ below p e b) % 2 ^ 64 ≡ 2 ^ below p e b
unit p e b k h =
    let i = below p e b in
    shl_exact {a = 1} 1 i 64 (lit< tt) (omega (arith, k.short)) ∙ one-mul (2 ^ i)

unit_ge : (p e b : ℕ) → b / 2 ^ (p - 1) < e + p - 1 → 2 ≤ 2 ^ below p e b
unit_ge p e b h = let k : 1 ≤ below p e b = omega arith in pow_mono k

-- the bits from which on a number below one goes to one
bound : (way : Way) (p e : ℕ) (f : Format) (r : ℕ) → Bounds p e → prec f ≡ p → emax f ≡ e →
    r ≡ limit_of way ((e - 1) * ((1 * 2 ^ (p - 1)) % 2 ^ 64)) (e * ((1 * 2 ^ (p - 1)) % 2 ^ 64)) →
    r ≡ limit_of way ((emax f - 1) * hid f) (emax f * hid f)
bound way p e f r k u w h = h ∙ ap (λ (x : ℕ). limit_of way ((e - 1) * x) (e * x)) (lead p e k) ∙ rw (u, w) refl

-- the code's result, from the digits below one
masked : (b s i u : ℕ) → u ≡ 2 ^ i → b + s - bit_and (b + s) (u - 1) ≡ b + s - (b + s) % 2 ^ i
masked b s i u e = ap (λ (x : ℕ). b + s - bit_and (b + s) (x - 1)) e ∙ ap (λ (x : ℕ). b + s - x) (and_mask (b + s) i)

pub returns-then-field-e : goal.returns-then-field-e
returns-then-field-e g c = λ s.
    let k = sized g.met.T.Binary.laid_out c.DIGITS-p.ensures c.EMAX-e.ensures in
    unchanged g.T.Binary.format s c.args.way c.args.b c.requires (rw (k.digits, k.largest) c.if-field-e.true)

pub returns-then-b-limit : goal.returns-then-b-limit
returns-then-b-limit g c = λ s.
    let f = g.T.Binary.format in
    let b = c.args.b in
    let way = c.args.way in
    let k = sized g.met.T.Binary.laid_out c.DIGITS-p.ensures c.EMAX-e.ensures in
    let l : b / hid f < emax f = rw (k.digits, k.largest) c.if-field-e-2.true in
    let e = bound way _ _ f c.limit.result k.within k.digits k.largest c.limit.ensures in
    stays f s way b l (moves_at f way b l ∙ lt-leb _ b (subst (λ (x : ℕ). b < x) e c.if-b-limit.true))

pub returns-then-field-e-2 : goal.returns-then-field-e-2
returns-then-field-e-2 g c = λ s.
    let f = g.T.Binary.format in
    let b = c.args.b in
    let way = c.args.way in
    let k = sized g.met.T.Binary.laid_out c.DIGITS-p.ensures c.EMAX-e.ensures in
    let l : b / hid f < emax f = rw (k.digits, k.largest) c.if-field-e-2.true in
    let e = bound way _ _ f c.limit.result k.within k.digits k.largest c.limit.ensures in
    let r : c.EMAX-e.result * ((1 * 2 ^ (c.DIGITS-p.result - 1)) % 2 ^ 64) ≡ emax f * hid f = rw (lead _ _ k.within, k.digits, k.largest) refl in
    subst (λ (x : ℕ). Wholes f s way b x) (sym r)
    (rises f s way b l (moves_at f way b l ∙ le-leb _ b (subst (λ (x : ℕ). x ≤ b) e c.if-b-limit.false)))

pub step-requires : goal.step-requires
step-requires g c =
    let k = sized g.met.T.Binary.laid_out c.DIGITS-p.ensures c.EMAX-e.ensures in
    rw (unit _ _ c.args.b k.within c.if-field-e-2.false) (unit_ge c.DIGITS-p.result c.EMAX-e.result c.args.b c.if-field-e.false)

pub returns : goal.returns
returns g c = λ s.
    let f = g.T.Binary.format in
    let b = c.args.b in
    let y = c.args.way in
    let p = c.DIGITS-p.result in
    let e = c.EMAX-e.result in
    let k = sized g.met.T.Binary.laid_out c.DIGITS-p.ensures c.EMAX-e.ensures in
    let i = below p e b in
    let j = emax f + prec f - 1 - b / hid f in
    let ji : i ≡ j = rw (k.digits, k.largest) refl in
    let d = unit p e b k.within c.if-field-e-2.false in
    let z = c.step.ensures ∙ ap (λ (x : ℕ). addend_of y x) d in
    let t : emax f ≤ b / hid f = rw (k.digits, k.largest) c.if-field-e-2.false in
    let h : b / hid f < emax f + prec f - 1 = rw (k.digits, k.largest) c.if-field-e.false in
    let r : b + c.step.result - bit_and (b + c.step.result) ((1 * 2 ^ i) % 2 ^ 64 - 1) ≡ b + addend_of y (2 ^ j) - (b + addend_of y (2 ^ j)) % 2 ^ j =
    masked b c.step.result i ((1 * 2 ^ i) % 2 ^ 64) d ∙ ap (λ (x : ℕ). b + x - (b + x) % 2 ^ i) z
    ∙ ap (λ (x : ℕ). b + addend_of y (2 ^ x) - (b + addend_of y (2 ^ x)) % 2 ^ x) ji in
    subst (λ (x : ℕ). Wholes f s y b x) (sym r) (cut f s y b c.requires t h)
