-- Small facts on tests, the formats, powers of two and quotients that the laws and the proofs share, and the toolchain's library keeps to itself. Assumes nothing.
use Rattle.std.specs.Prelude.{◌≡◌, ℕ, suc, ◌+◌, ◌*◌, ◌/◌, ◌^◌, ◌<◌, ◌≤◌, Bool, true, false, ◌||◌, T, ◌⊎◌, nat_le, refl}
use Rattle.std.proofs.Common.{ap, ◌∙◌, inl, inr, lt_of_lt_of_le, lt_of_not-le, lt_irrefl, le_of_suc-le-suc, arith, leb→le, le→leb, lit≤}
use Rattle.std.proofs.Math.Arith.{digits_div}
use Rattle.std.proofs.Math.Pow.{pow-lt}
use Rattle.std.specs.Float.{Format, binary32, binary64}
use Rattle.std.specs.Float.Ieee.{emax, ones}

-- ---- tests

pub or_l : (a b : Bool) → T a → T (a || b)
or_l true b t = tt
or_l false b t = absurd t

pub or_r : (a b : Bool) → T b → T (a || b)
or_r true b t = tt
or_r false b t = t

pub or_split : (a b : Bool) → T (a || b) → T a ⊎ T b
or_split true b t = inl tt
or_split false b t = inr t

pub same_test : (a b : Bool) → (T a → T b) → (T b → T a) → a ≡ b
same_test true true p q = refl
same_test true false p q = absurd (p tt)
same_test false true p q = absurd (q tt)
same_test false false p q = refl

pub leb_same : (a b c d : ℕ) → (a ≤ b → c ≤ d) → (c ≤ d → a ≤ b) → nat_le a b ≡ nat_le c d
leb_same a b c d p q = same_test (nat_le a b) (nat_le c d) (λ t. le→leb c d (p (leb→le a b t))) (λ t. le→leb a b (q (leb→le c d t)))

-- ---- the formats

pub emax_ge : (f : Format) → 3 ≤ emax f
emax_ge binary32 = lit≤ tt
emax_ge binary64 = lit≤ tt

pub ones_ge : (f : Format) → 3 ≤ ones f
ones_ge f = let e = emax_ge f in omega arith

-- ---- numbers

pub pow_le_back : (a l : ℕ) → 2 ^ a ≤ 2 ^ l → a ≤ l
pow_le_back a l h = le_of_suc-le-suc (lt_of_not-le (λ (g : suc l ≤ a). lt_irrefl (2 ^ l) (lt_of_lt_of_le (pow-lt g) h)))

pub div_at : (x d k r : ℕ) → x ≡ k * d + r → r < d → x / d ≡ k
div_at x d k r e h = ap (λ (y : ℕ). y / d) e ∙ digits_div k h
