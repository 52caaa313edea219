-- The smaller and the larger of two floats, a float between two bounds, its size, and whether it is finite: what each branch of the code gives. Assumes nothing.
use Rattle.std.proofs.Common.{◌≡◌, ℕ, zero, suc, ◌+◌, ◌-◌, ◌/◌, ◌%◌, ◌<◌, Bool, true, false, cond, T, eqb, leb, sym, refl, ap, ◌∙◌, subst, ap₂, mod-lt, mod-eq_of_lt}
use lib.Arith.{lt→nleb}
use lib.Bits.{bit_and}
use lib.Ieee.{Float, nan, inf, fin, Format, prec, low, odd, hid, ones, top, of_fields, of_bits, to_bits, fits, is_nan, lt, le, ne}
use lib.Dec.{not_T}
use lib.Ieee.Bits.{is_true, is_false, of_bits-to_bits}
use lib.Ieee.Scale.{finite}
use Rattle.rounding.specs.Extremes.{first, ge, max_of, clamp_of, abs_of}
use Rattle.rounding.proofs.Laws.Order.{lt→not_le, le_of_not_lt, lt_num_left, lt_num_right, not_nan_num, le_num_left, le_num_right, T_of, not-T-of, num_of_same, nan_of_differs}
use Rattle.rounding.specs.Numbers.{IsNum}
use Rattle.rounding.proofs.Fields.{of_bits_is, low_part}
use Rattle.std.specs.Prelude.{Option, not}
use Rattle.std.specs.declared.cmp.Ordering.{Ordering}
use Rattle.std.specs.Ordering.{partial_lt}
use Rattle.rounding.specs.Binary.{ComparedAs}
use Rattle.rounding.proofs.Ordered.{lt_test, ne_test}
use Rattle.rounding.proofs.Words.{masked, top_pos}

-- ---- the one of two that comes first

both : (b : Bool) (y : Float) → y ≡ cond b y y
both true y = refl
both false y = refl

num_is : (x : Float) → IsNum x → is_nan x ≡ false
num_is x n = is_false (is_nan x) (not_nan_num x n)

beside_nan : (rel : Float → Float → Bool) (x : Float) → x ≡ first rel x nan
unfolding first
beside_nan rel nan = refl
beside_nan rel (inf s) = refl
beside_nan rel (fin s m e) = refl

module _ (rel : Float → Float → Bool) (x y : Float) where
  takes_left : IsNum x → IsNum y → rel x y ≡ true → x ≡ first rel x y
  unfolding first
  takes_left p q e = rw (num_is x p, num_is y q, e)

  pub second : IsNum y → rel x y ≡ false → y ≡ first rel x y
  unfolding first
  second n e = rw (num_is y n, e) (both (is_nan x) y)

pub max_left : (x y : Float) → le y x ≡ true → x ≡ max_of x y
unfolding max_of
max_left x y e = takes_left ge x y (le_num_right y x (T_of e)) (le_num_left y x (T_of e)) e

-- by the test of the other order, as the code has it

pub lt_not_le : (x y : Float) → lt x y ≡ true → le y x ≡ false
lt_not_le x y e = is_false (le y x) (not_T (le y x) (lt→not_le x y (T_of e)))

pub first_kept : (rel : Float → Float → Bool) (x y : Float) → ne x x ≡ false → (IsNum y → rel x y ≡ true) → x ≡ first rel x y
first_kept rel x nan h e = beside_nan rel x
first_kept rel x (inf s) h e = takes_left rel x (inf s) (num_of_same x h) tt (e tt)
first_kept rel x (fin s m d) h e = takes_left rel x (fin s m d) (num_of_same x h) tt (e tt)

after_nan : (rel : Float → Float → Bool) (x y : Float) → ne x x ≡ true → y ≡ first rel x y
unfolding first
after_nan rel x y e = subst (λ (z : Float). y ≡ first rel z y) (sym (nan_of_differs x e)) refl

module _ {A : Type 0} {float : A → Float} {same : A → A → Bool} {cmp : A → A → Option Ordering} (o : ComparedAs float same cmp) (x y : A) where
  pub after : {c : Bool} (rel : Float → Float → Bool) → c ≡ not (same x x) → c ≡ true → float y ≡ first rel (float x) (float y)
  after rel e h = after_nan rel (float x) (float y) (ne_test o x x e h)

  pub smaller : {b : Bool} → b ≡ partial_lt cmp y x → b ≡ true → float y ≡ first le (float x) (float y)
  smaller e h = let t = lt_test o y x e h in second le (float x) (float y) (lt_num_left (float y) (float x) (T_of t)) (lt_not_le (float y) (float x) t)

  pub larger : {b : Bool} → b ≡ partial_lt cmp x y → b ≡ true → float y ≡ first ge (float x) (float y)
  larger e h = let t = lt_test o x y e h in second ge (float x) (float y) (lt_num_right (float x) (float y) (T_of t)) (lt_not_le (float x) (float y) t)

  pub not_smaller : {b c : Bool} → b ≡ partial_lt cmp y x → b ≡ false → c ≡ not (same x x) → c ≡ false → float x ≡ first le (float x) (float y)
  not_smaller e h d k =
      let n = ne_test o x x d k in
      first_kept le (float x) (float y) n (λ q. is_true (le (float x) (float y)) (le_of_not_lt (float y) (float x) q (num_of_same (float x) n) (lt_test o y x e h)))

  pub not_larger : {b c : Bool} → b ≡ partial_lt cmp x y → b ≡ false → c ≡ not (same x x) → c ≡ false → float x ≡ first ge (float x) (float y)
  not_larger e h d k =
      let n = ne_test o x x d k in
      first_kept ge (float x) (float y) n (λ q. is_true (le (float y) (float x)) (le_of_not_lt (float x) (float y) (num_of_same (float x) n) q (lt_test o x y e h)))

-- ---- between two bounds

pub brought_down : (x lo hi y : Float) → y ≡ cond (lt x lo) lo x → lt hi y ≡ true → hi ≡ clamp_of x lo hi
unfolding clamp_of
brought_down x lo hi y i e = rw (← i, e)

pub stays : (x lo hi y : Float) → y ≡ cond (lt x lo) lo x → lt hi y ≡ false → y ≡ clamp_of x lo hi
unfolding clamp_of
stays x lo hi y i e = rw (← i, e)

pub raised : (x lo y : Float) → lt x lo ≡ true → y ≡ lo → y ≡ cond (lt x lo) lo x
raised x lo y e i = rw e i

pub unraised : (x lo y : Float) → lt x lo ≡ false → y ≡ x → y ≡ cond (lt x lo) lo x
unraised x lo y e i = rw e i

-- ---- finite

-- Under the upper infinity a number is finite where it is above the lower one.
pub under_infinity : (x : Float) → lt x (inf false) ≡ true → lt (inf true) x ≡ finite x
unfolding lt
under_infinity nan e = absurd (T_of e)
under_infinity (inf true) e = refl
under_infinity (inf false) e = absurd (T_of e)
under_infinity (fin s m e) h = refl

pub not_under_infinity : (x : Float) → lt x (inf false) ≡ false → false ≡ finite x
unfolding lt
not_under_infinity nan e = refl
not_under_infinity (inf s) e = refl
not_under_infinity (fin s m e) h = absurd (not-T-of h tt)

-- ---- the size

pub nan_size : (x : Float) → ne x x ≡ true → x ≡ abs_of x
unfolding abs_of
nan_size x e = subst (λ (y : Float). y ≡ abs_of y) (sym (nan_of_differs x e)) refl

odd_size : (d : ℕ) (s : Bool) (q k l : ℕ) → odd d false q k l ≡ abs_of (odd d s q k l)
unfolding odd abs_of
odd_size d s zero k l = refl
odd_size d s (suc q) k l = refl

fields_size : (f : Format) (s : Bool) (x t : ℕ) → of_fields f false x t ≡ abs_of (of_fields f s x t)
unfolding of_fields abs_of
fields_size f s zero t = odd_size (prec f) s t 0 (low f)
fields_size f s (suc x) t = go (eqb (suc x) (ones f)) (eqb t 0)
  where
    go : (a b : Bool) → cond a (cond b (inf false) nan) (odd (prec f) false (hid f + t) x (low f)) ≡ abs_of (cond a (cond b (inf s) nan) (odd (prec f) s (hid f + t) x (low f)))
    go true true = refl
    go true false = refl
    go false b = odd_size (prec f) s (hid f + t) x (low f)

-- the pattern without its sign
pub unsigned_word : (f : Format) (x : Float) → T (fits f x) → of_bits f (bit_and (to_bits f x) (top f - 1)) ≡ abs_of x
unsigned_word f x t =
    let b = to_bits f x in
    let l : b % top f < top f = mod-lt b (top_pos f) in
    let i : b % top f % top f ≡ b % top f = mod-eq_of_lt l in
    ap (of_bits f) (masked f x)
    ∙ of_bits_is f (b % top f)
    ∙ ap (λ (s : Bool). of_fields f s (b % top f % top f / hid f) (b % top f % hid f)) (is_false (leb (top f) (b % top f)) (lt→nleb (top f) (b % top f) l))
    ∙ ap₂ (λ (y z : ℕ). of_fields f false (y / hid f) z) i (low_part f b)
    ∙ fields_size f (leb (top f) b) (b % top f / hid f) (b % hid f)
    ∙ ap abs_of (sym (of_bits_is f b) ∙ of_bits-to_bits f x t)
