-- The comparisons of a float type are those of the numbers that its values are: what the outcome b of a test says of the numbers. Assumes nothing.
use Rattle.std.specs.Prelude.{◌≡◌, Bool, true, false, not, cond, Option, Some, None, Float}
use Rattle.std.proofs.Common.{refl, sym, ap, ◌∙◌}
use Rattle.std.specs.declared.cmp.Ordering.{Ordering}
use Rattle.std.specs.declared.cmp.Ordering.TheVariants.{Less, Equal, Greater}
use Rattle.std.specs.Ordering.{is_lt, is_some_and, partial_lt}
use Rattle.std.specs.Float.Ieee.{lt, eq, ne}
use Rattle.rounding.specs.Binary.{ComparedAs}

below : (a e b : Bool) → is_some_and is_lt (cond a (Some Less) (cond e (Some Equal) (cond b (Some Greater) None))) ≡ a
below true e b = refl
below false true b = refl
below false false true = refl
below false false false = refl

module _ {A : Type 0} {float : A → Float} {same : A → A → Bool} {cmp : A → A → Option Ordering} (o : ComparedAs float same cmp) (x y : A) {b c : Bool} where
  pub lt_test : b ≡ partial_lt cmp x y → b ≡ c → lt (float x) (float y) ≡ c
  lt_test e h = sym (ap (is_some_and is_lt) (o.order x y) ∙ below (lt (float x) (float y)) (eq (float x) (float y)) (lt (float y) (float x))) ∙ sym e ∙ h

  pub ne_test : b ≡ not (same x y) → b ≡ c → ne (float x) (float y) ≡ c
  unfolding ne
  ne_test e h = sym (ap not (o.equal x y)) ∙ sym e ∙ h
