-- What the trait of src/binary.rt says of a float type: its constants are its format's, and its values compare as the numbers that they are. Definitions only.
-- Assumes nothing.
use Rattle.std.specs.Prelude.{◌≡◌, ℕ, ◌*◌, Bool, Option, Float}
use Rattle.std.specs.Ordering.{float_partial_cmp}
use Rattle.std.specs.declared.cmp.Ordering.{Ordering}
use Rattle.std.specs.Float.{Format}
use Rattle.std.specs.Float.Ieee.{eq, prec, emax, hid, ones, top}

-- the numbers of the format f: its digits, its largest exponent, the bit of the sign, and the bits of the infinity
pub record LaidOut (f : Format) (digits largest sign infinity : ℕ) : Type 0 where
  pub digits_is : digits ≡ prec f
  pub largest_is : largest ≡ emax f
  pub sign_is : sign ≡ top f
  pub infinity_is : infinity ≡ ones f * hid f

pub record ComparedAs {A : Type 0} (float : A → Float) (same : A → A → Bool) (cmp : A → A → Option Ordering) : Type 0 where
  pub equal : (x y : A) → same x y ≡ eq (float x) (float y)
  pub order : (x y : A) → cmp x y ≡ float_partial_cmp (float x) (float y)
