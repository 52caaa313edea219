-- The measure of `surface::text::put_decimal` is the number itself.
use Rattle.surface.proofs.text.+put_decimal.Given as goal

abbrev pub decreases-put_decimal : goal.decreases-put_decimal
decreases-put_decimal l = l.n
