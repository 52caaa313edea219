-- A float to another format: to the nearest value, a tie to the even one, as Rust's `as f32` of an `f64`. Definitions only. Assumes nothing.
use Rattle.std.specs.Prelude.{◌*◌, Float}
use Rattle.std.specs.Float.{nan, inf, fin, Format}
use Rattle.std.specs.Float.Ieee.{up, down, round}

unfoldable pub narrow_of : Format → Float → Float
unfolding round
narrow_of f nan = nan
narrow_of f (inf s) = inf s
narrow_of f (fin s m e) = round f s (m * up e) (down e)
