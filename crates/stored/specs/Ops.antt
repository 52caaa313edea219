-- Where Rust panics in an operation: `clamp` does where its bounds are out of order. Assumes nothing.
use Rattle.std.specs.Prelude.{Bool, true, false}
use Rattle.stored.specs.declared.rounding_ops.RoundingOp.{RoundingOp}
use Rattle.stored.specs.declared.rounding_ops.RoundingOp.TheVariants.{Clamp32, Clamp64}

abbrev pub may_panic : RoundingOp → Bool
may_panic Clamp32 = true
may_panic Clamp64 = true
may_panic _ = false
