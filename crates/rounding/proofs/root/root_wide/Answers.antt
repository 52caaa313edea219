-- `rounding::root::root_wide` meets its contract: the laws are those of `proofs/Halves.antt`. Assumes nothing.
use Rattle.std.proofs.Common.{arith}
use Rattle.rounding.proofs.Halves.{upper, lower, skips}
use Rattle.rounding.proofs.root.root_wide.Goals as goal

pub overflow_mul-q : goal.overflow_mul-q
overflow_mul-q c = let u = upper _ _ c.requires.h_least c.requires.h_bound c.root-s.ensures in let d = lower _ _ u in omega arith

pub returns-then-rest-q : goal.returns-then-rest-q
returns-then-rest-q c = skips _ _ _ _ (upper _ _ c.requires.h_least c.requires.h_bound c.root-s.ensures) (lower _ _ (upper _ _ c.requires.h_least c.requires.h_bound c.root-s.ensures)) c.if-rest-q.true
