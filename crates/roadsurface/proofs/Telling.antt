-- What is told of one answer is told of its equal. Assumes nothing.
use Rattle.std.specs.Prelude.{ℕ, ◌≡◌}
use Rattle.shape.specs.Refusal.{Answer}
use Rattle.roadsurface.specs.Answers.{code_of}

pub code_of_lem : {A : Type 0} {x y : Answer A} (count : A → ℕ) {code : ℕ} → x ≡ y → code ≡ code_of count x → code ≡ code_of count y
code_of_lem count e h = rw (← e) h
