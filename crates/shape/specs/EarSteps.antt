-- What the steps of ear clipping promise each other. Definitions only. Assumes nothing.
use Rattle.std.specs.Prelude.{◌≡◌, ℕ, ◌-◌, ◌<◌, cond, List, [], length, take, nat_lt, slice_index, Float}
use Rattle.shape.specs.Memory.{Put}
use Rattle.shape.specs.Ears.{first_ear, ear_at, without}

-- every number of the list is below n
abbrev pub Within : ℕ → List ℕ → Type 0
Within n xs = (i : ℕ) → i < length xs → slice_index xs i < n

-- the first ear of the first n numbers is put, and its corner taken out; nothing is done where there is none
pub record Cut (ring : List Float) (n : ℕ) (left left' ears ears' : List ℕ) (at next : ℕ) : Type 0 where
  pub ear : Put ears ears' at (cond (nat_lt (first_ear ring (take n left)) n) (ear_at (take n left) (first_ear ring (take n left))) []) next
  pub rest : first_ear ring (take n left) < n → take (n - 1) left' ≡ without (take n left) (first_ear ring (take n left))
