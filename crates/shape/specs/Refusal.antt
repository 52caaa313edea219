-- Document 01, "When a call is turned back", and document 02: the numbers and places of the refusals, and what an answer leaves in lent memory.
-- Definitions only. Assumes nothing.
use Rattle.std.specs.Prelude.{ℕ, Bool, cond, List, ◌++◌, length, drop, Result, Ok, Err}
use Rattle.shape.specs.declared.refusal.Refusal.{Refusal}
use Rattle.shape.specs.declared.refusal.Refusal.TheVariants.{Oversize, Ragged, ShortOutput, ForeignIndex, BadRecord, NotAVerdict, OddNormals, LooseCorner}

-- the table's number and place of each case
unfoldable pub number_of : Refusal → ℕ
number_of (Oversize limit) = 1
number_of (Ragged list) = 2
number_of (ShortOutput wanted) = 3
number_of (ForeignIndex word) = 4
number_of (BadRecord record') = 5
number_of (NotAVerdict byte) = 6
number_of (OddNormals part) = 7
number_of (LooseCorner place) = 8

unfoldable pub place_of : Refusal → ℕ
place_of (Oversize limit) = limit
place_of (Ragged list) = list
place_of (ShortOutput wanted) = wanted
place_of (ForeignIndex word) = word
place_of (BadRecord record') = record'
place_of (NotAVerdict byte) = byte
place_of (OddNormals part) = part
place_of (LooseCorner place) = place

-- nothing is at fault, or the first fault by its number and place
pub data Fault : Type 0 where
  fine : Fault
  fault : ℕ → ℕ → Fault

-- what a check finds
unfoldable pub found : Result Unit Refusal → Fault
unfolding number_of place_of
found (Ok passed) = fine
found (Err r) = fault (number_of r) (place_of r)

-- a fault where the test holds, else what comes after
unfoldable pub refuse : Bool → ℕ → ℕ → Fault → Fault
refuse b number place after = cond b (fault number place) after

-- the first of two faults
unfoldable pub or_else : Fault → Fault → Fault
or_else fine after = after
or_else (fault number place) after = fault number place

-- the answer to a call: taken, with what it gives back, or refused with number and place only
pub data Answer (A : Type 0) : Type 0 where
  taken : A → Answer A
  refused : ℕ → ℕ → Answer A

-- what a call answers, with the table's number and place where it is refused
unfoldable pub told : {A : Type 0} → Result A Refusal → Answer A
unfolding number_of place_of
told (Ok a) = taken a
told (Err r) = refused (number_of r) (place_of r)

-- the answer that a check lets through
unfoldable pub judge : {A : Type 0} → Fault → Answer A → Answer A
judge fine after = after
judge (fault number place) after = refused number place

-- what an answer leaves in a lent slice that held `before`: the result and then what stood there, or all as it was
unfoldable pub leaves : {A B : Type 0} → Answer A → List B → List B → List B
leaves (taken a) result before = result ++ drop (length result) before
leaves (refused number place) result before = before
