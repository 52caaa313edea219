-- Document 01, "Height under a wheel" and row 4 of "When a call is turned back": where the candidates of a point stand in an index, of any words.
-- Definitions only. Assumes nothing.
use Rattle.std.specs.Prelude.{ℕ, zero, suc, ◌+◌, ◌-◌, ◌*◌, Bool, cond, not, ◌&&◌, ◌||◌, List, [], length, ◌==◌, from_bits, nat_le, nat_lt, slice_index, slice_range, Float}
use Rattle.std.specs.Float.{binary32}
use Rattle.std.specs.Float.Ieee.{le}
use Rattle.lookup.specs.Column.{col}
use Rattle.shape.specs.Refusal.{Fault, fine, refuse, or_else, Answer, taken, judge}

-- word i, and the single that it stands for
abbrev pub word_at : List ℕ → ℕ → ℕ
word_at ws i = slice_index ws i

unfoldable pub float_at : List ℕ → ℕ → Float
float_at ws i = from_bits binary32 (word_at ws i)

-- ---- the head

-- words 1 and 2 are both 0 or both 1..1,024
unfoldable pub sides : ℕ → ℕ → Bool
sides cols rows = (cols == 0 && rows == 0) || ((nat_le 1 cols && nat_le cols 1024) && (nat_le 1 rows && nat_le rows 1024))

-- the words that words 1, 2 and 8 declare: nine if words 1 and 2 are 0
unfoldable pub declares : List ℕ → ℕ
declares ws = cond (word_at ws 1 == 0) 9 (10 + word_at ws 1 * word_at ws 2 + word_at ws 8)

-- why the words are foreign to a mesh of `count` triangles, before any cell is consulted
unfoldable pub head_fault : List ℕ → ℕ → Fault
unfolding refuse
head_fault ws count =
    refuse (nat_lt (length ws) 9) 4 (length ws)
    (refuse (not (word_at ws 0 == count)) 4 0
    (refuse (not (sides (word_at ws 1) (word_at ws 2))) 4 (cond (nat_lt 1024 (word_at ws 1)) 1 2)
    (refuse (nat_lt (length ws) (declares ws)) 4 (length ws) fine)))

-- ---- the cell consulted

-- the point lies between words 3 to 6, or on one: nothing else is consulted, and no NaN
unfoldable pub inside : List ℕ → Float → Float → Bool
inside ws x y = (le (float_at ws 3) x && le x (float_at ws 5)) && (le (float_at ws 4) y && le y (float_at ws 6))

-- its cell, row by row from the lowest
unfoldable pub cell_at : List ℕ → Float → Float → ℕ
cell_at ws x y =
    col binary32 (float_at ws 4) (float_at ws 7) (word_at ws 2) y * word_at ws 1
    + col binary32 (float_at ws 3) (float_at ws 7) (word_at ws 1) x

-- the start of cell c, which is the end of the one before, in entries; and the place of the first entry
abbrev pub start_at : List ℕ → ℕ → ℕ
start_at ws c = word_at ws (9 + c)

abbrev pub first_at : List ℕ → ℕ
first_at ws = 10 + word_at ws 1 * word_at ws 2

-- the first of the n entries from a place on that is no triangle
unfoldable pub entry_fault : List ℕ → ℕ → ℕ → ℕ → Fault
unfolding or_else refuse
entry_fault ws count from zero = fine
entry_fault ws count from (suc n) = or_else (entry_fault ws count from n) (refuse (nat_le count (word_at ws (from + n))) 4 (from + n) fine)

-- starts that fall or are past word 8: the first if it is past, else the second
unfoldable pub start_fault : List ℕ → ℕ → Fault
unfolding refuse
start_fault ws c =
    refuse (nat_lt (word_at ws 8) (start_at ws c)) 4 (9 + c)
    (refuse (nat_lt (start_at ws (suc c)) (start_at ws c)) 4 (10 + c)
    (refuse (nat_lt (word_at ws 8) (start_at ws (suc c))) 4 (10 + c) fine))

-- ---- the answer

-- no cell holds the point, or its candidates stand from one place of the index up to another
pub data Candidates : Type 0 where
  nowhere : Candidates
  run : ℕ → ℕ → Candidates

-- the candidates at a place
unfoldable pub run_in : List ℕ → Candidates → List ℕ
run_in ws nowhere = []
run_in ws (run a e) = slice_range ws a e

unfoldable pub run_of : List ℕ → ℕ → ℕ → Answer Candidates
unfolding judge or_else
run_of ws count c =
    let a = start_at ws c in
    let e = start_at ws (suc c) in
    judge (or_else (start_fault ws c) (entry_fault ws count (first_at ws + a) (e - a))) (taken (run (first_at ws + a) (first_at ws + e)))

unfoldable pub consult_of : List ℕ → ℕ → Float → Float → Answer Candidates
unfolding judge
consult_of ws count x y =
    judge (head_fault ws count)
    (cond (not (word_at ws 1 == 0) && inside ws x y) (run_of ws count (cell_at ws x y)) (taken nowhere))
