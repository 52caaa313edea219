-- What the functions of `report` hand to each other. Definitions only. Assumes nothing.
use Rattle.std.specs.Prelude.{ℕ, ◌≤◌, ◌≡◌, Bool, true, false, List, [], ◌∷◌, ◌++◌, length, Option, Some, None, Result}
use Rattle.shape.specs.declared.refusal.Refusal.{Refusal}
use Rattle.shape.specs.Gather.{gather}
use Rattle.shape.specs.Refusal.{taken, told, leaves}
use Rattle.lookup.specs.Index.{build_of}
use Rattle.lookup.specs.Batch.{record_of}
use Rattle.surface.specs.declared.held.Sizes.{Sizes}
use Rattle.surface.specs.declared.report.LineTotals.{LineTotals}
use Rattle.surface.specs.declared.text.FoundLine.{FoundLine}
use Rattle.surface.specs.declared.text.PairLine.{PairLine}
use Rattle.surface.specs.File.{copy_of}
use Rattle.surface.specs.Held.{how_many, count_kind, sizes_of}
use Rattle.surface.specs.Text.{decimal, found_line, none_line}
use Rattle.surface.specs.Report.{mesh_in, sample_at, line_at, answered_at, lines_of, or_refused}

-- the record of question k's answer, and those of all
unfoldable pub record_in : List ℕ → ℕ → List ℕ
unfolding record_of sample_at
record_in ws k = record_of (taken (sample_at ws k))

unfoldable pub records_in : List ℕ → List ℕ
unfolding gather record_in count_kind
records_in ws = gather (record_in ws) (count_kind ws 3)

-- a file's words and the records of its questions
pub record Asked (ws : List ℕ) (sizes : Sizes) (rs : List ℕ) : Type 0 where
  pub few : length ws ≤ 16384
  pub sized : sizes ≡ sizes_of ws
  pub records : rs ≡ records_in ws

-- ---- lines

-- the bytes of an answer's line, and of a line of two words, each with a number
abbrev pub found_text : ℕ → FoundLine → List ℕ
found_text k f = found_line k f.height f.normal f.triangle f.lane

abbrev pub pair_text : PairLine → List ℕ
pair_text p = (p.first.now ++ decimal p.n) ++ (p.second.now ++ decimal p.m) ++ 10 ∷ []

-- the bytes of a line, and whether it tells an answer
unfoldable pub text_of : ℕ → Option FoundLine → List ℕ
unfolding found_line none_line
text_of k (Some f) = found_text k f
text_of k None = none_line k

unfoldable pub is_found : Option FoundLine → Bool
is_found (Some f) = true
is_found None = false

-- a line tells the answer to question k
pub record Tells (ws : List ℕ) (k : ℕ) (line : Option FoundLine) : Type 0 where
  pub text : text_of k line ≡ line_at ws k
  pub answer : is_found line ≡ answered_at ws k

-- the lines of all questions are counted
pub record Totalled (ws : List ℕ) (totals : LineTotals) : Type 0 where
  pub lengths : totals.size ≡ length (gather (line_at ws) (count_kind ws 3))
  pub answers : totals.found ≡ how_many (answered_at ws) (count_kind ws 3)

-- ---- the text

-- a step says how long the text is, and leaves it in the memory, where there is room
pub record Says (text before after : List ℕ) (answer : Result ℕ Refusal) : Type 0 where
  pub said : told answer ≡ copy_of text (length before)
  pub left : after ≡ leaves (copy_of text (length before)) text before

-- the text of a file's words that are sound
unfoldable pub surface_text : List ℕ → List ℕ
unfolding or_refused build_of mesh_in lines_of
surface_text ws = or_refused (build_of (mesh_in ws) 16384) (lines_of ws)
