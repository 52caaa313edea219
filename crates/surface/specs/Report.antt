-- Document 01, "Surface file and `probe`": the text that a file's bytes give. Definitions only. Assumes nothing.
use Rattle.std.specs.Prelude.{ℕ, Bool, true, false, List, [], ◌++◌}
use Rattle.shape.specs.Gather.{gather}
use Rattle.shape.specs.Lists.{Mesh, mesh_lists}
use Rattle.shape.specs.Refusal.{Answer, taken, refused, judge}
use Rattle.lookup.specs.Index.{index_words, build_of}
use Rattle.lookup.specs.Sampler.{Sample, hit, miss, top_of}
use Rattle.surface.specs.File.{words_of, file_fault, copy_of}
use Rattle.surface.specs.Held.{how_many, count_kind, vertices_in, normals_in, indices_in, lane_in, question_at}
use Rattle.surface.specs.Text.{found_line, none_line, asked_line, refused_line}

-- ---- the answers to the questions of held words

-- the mesh. A file has no spans: a triangle's own words tell its lane
unfoldable pub mesh_in : List ℕ → Mesh
unfolding vertices_in normals_in indices_in
mesh_in ws = mesh_lists (vertices_in ws) (normals_in ws) (indices_in ws) []

-- its index
unfoldable pub index_in : List ℕ → List ℕ
unfolding index_words vertices_in indices_in
index_in ws = index_words (vertices_in ws) (indices_in ws)

-- what a lookup gave. It is never turned back where the index was built (`Laws.Report.never_refused`)
unfoldable pub given : Answer Sample → Sample
given (taken s) = s
given (refused number place) = miss

-- the answer to question k, by the indexed lookup
unfoldable pub sample_at : List ℕ → ℕ → Sample
unfolding given top_of mesh_in index_in question_at
sample_at ws k = given (top_of (mesh_in ws) (index_in ws) (question_at ws k).x (question_at ws k).y)

unfoldable pub answered : Sample → Bool
answered (hit height normal triangle detail) = true
answered miss = false

-- ---- the text

-- the line of question k, with the lane of the triangle that was found
unfoldable pub line_of : List ℕ → ℕ → Sample → List ℕ
unfolding found_line none_line lane_in
line_of ws k (hit height normal triangle detail) = found_line k height normal triangle (lane_in ws triangle)
line_of ws k miss = none_line k

unfoldable pub line_at : List ℕ → ℕ → List ℕ
unfolding line_of sample_at
line_at ws k = line_of ws k (sample_at ws k)

unfoldable pub answered_at : List ℕ → ℕ → Bool
unfolding answered sample_at
answered_at ws k = answered (sample_at ws k)

-- a line for each question, and then how many there are and how many of them are answered
unfoldable pub lines_of : List ℕ → List ℕ
unfolding gather line_at count_kind asked_line how_many answered_at
lines_of ws =
    let n = count_kind ws 3 in
    gather (line_at ws) n ++ asked_line n (how_many (answered_at ws) n)

-- "a refusal prints only `refused 5 at 3`"
unfoldable pub or_refused : {A : Type 0} → Answer A → List ℕ → List ℕ
unfolding refused_line
or_refused (taken a) text = text
or_refused (refused number place) text = refused_line number place

-- the text of a file's bytes, where the file is sound and its index is within the 16,384 words that `probe` lends
unfoldable pub report_of : List ℕ → List ℕ
unfolding or_refused judge file_fault build_of mesh_in lines_of words_of
report_of bs =
    let ws = words_of bs in
    or_refused (judge (file_fault bs) (build_of (mesh_in ws) 16384)) (lines_of ws)

-- what `report` answers, where there is room for so many bytes: how many the text has
unfoldable pub report_answer : List ℕ → ℕ → Answer ℕ
unfolding copy_of report_of
report_answer bs room = copy_of (report_of bs) room
