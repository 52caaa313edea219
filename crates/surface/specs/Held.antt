-- Document 01, "Surface file and `probe`", and of a triangle's lane document 02, "Lane 0 is a lane": the mesh and the questions that held words stand
-- for. "Floats by their bits." Definitions only. Assumes nothing.
use Rattle.std.specs.Prelude.{Bool, cond, List, [], ◌∷◌, ℕ, zero, suc, ◌+◌, ◌/◌, eqb, Float, length, Option}
use Rattle.std.specs.Float.{binary32}
use Rattle.std.specs.Float.Ieee.{of_bits}
use Rattle.shape.specs.Gather.{gather}
use Rattle.shape.specs.Lists.{word_of}
use Rattle.surface.specs.declared.held.Sizes.{Sizes}
use Rattle.surface.specs.declared.held.Question.{Question}
use Rattle.surface.specs.File.{vertex_kind, triangle_kind, question_kind, held_record}
use Rattle.surface.specs.Lane.{lane_of_held}

-- ---- the words of a record as it is held, of which word 0 is the kind; of three or two in a row the first

-- of a vertex
abbrev pub place_word : ℕ
place_word = 1

abbrev pub normal_word : ℕ
normal_word = 4

-- of a triangle
abbrev pub corners_word : ℕ
corners_word = 1

-- of a question: x and y
abbrev pub point_word : ℕ
point_word = 1

-- ---- the records of a kind

-- how many numbers below n the test holds of
unfoldable pub how_many : (ℕ → Bool) → ℕ → ℕ
how_many f zero = 0
how_many f (suc n) = how_many f n + cond (f n) 1 0

-- word j of record k
abbrev pub word : List ℕ → ℕ → ℕ → ℕ
word ws k j = word_of 8 ws k j

unfoldable pub is_kind : List ℕ → ℕ → ℕ → Bool
unfolding word_of
is_kind ws kind k = eqb (word ws k 0) kind

-- how many records are of a kind
unfoldable pub count_kind : List ℕ → ℕ → ℕ
unfolding how_many is_kind
count_kind ws kind = how_many (is_kind ws kind) (length ws / 8)

-- how many vertices, triangles and questions there are
unfoldable pub sizes_of : List ℕ → Sizes
unfolding count_kind
sizes_of ws = record { vertices = count_kind ws vertex_kind; triangles = count_kind ws triangle_kind; questions = count_kind ws question_kind }

-- ---- "kinds never fall": the vertices are the first records, then come the triangles, then the questions

unfoldable pub triangle_record : List ℕ → ℕ → ℕ
unfolding count_kind
triangle_record ws t = count_kind ws vertex_kind + t

unfoldable pub question_record : List ℕ → ℕ → ℕ
unfolding count_kind
question_record ws k = count_kind ws vertex_kind + count_kind ws triangle_kind + k

-- the single in word j of record k
unfoldable pub single_in : List ℕ → ℕ → ℕ → Float
unfolding word_of
single_in ws k j = of_bits binary32 (word ws k j)

-- three singles from word j of record k on
unfoldable pub three_in : List ℕ → ℕ → ℕ → List Float
unfolding single_in
three_in ws j k = single_in ws k j ∷ single_in ws k (j + 1) ∷ single_in ws k (j + 2) ∷ []

-- the place and the normal of vertex k, and the corners of triangle t
unfoldable pub place_in : List ℕ → ℕ → List Float
unfolding three_in
place_in ws k = three_in ws place_word k

unfoldable pub normal_in : List ℕ → ℕ → List Float
unfolding three_in
normal_in ws k = three_in ws normal_word k

unfoldable pub corners_in : List ℕ → ℕ → List ℕ
unfolding triangle_record word_of
corners_in ws t =
    let k = triangle_record ws t in
    word ws k corners_word ∷ word ws k (corners_word + 1) ∷ word ws k (corners_word + 2) ∷ []

-- the lists of the mesh, in threes
unfoldable pub vertices_in : List ℕ → List Float
unfolding gather place_in count_kind
vertices_in ws = gather (place_in ws) (count_kind ws vertex_kind)

unfoldable pub normals_in : List ℕ → List Float
unfolding gather normal_in count_kind
normals_in ws = gather (normal_in ws) (count_kind ws vertex_kind)

unfoldable pub indices_in : List ℕ → List ℕ
unfolding gather corners_in count_kind
indices_in ws = gather (corners_in ws) (count_kind ws triangle_kind)

-- the lane of triangle t
unfoldable pub lane_in : List ℕ → ℕ → Option ℕ
unfolding triangle_record held_record lane_of_held
lane_in ws t = lane_of_held (held_record ws (triangle_record ws t))

-- question k
unfoldable pub question_at : List ℕ → ℕ → Question
unfolding question_record single_in
question_at ws k = record { x = single_in ws (question_record ws k) point_word; y = single_in ws (question_record ws k) (point_word + 1) }

-- where all questions ask, in pairs
unfoldable pub point_in : List ℕ → ℕ → List Float
unfolding question_at
point_in ws k = (question_at ws k).x ∷ (question_at ws k).y ∷ []

unfoldable pub points_of : List ℕ → List Float
unfolding gather point_in count_kind
points_of ws = gather (point_in ws) (count_kind ws question_kind)
