-- The kinds of records by their numbers in document 01. Definitions only. Assumes nothing.
use Rattle.std.specs.Prelude.{ℕ, cond, eqb, Option, Some, None}
use Rattle.surface.specs.declared.file.Kind.{Kind}
use Rattle.surface.specs.declared.file.Kind.TheVariants.{Vertex, Triangle, Question}
use Rattle.surface.specs.File.{vertex_kind, triangle_kind, question_kind}

unfoldable pub number : Kind → ℕ
number Vertex = vertex_kind
number Triangle = triangle_kind
number Question = question_kind

-- the kind of a number, if there is one
unfoldable pub kind_from : ℕ → Option Kind
kind_from n = cond (eqb n vertex_kind) (Some Vertex) (cond (eqb n triangle_kind) (Some Triangle) (cond (eqb n question_kind) (Some Question) None))

-- the number of the record before, and 0 before the first
unfoldable pub number_before : Option Kind → ℕ
unfolding number
number_before None = 0
number_before (Some kind) = number kind
