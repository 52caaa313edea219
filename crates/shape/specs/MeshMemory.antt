-- Document 01, "When a call is turned back" and "Limits", for the calls that make a mesh: a mesh as the result and as the lent memory, when the result has no
-- room, and what the answer leaves. Definitions only. Assumes nothing.
use Rattle.std.specs.Prelude.{◌*◌, length, nat_lt}
use Rattle.shape.specs.declared.memory.Lengths.{Lengths}
use Rattle.shape.specs.Refusal.{Fault, fine, refuse, or_else, Answer, leaves}
use Rattle.shape.specs.Lists.{max_vertices, max_indices, max_spans, span_words, Mesh}

-- how long the lists of a mesh are, in their elements
abbrev pub lengths_of : Mesh → Lengths
lengths_of m = record { vertices = length m.vertices; normals = length m.normals; indices = length m.indices; spans = length m.spans }

-- "oversize" of a result: 65,536 vertices, 65,536 normals, 196,608 indices, 1,024 spans
unfoldable pub result_limits : Lengths → Fault
result_limits made =
    refuse (nat_lt (3 * max_vertices) made.vertices) 1 max_vertices
    (refuse (nat_lt (3 * max_vertices) made.normals) 1 max_vertices
    (refuse (nat_lt max_indices made.indices) 1 max_indices
    (refuse (nat_lt (span_words * max_spans) made.spans) 1 max_spans fine)))

-- "short output", with the count wanted in the output's elements
unfoldable pub result_short : Lengths → Lengths → Fault
result_short made lent =
    refuse (nat_lt lent.vertices made.vertices) 3 made.vertices
    (refuse (nat_lt lent.normals made.normals) 3 made.normals
    (refuse (nat_lt lent.indices made.indices) 3 made.indices
    (refuse (nat_lt lent.spans made.spans) 3 made.spans fine)))

unfoldable pub room_fault : Lengths → Lengths → Fault
room_fault made lent = or_else (result_limits made) (result_short made lent)

-- why a mesh is not written into a lent one, if it is not
abbrev pub mesh_room : Mesh → Mesh → Fault
mesh_room result lent = room_fault (lengths_of result) (lengths_of lent)

-- what an answer leaves in the lent memory, list by list
unfoldable pub leaves_mesh : {A : Type 0} → Answer A → Mesh → Mesh → Mesh
leaves_mesh a result before =
    record {
      vertices = leaves a result.vertices before.vertices;
      normals = leaves a result.normals before.normals;
      indices = leaves a result.indices before.indices;
      spans = leaves a result.spans before.spans;
    }
