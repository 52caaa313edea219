-- Document 01, "Height under a wheel": what the indexed lookup answers. "The indexed one adds the lane, if any". Definitions only. Assumes nothing.
use Rattle.std.specs.Prelude.{ℕ, ◌*◌, ◌/◌, ◌<◌, ◌≤◌, cond, ◌&&◌, ltb, List, length, nat_le, nat_lt, Float, Option, Some, None, Result, Ok, Err}
use Rattle.vector.specs.declared.coords.Vector.{Vector}
use Rattle.shape.specs.Gather.{least}
use Rattle.shape.specs.Lists.{Mesh, span_words, indices_word, longer, word_of, start_of, end_of, mesh_limits, mesh_ragged}
use Rattle.shape.specs.Refusal.{Fault, fine, refuse, or_else, Answer, taken, refused, judge, number_of, place_of}
use Rattle.lookup.specs.declared.sampler.Detail.{Detail}
use Rattle.lookup.specs.declared.sampler.Sampled.{Sampled}
use Rattle.shape.specs.declared.refusal.Refusal.{Refusal}
use Rattle.lookup.specs.Mesh.{triangles}
use Rattle.lookup.specs.Index.{max_words}
use Rattle.lookup.specs.Cover.{normal_of}
use Rattle.lookup.specs.Plain.{scan_of, entry_of, Lookup, gives, none}
use Rattle.lookup.specs.Consult.{Candidates, run_in, consult_of}

-- ---- the refusals of the input, where the index is list 4

-- "order: 1 for input, 2": all limits, the index's 4,194,304 words the last of them, and then what is ragged
unfoldable pub top_fault : Mesh → List ℕ → Fault
unfolding or_else mesh_limits mesh_ragged refuse longer
top_fault m ws = or_else (mesh_limits m) (or_else (refuse (longer 1 max_words ws) 1 max_words fine) (mesh_ragged 0 m))

-- ---- the lane of a triangle. A span's words are its lane's id, the run of its vertices and the run of its indices.

-- the first of the first n spans whose run of indices ends past i, or n
unfoldable pub past_of : List ℕ → ℕ → ℕ → ℕ
unfolding word_of least
past_of ss i n = least (λ k. ltb i (end_of span_words indices_word ss k)) n

-- that span's lane, if its run holds the triangle's first index
unfoldable pub lane_of : List ℕ → ℕ → Option ℕ
unfolding past_of
lane_of ss t =
    let n = length ss / span_words in
    let k = past_of ss (3 * t) n in
    cond (nat_lt k n && nat_le (start_of span_words indices_word ss k) (3 * t)) (Some (word_of span_words ss k 0)) None

-- of the first n spans, none ends before the one before it
abbrev pub EndsRise : List ℕ → ℕ → Type 0
EndsRise ss n = (j k : ℕ) → j ≤ k → k < n → end_of span_words indices_word ss j ≤ end_of span_words indices_word ss k

-- ---- the answer

-- document 01's three values and what else is told of the triangle, or none
pub data Sample : Type 0 where
  hit : Float → Vector → ℕ → Detail → Sample
  miss : Sample

-- what else is told of triangle t
abbrev pub detail_of : Mesh → ℕ → Detail
detail_of m t = record { lane = lane_of m.spans t }

-- what the plain lookup also gives
unfoldable pub lookup_in : Sample → Lookup
lookup_in (hit h n t d) = gives h n t
lookup_in miss = none

unfoldable pub sample_of : Mesh → Float → Float → Option (Float × ℕ) → Sample
sample_of m x y (Some (h, t)) = hit h (normal_of m.vertices m.normals m.indices t x y) t (detail_of m t)
sample_of m x y None = miss

-- the best of a run of triangle numbers
unfoldable pub sample_in : Mesh → Float → Float → List ℕ → Sample
unfolding sample_of scan_of
sample_in m x y run = sample_of m x y (scan_of m.vertices m.indices x y (entry_of run) (length run))

-- what is made of an answer that is taken
unfoldable pub onward : {A B : Type 0} → Answer A → (A → B) → Answer B
onward (taken a) f = taken (f a)
onward (refused number place) f = refused number place

-- the answer to the call, for any words: the candidates are those of the cell consulted, the mesh's triangles give the count that word 0 must be
unfoldable pub top_of : Mesh → List ℕ → Float → Float → Answer Sample
unfolding judge onward top_fault
top_of m ws x y = judge (top_fault m ws) (onward (consult_of ws (triangles m.indices) x y) (λ (p : Candidates). sample_in m x y (run_in ws p)))

-- document 01's values of each case of the code's
unfoldable pub read_sampled : Result (Option Sampled) Refusal → Answer Sample
unfolding number_of place_of
read_sampled (Ok (Some s)) = taken (hit s.height s.normal s.triangle s.detail)
read_sampled (Ok None) = taken miss
read_sampled (Err r) = refused (number_of r) (place_of r)
