-- `lookup::batch::put_points` meets its contract. The invariant: the records of the points before this one stand at the front. Assumes nothing.
use Rattle.std.proofs.Common.{◌≡◌, ◌+◌, ◌*◌, length, drop}
use Rattle.std.specs.Slice.Iter.{chunks_exact_rest, chunks_exact_size}
use Rattle.std.specs.Iterator.Adapters.{enumerate_source, enumerate_count}
use Rattle.shape.specs.Gather.{gather}
use Rattle.shape.specs.Lists.{lists_of}
use Rattle.shape.specs.Memory.{Put}
use Rattle.lookup.specs.Batch.{record_words, record_at}
use Rattle.lookup.proofs.batch.put_points.Given as goal

abbrev pub invariant-loop-k : goal.invariant-loop-k
invariant-loop-k l =
    let items = enumerate_source l.k-iterator in
    let k = enumerate_count l.k-iterator in
    (chunks_exact_size items ≡ 2) × (2 * k + length (chunks_exact_rest items) ≡ length l.points) × (chunks_exact_rest items ≡ drop (2 * k) l.points)
    × Put l.initial.answers l.answers 0 (gather (record_at (lists_of l.sampler.mesh) l.sampler.index.words.now l.points) k) (record_words * k)
