-- `lookup::batch::put_points` meets its contract. The invariant: the records of the points before this one stand at the front. Assumes nothing.
use Rattle.std.proofs.Common.{◌≡◌, ℕ, ◌+◌, ◌/◌, ◌<◌, length, ap, ◌∙◌, refl, arith, length-append}
use Rattle.std.specs.Slice.Iter.{chunks_exact_rest}
use Rattle.std.specs.Iterator.Adapters.{enumerate_source, enumerate_count}
use Rattle.shape.specs.Gather.{gather}
use Rattle.shape.specs.Lists.{lists_of}
use Rattle.shape.proofs.Laws.Memory.{put_none, put_over, sets_front}
use Rattle.lookup.specs.Sampler.{read_sampled}
use Rattle.lookup.specs.Batch.{records_of}
use Rattle.lookup.proofs.Batches.{all_width, point_turn}
use Rattle.lookup.proofs.Laws.Batch.{record_width, top_words}
use Rattle.lookup.proofs.batch.put_points.Goals as goal

pub loop-k-init : goal.loop-k-init
unfolding gather
loop-k-init c =
    rw (
      c.into_iter-k-iterator.ensures.into_iter_gives,
      c.enumerate-k-items.ensures.source,
      c.enumerate-k-items.ensures.count,
      c.chunks_exact.ensures.rest,
    )
    (c.chunks_exact.ensures.size, omega arith, refl, put_none _ _)

pub record-requires : goal.record-requires
record-requires c =
    rw c.sample-answer.ensures (top_words (lists_of c.args.sampler.mesh) _ _ _ c.words_fit.ensures c.args.sampler.in_order)

pub loop-k-preserved : goal.loop-k-preserved
loop-k-preserved c =
    let l = c.loop-k.invariant in
    let s = c.in-Some.ensures.steps in
    let w = record_width (read_sampled c.sample-answer.result) in
    let n : length (chunks_exact_rest (enumerate_source c.loop-k.k-iterator)) ≡ 2 + length (chunks_exact_rest (enumerate_source c.next.new.self)) =
    ap length s.0.1.0 ∙ length-append _ _ ∙ ap (λ (n : ℕ). n + length (chunks_exact_rest (enumerate_source c.next.new.self))) (s.0.1.1 ∙ l.0) in
    let t = point_turn (lists_of c.args.sampler.mesh) _ _ _ _ _ l.1 l.2 l.3 s.0.1.0 (s.0.1.1 ∙ l.0) c.sample-answer.ensures s.1
    (put_over _ _ _ (c.copy_from_slice.ensures.after ∙ c.record.ensures) (omega (arith, w)) (omega (arith, w)) (omega (arith, w, n, l.1, c.loop-k.auto.answers, c.requires))) in
    rw s.2 (s.0.0 ∙ l.0, t.0, t.1, t.2)

pub returns : goal.returns
unfolding records_of
returns c =
    let ps = c.args.points.now in
    let s = c.args.sampler in
    let m = lists_of s.mesh in
    let l = c.loop-k.invariant in
    let w = all_width m s.index.words.now ps in
    let few : length (chunks_exact_rest (enumerate_source c.loop-k.k-iterator)) < 2 = omega (arith, c.in-None.ensures.steps.0.1.0, l.0) in
    let e : enumerate_count c.loop-k.k-iterator ≡ length ps / 2 = omega (arith, few, l.1) in
    (rw e at l.3).memory ∙ sets_front (records_of m s.index.words.now ps) c.args.answers.now (omega (arith, w))
