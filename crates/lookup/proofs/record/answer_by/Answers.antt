-- `lookup::record::answer_by` meets its contract: what is taken stands at the front. Assumes nothing.
use Rattle.std.proofs.Common.{◌≡◌, ℕ, ◌≤◌, List, ◌++◌, length, drop, arith, ◌∙◌, Option, Some, None, Result, Ok}
use Rattle.std.proofs.lemmas.Grind.{common_steps}
use Rattle.shape.specs.Refusal.{found, refuse, leaves}
use Rattle.shape.specs.declared.refusal.Refusal.{Refusal}
use Rattle.lookup.specs.declared.sampler.Sampled.{Sampled}
use Rattle.lookup.specs.Sampler.{read_sampled}
use Rattle.lookup.specs.Batch.{record_words, record_of}
use Rattle.lookup.specs.Record.{record_answer}
use Rattle.lookup.proofs.Batches.{front_put}
use Rattle.lookup.proofs.record.answer_by.Goals as goal

wrote : (f : Option Sampled) {s : Result (Option Sampled) Refusal} → s ≡ Ok f → (old : List ℕ) {now : List ℕ} → record_words ≤ length old → now ≡ record_of (read_sampled s)
    → now ++ drop record_words old ≡ leaves (record_answer (read_sampled s) (length old)) (record_of (read_sampled s)) old
unfolding record_answer read_sampled
wrote (Some f) e old h p = rw e (front_put 1 _ _ h (rw e at p))
wrote None e old h p = rw e (front_put 0 _ _ h (rw e at p))

pub returns-clause-words_after : goal.returns-clause-words_after
unfolding found refuse
returns-clause-words_after c =
    let h : 8 ≤ length c.args.words.now = grind (arith, common_steps) in
    wrote c.in_ok-found.found c.in_ok-found.was _ h (c.copy_from_slice.ensures.after ∙ c.record.ensures)
