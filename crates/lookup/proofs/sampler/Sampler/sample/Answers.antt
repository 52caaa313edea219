-- `lookup::sampler::Sampler::sample` meets its contract: what is located and what the scan finds pick the case of `top_of`. Assumes nothing.
use Rattle.std.proofs.Common.{◌≡◌, sym, ◌∙◌, rules, Err}
use Rattle.shape.specs.Refusal.{found}
use Rattle.shape.specs.Lists.{lists_of}
use Rattle.lookup.specs.Sampler.{read_sampled}
use Rattle.lookup.proofs.Answers.{refuses, gives, small}
use Rattle.lookup.proofs.Sixteens.{run_sound, refused_is, run_is}
use Rattle.lookup.proofs.sampler.Sampler.sample.Goals as goal

pub returns-in_err-run : goal.returns-in_err-run
unfolding read_sampled
returns-in_err-run c =
    let s = c.args.self in
    let h : c.from_residual.result ≡ Err c.in_err-run.field-0.0 = search rules in
    rw h (refuses (lists_of s.mesh) _ _ _ s.in_order (rw s.counted at (refused_is _ _ c.locate.ensures c.in_err-run.was)))

pub check_run-requires : goal.check_run-requires
check_run-requires c = λ w r. rw c.args.self.counted (run_sound _ _ _ _ _ _ c.part-entries.ensures r (c.highest-hit.ensures.hit_of.flag.all w))

pub returns-in_err-check_run : goal.returns-in_err-check_run
unfolding read_sampled found
returns-in_err-check_run c =
    let s = c.args.self in
    let k = run_is _ _ c.locate.ensures (rw c.in-Some.is at c.in_ok-run.was) in
    let h : c.from_residual-in_err-check_run.result ≡ Err c.in_err-check_run.field-0.0 = search rules in
    rw h (refuses (lists_of s.mesh) _ _ _ s.in_order (rw s.counted at (k.foreign _ _ (sym c.in_err-check_run.ensures))))

pub answer-requires-clause-small : goal.answer-requires-clause-small
answer-requires-clause-small c =
    let s = c.args.self in
    small (lists_of s.mesh) _ c.args.x c.args.y s.in_order _ c.part-entries.ensures _ c.highest-hit.ensures.hit_of.found

pub returns : goal.returns
unfolding found
returns c =
    let s = c.args.self in
    let k = run_is _ _ c.locate.ensures (rw c.in-Some.is at c.in_ok-run.was) in
    c.answer.ensures
    ∙ gives (lists_of s.mesh) _ _ _ s.in_order (rw s.counted at (k.sound (sym c.in_ok-check_run.ensures))) c.part-entries.ensures
    c.highest-hit.ensures.hit_of.found
