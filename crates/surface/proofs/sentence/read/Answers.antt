-- `surface::sentence::read` meets its contract: the first walk that the bytes end, or none. Assumes nothing.
use Rattle.std.proofs.Common.{arith}
use Rattle.shape.specs.Refusal.{number_of, place_of}
use Rattle.shape.specs.Verdict.{read_verdict, verdict_of}
use Rattle.surface.specs.SentenceSteps.{then_on}
use Rattle.surface.proofs.Chosen.{chosen_sound, chosen_empty, chosen_non_finite, chosen_out_of_range, chosen_degenerate, chosen_none}
use Rattle.surface.proofs.sentence.read.Goals as goal

pub returns-in-Ok : goal.returns-in-Ok
unfolding read_verdict verdict_of then_on
returns-in-Ok c = chosen_sound c.args.text.now c.in-Ok.ensures

pub returns-in-Ok-read_text : goal.returns-in-Ok-read_text
unfolding read_verdict verdict_of then_on
returns-in-Ok-read_text c = chosen_empty c.args.text.now _ c.in-Err.ensures c.in-Ok-read_text.ensures

pub returns-in-Ok-read : goal.returns-in-Ok-read
unfolding read_verdict verdict_of then_on
returns-in-Ok-read c = chosen_non_finite c.args.text.now _ c.in-Err.ensures _ c.in-Err-read_text.ensures _ c.in-Ok-read.ensures

pub returns-in-Ok-read-2 : goal.returns-in-Ok-read-2
unfolding read_verdict verdict_of then_on
returns-in-Ok-read-2 c =
    chosen_out_of_range c.args.text.now _ c.in-Err.ensures _ c.in-Err-read_text.ensures _ c.in-Err-read.ensures c.in-Ok-read-2.counts c.in-Ok-read-2.ensures

pub returns-in-Ok-read-3 : goal.returns-in-Ok-read-3
unfolding read_verdict verdict_of then_on
returns-in-Ok-read-3 c =
    chosen_degenerate c.args.text.now _ c.in-Err.ensures _ c.in-Err-read_text.ensures _ c.in-Err-read.ensures _ c.in-Err-read-2.ensures _ c.in-Ok-read-3.ensures

pub returns : goal.returns
unfolding read_verdict number_of place_of then_on
returns c =
    chosen_none
    c.args.text.now _ c.in-Err.ensures _ c.in-Err-read_text.ensures _ c.in-Err-read.ensures _ c.in-Err-read-2.ensures _ c.max-far.result c.in-Err-read-3.ensures
    (omega (arith, c.max-far.ensures, c.max-3.ensures, c.max-2.ensures, c.max.ensures))
