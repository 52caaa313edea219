-- `surface::report::Answered::put_lines` meets its contract: so far the lines of the first k questions stand in the memory. Assumes nothing.
use Rattle.std.proofs.Common.{◌≡◌, arith}
use Rattle.shape.specs.Gather.{gather}
use Rattle.shape.proofs.Laws.Memory.{put_none, put_length}
use Rattle.surface.specs.File.{words_of}
use Rattle.surface.proofs.Telling.{asked_are, line_fits, next_line, last_fits, last_line}
use Rattle.surface.proofs.report.Answered.put_lines.Goals as goal

pub loop-k-init : goal.loop-k-init
unfolding gather
loop-k-init c = put_none _ 0

pub put_line-at-requires : goal.put_line-at-requires
put_line-at-requires c =
    let l = c.loop-k in
    (omega arith, line_fits (words_of c.args.self.surface.bytes.now) l.k c.line_at.ensures _ l.invariant (omega (arith, asked_are c.args.self.asked)) (omega (arith, put_length l.invariant)))

pub loop-k-preserved : goal.loop-k-preserved
loop-k-preserved c = next_line (words_of c.args.self.surface.bytes.now) c.loop-k.k c.line_at.ensures c.loop-k.invariant c.put_line-at.ensures

pub put-requires : goal.put-requires
put-requires c =
    let l = c.loop-k in
    let e : l.k ≡ c.args.self.surface.sizes.questions = omega arith in
    rw c.asked.ensures (last_fits (words_of c.args.self.surface.bytes.now) (rw e at l.invariant) (asked_are c.args.self.asked) c.requires.found_value (omega (arith, put_length l.invariant)))

pub returns : goal.returns
returns c =
    let l = c.loop-k in
    let e : l.k ≡ c.args.self.surface.sizes.questions = omega arith in
    last_line (words_of c.args.self.surface.bytes.now) (rw e at l.invariant) (asked_are c.args.self.asked) c.requires.found_value
    (rw c.asked.ensures at c.put.ensures)
