-- `surface::report::Answered::put_lines` meets its contract: so far the lines of the first k questions stand in the memory. Assumes nothing.
use Rattle.shape.specs.Gather.{gather}
use Rattle.shape.specs.Memory.{Put}
use Rattle.surface.specs.File.{words_of}
use Rattle.surface.specs.Report.{line_at}
use Rattle.surface.proofs.report.Answered.put_lines.Given as goal

abbrev pub invariant-loop-k : goal.invariant-loop-k
invariant-loop-k l = Put l.initial.out l.out 0 (gather (line_at (words_of l.self.surface.bytes.now)) l.k) l.at
