-- The word that is handed out is the first of what is to come.
use Rattle.std.proofs.Common.{◌≤◌, ◌+◌, ◌*◌, length, arith}
use Rattle.stored.proofs.Reading.{gives_word}
use Rattle.stored.proofs.stream.Words.word.Goals as goal

pub returns-clause-word : goal.returns-clause-word
returns-clause-word g c =
    let s = c.refill.new.self in
    let fits : 4 * s.held + s.spare ≤ length s.buffer = omega (arith, s.in_buffer) in
    gives_word _ (g.R.Read.remaining s.input) s.buffer s.at s.held s.spare c.word_at-w.result c.if-self.false fits c.word_at-w.ensures c.refill.ensures.kept
