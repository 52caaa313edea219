-- `surface::file::read` meets its contract: what is copied is the words. Assumes nothing.
use Rattle.std.proofs.Common.{◌≡◌, ◌/◌, length, arith}
use Rattle.shape.specs.Refusal.{found, refuse, judge, taken}
use Rattle.surface.specs.File.{copy_of, read_of}
use Rattle.surface.proofs.Laws.File.{words_length}
use Rattle.surface.proofs.Copies.{leaves_put}
use Rattle.surface.proofs.file.read.Goals as goal

pub returns-clause-held_after : goal.returns-clause-held_after
unfolding found refuse judge copy_of read_of
returns-clause-held_after c =
    let bs = c.args.bytes.now in
    let t : taken (length bs / 4) ≡ read_of bs (length c.args.held.now) = grind (arith, words_length) in
    leaves_put t (grind (arith, words_length)) c.copy_words.ensures
