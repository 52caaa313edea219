-- `surface::file::write` meets its contract: what is copied is the bytes. Assumes nothing.
use Rattle.std.proofs.Common.{◌≡◌, ◌*◌, length, arith}
use Rattle.shape.specs.Refusal.{found, refuse, judge, taken}
use Rattle.surface.specs.File.{copy_of, write_of}
use Rattle.surface.proofs.Laws.File.{bytes_length}
use Rattle.surface.proofs.Copies.{leaves_put}
use Rattle.surface.proofs.file.write.Goals as goal

pub returns-clause-bytes_after : goal.returns-clause-bytes_after
unfolding found refuse judge copy_of write_of
returns-clause-bytes_after c =
    let ws = c.args.held.now in
    let t : taken (4 * length ws) ≡ write_of ws (length c.args.bytes.now) = grind (arith, bytes_length) in
    leaves_put t (grind (arith, bytes_length)) c.copy_bytes.ensures
