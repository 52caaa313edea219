-- `surface::file::put_file` meets its contract: the bytes of the words so far are put. Assumes nothing.
use Rattle.std.proofs.Common.{◌≡◌, ◌+◌, ◌*◌, length, refl, arith, rules, add-zero}
use Rattle.surface.specs.File.{four_bytes, encode}
use Rattle.surface.proofs.Copies.{filled_none, filled_fits, filled_turn, filled_all}
use Rattle.surface.proofs.file.put_file.Goals as goal

pub loop-j-init : goal.loop-j-init
loop-j-init c = rw add-zero (filled_none _ _ _ _)

pub put-requires : goal.put-requires
put-requires c =
    let n : length c.to_le_bytes.result ≡ 4 = search rules in
    rw n (filled_fits _ _ c.loop-j.invariant (length c.args.words.now) (omega arith) (omega arith))

pub loop-j-preserved : goal.loop-j-preserved
unfolding four_bytes
loop-j-preserved c = filled_turn _ _ c.loop-j.invariant refl (rw c.to_le_bytes.ensures at c.put.ensures) (omega arith)

pub returns : goal.returns
unfolding encode
returns c =
    let words = c.args.words.now in
    filled_all _ _ c.loop-j.invariant (length words) (c.args.at + 4 * length words) (omega arith) (omega arith)
