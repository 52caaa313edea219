-- `shape::memory::put` meets its contract. Assumes nothing.
use Rattle.std.proofs.Common.{◌≡◌, length, arith, rules}
use Rattle.shape.proofs.Laws.Memory.{put_over}
use Rattle.shape.proofs.memory.put.Goals as goal

pub returns : goal.returns
returns g c =
    let n : length c.args.xs ≡ g.row.N = search rules in
    put_over c.args.out.now c.args.at _ c.copy_from_slice.ensures.after (omega (arith, n)) (omega (arith, n)) (omega (arith, n, c.requires))
