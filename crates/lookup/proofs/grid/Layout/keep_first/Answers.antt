-- `lookup::grid::Layout::keep_first` meets its contract: up to 64 blocks more are kept in each turn. Assumes nothing.
use Rattle.std.proofs.Common.{◌≡◌, ◌+◌, ◌-◌, length, drop, arith, length-drop, length-take}
use Rattle.lookup.specs.Index.{blocks_of}
use Rattle.lookup.proofs.Places.{kept_first}
use Rattle.lookup.proofs.grid.Layout.keep_first.Goals as goal
use Rattle.lookup.proofs.grid.Layout.keep_first.Goals.{After-keep_blocks}

-- how many are kept in a turn
many : (c : After-keep_blocks) → length c.keep_blocks.new.blocks ≡ c.min-m.result
many c =
    let l = c.loop-t in
    omega (arith, c.keep_blocks.auto.blocks, length-take (l.t + c.min-m.result - l.t) (drop l.t l.blocks), length-drop l.t l.blocks)

pub loop-t-preserved : goal.loop-t-preserved
loop-t-preserved c =
    let l = c.loop-t in
    let m = c.args.self.mesh in
    kept_first (blocks_of m.vertices.now m.indices.now c.args.self.grid.frame) l.t l.blocks c.keep_blocks.new.blocks _ (omega arith)
    (omega (arith, many (goal.at.loop-t-preserved c).After-keep_blocks)) (λ j h. l.invariant j (omega arith)) c.keep_blocks.ensures

pub returns-2 : goal.returns-2
returns-2 c j h =
    let l = c.loop-t in
    let m = c.args.self.mesh in
    kept_first (blocks_of m.vertices.now m.indices.now c.args.self.grid.frame) l.t l.blocks c.keep_blocks.new.blocks _ (omega arith)
    (omega (arith, many (goal.at.returns-2 c).After-keep_blocks)) (λ j h. l.invariant j (omega arith)) c.keep_blocks.ensures j h

pub returns : goal.returns
returns c = λ j h. c.loop-t.invariant j (omega arith)
