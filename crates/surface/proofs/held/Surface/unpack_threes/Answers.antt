-- `surface::held::Surface::unpack_threes` meets its contract: those of the first k vertices are put. Assumes nothing.
use Rattle.std.proofs.Common.{◌≡◌, ℕ, ◌+◌, ◌*◌, ◌<◌, sym, refl, arith}
use Rattle.surface.specs.File.{words_of, decode}
use Rattle.surface.specs.Held.{single_in, three_in, count_kind}
use Rattle.surface.proofs.Copies.{filled_none, filled_fits, filled_turn, filled_all}
use Rattle.surface.proofs.Laws.Held.{sized, vertex_single}
use Rattle.surface.proofs.held.Surface.unpack_threes.Goals as goal

pub loop-k-init : goal.loop-k-init
loop-k-init c = filled_none _ _ _ _

pub put-requires : goal.put-requires
put-requires c = filled_fits _ _ c.loop-k.invariant c.args.self.sizes.vertices (omega arith) (omega arith)

pub loop-k-preserved : goal.loop-k-preserved
unfolding three_in
loop-k-preserved c =
    let z = sized _ c.args.self.sizes c.args.self.sized in
    let bs = c.args.self.bytes.now in
    let k = c.loop-k.k in
    let j = c.args.j in
    let kept : (j : ℕ) → j < 8 → single_in (decode bs) k j ≡ single_in (words_of bs) k j = λ j l. sym (vertex_single bs c.args.self.sound k j l (omega (arith, z.vertices_are))) in
    filled_turn _ _ c.loop-k.invariant refl
    (rw (c.single.ensures, c.single-in-loop-k.ensures, c.single-in-loop-k-2.ensures, kept j (omega arith), kept (j + 1) (omega arith), kept (j + 2) (omega arith)) at c.put.ensures) (omega arith)

pub returns : goal.returns
returns c =
    let z = sized _ c.args.self.sizes c.args.self.sized in
    filled_all _ _ c.loop-k.invariant (count_kind (words_of c.args.self.bytes.now) 1) (3 * c.args.self.sizes.vertices) (omega (arith, z.vertices_are)) (omega (arith, z.vertices_are))
