-- `surface::held::Surface::unpack_indices` meets its contract: those of the first t triangles are put. Assumes nothing.
use Rattle.std.proofs.Common.{◌≡◌, ℕ, ◌+◌, ◌*◌, ◌<◌, sym, refl, arith}
use Rattle.shape.specs.Lists.{word_of}
use Rattle.surface.specs.File.{words_of, decode}
use Rattle.surface.specs.Held.{corners_in, triangle_record, count_kind, indices_in}
use Rattle.surface.proofs.Copies.{filled_none, filled_fits, filled_turn, filled_all}
use Rattle.surface.proofs.Laws.Held.{sized, word_kept}
use Rattle.surface.proofs.held.Surface.unpack_indices.Goals as goal

pub loop-t-init : goal.loop-t-init
loop-t-init c = filled_none _ _ _ _

pub put-requires : goal.put-requires
put-requires c = filled_fits _ _ c.loop-t.invariant c.args.self.sizes.triangles (omega arith) (omega arith)

pub loop-t-preserved : goal.loop-t-preserved
unfolding corners_in triangle_record
loop-t-preserved c =
    let z = sized _ c.args.self.sizes c.args.self.sized in
    let bs = c.args.self.bytes.now in
    let k = count_kind (words_of bs) 1 + c.loop-t.t in
    let kept : (j : ℕ) → j < 4 → word_of 8 (decode bs) k j ≡ word_of 8 (words_of bs) k j = λ j l. sym (word_kept bs c.args.self.sound k j (omega arith) (λ p. omega arith) (λ p. omega arith)) in
    filled_turn _ _ c.loop-t.invariant refl
    (rw (c.word.ensures, c.word-in-loop-t.ensures, c.word-in-loop-t-2.ensures, z.vertices_are, kept 1 (omega arith), kept 2 (omega arith), kept 3 (omega arith)) at c.put.ensures) (omega arith)

pub returns : goal.returns
unfolding indices_in
returns c =
    let z = sized _ c.args.self.sizes c.args.self.sized in
    filled_all _ _ c.loop-t.invariant (count_kind (words_of c.args.self.bytes.now) 2) (3 * c.args.self.sizes.triangles) (omega (arith, z.triangles_are)) (omega (arith, z.triangles_are))
