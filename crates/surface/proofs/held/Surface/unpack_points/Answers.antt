-- `surface::held::Surface::unpack_points` meets its contract: those of the first k questions are put. Assumes nothing.
use Rattle.std.proofs.Common.{◌*◌, refl, arith}
use Rattle.surface.specs.File.{words_of}
use Rattle.surface.specs.Held.{point_in, count_kind, points_of}
use Rattle.surface.proofs.Copies.{filled_none, filled_fits, filled_turn, filled_all}
use Rattle.surface.proofs.Laws.Held.{sized}
use Rattle.surface.proofs.held.Surface.unpack_points.Goals as goal

pub loop-k-init : goal.loop-k-init
loop-k-init c = filled_none _ _ _ _

pub put-requires : goal.put-requires
put-requires c = filled_fits _ _ c.loop-k.invariant c.args.self.sizes.questions (omega arith) (omega arith)

pub loop-k-preserved : goal.loop-k-preserved
unfolding point_in
loop-k-preserved c = filled_turn _ _ c.loop-k.invariant refl (rw c.question_at-q.ensures at c.put.ensures) (omega arith)

pub returns : goal.returns
unfolding points_of
returns c =
    let z = sized _ c.args.self.sizes c.args.self.sized in
    filled_all _ _ c.loop-k.invariant (count_kind (words_of c.args.self.bytes.now) 3) (2 * c.args.self.sizes.questions) (omega (arith, z.questions_are)) (omega (arith, z.questions_are))
