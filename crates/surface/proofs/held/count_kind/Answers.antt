-- `surface::held::count_kind` meets its contract: those of the first k records are counted. Assumes nothing.
use Rattle.std.proofs.Common.{◌≡◌, ◌/◌, length, refl, arith}
use Rattle.std.proofs.lemmas.Grind.{common_steps}
use Rattle.shape.specs.Lists.{word_of}
use Rattle.surface.specs.File.{words_of, decode}
use Rattle.surface.specs.Kind.{number}
use Rattle.surface.specs.Held.{how_many, is_kind, count_kind}
use Rattle.surface.proofs.Laws.Held.{how_many_next, how_many_le, word_kept}
use Rattle.surface.proofs.Laws.File.{words_length}
use Rattle.surface.proofs.held.count_kind.Goals as goal

pub loop-k-init : goal.loop-k-init
unfolding how_many
loop-k-init c = refl

pub overflow_add-found : goal.overflow_add-found
overflow_add-found c =
    let m = how_many_le (is_kind (words_of c.args.bytes.now) (number c.args.kind)) c.loop-k.k in
    grind (arith, m)

pub loop-k-preserved : goal.loop-k-preserved
unfolding is_kind
loop-k-preserved c =
    let bs = c.args.bytes.now in
    let w : word_of 8 (words_of bs) c.loop-k.k 0 ≡ word_of 8 (decode bs) c.loop-k.k 0 = word_kept bs c.requires c.loop-k.k 0 (omega arith) (λ p. omega arith) (λ p. omega arith) in
    grind (arith, common_steps, how_many_next, w)

pub returns : goal.returns
unfolding count_kind
returns c =
    let l = c.loop-k in
    let e : l.k ≡ length (words_of c.args.bytes.now) / 8 = omega (arith, words_length c.args.bytes.now) in
    rw e at l.invariant
