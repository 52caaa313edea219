-- The word that is read is put behind those that were read before.
use Rattle.std.proofs.Common.{◌≡◌, ◌+◌, ◌<◌, ◌∷◌, [], ◌++◌, length, length-set, take, set, ap, sym, subst, ◌∙◌, arith, rules}
use Rattle.std.proofs.lemmas.List.{take_more_set}
use Rattle.stored.specs.Input.{Gives, ahead}
use Rattle.stored.proofs.Reading.{gives_more}
use Rattle.stored.proofs.stream.Words.list.Goals as goal

pub loop-x-preserved : goal.loop-x-preserved
loop-x-preserved g c =
    let i = c.loop-x.x-index in
    let list = c.loop-x.list in
    let w = c.in_ok-x.field-0 in
    let within : i < length list = omega (arith, c.loop-x-test.true) in
    let same : (length list ∷ take i list) ++ w ∷ [] ≡ length (set list i w) ∷ take (i + 1) (set list i w) =
    ap (λ n. n ∷ (take i list ++ w ∷ [])) (sym (length-set list i w)) ∙ ap (λ l. length (set list i w) ∷ l) (sym (take_more_set list i w within)) in
    let more = gives_more _ _ _ (length list ∷ take i list) w c.loop-x.invariant.1 c.in_ok-x.ensures.word in
    (search rules, subst (Gives (ahead g.R.Read.remaining c.args.self.now) (ahead g.R.Read.remaining c.word-in-loop-x.new.self)) same more)
