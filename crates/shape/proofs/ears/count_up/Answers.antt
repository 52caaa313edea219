-- `shape::ears::count_up` meets its contract: one number more is put, until all are. Assumes nothing.
use Rattle.std.proofs.Common.{◌≡◌, [], ◌∷◌, length, take, refl, sym, ◌∙◌, arith}
use Rattle.std.proofs.lemmas.List.{take_all}
use Rattle.shape.specs.Ears.{up_to}
use Rattle.shape.proofs.Laws.Memory.{put_turn, put_front}
use Rattle.shape.proofs.ears.count_up.Goals as goal

pub loop-i-preserved : goal.loop-i-preserved
unfolding up_to
loop-i-preserved c = put_turn (λ i. i ∷ []) c.loop-i.i c.loop-i.invariant (record { memory = refl; ends = refl })

pub returns : goal.returns
returns c =
    let n = length c.args.numbers.now in
    let e : c.loop-i.i ≡ n = omega arith in
    let put : take n c.loop-i.numbers ≡ up_to n = put_front (rw e at c.loop-i.invariant) (omega arith) in
    sym (take_all n c.loop-i.numbers (omega arith)) ∙ put
