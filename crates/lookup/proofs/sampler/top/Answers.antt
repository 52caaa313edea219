-- `lookup::sampler::top` meets its contract where the index is foreign. Assumes nothing.
use Rattle.std.proofs.Common.{◌≡◌, sym, rules, Err}
use Rattle.shape.specs.Refusal.{found}
use Rattle.shape.specs.Lists.{lists_of}
use Rattle.lookup.specs.Sampler.{read_sampled}
use Rattle.lookup.proofs.Answers.{refuses}
use Rattle.lookup.proofs.Fronts.{foreign_is}
use Rattle.lookup.proofs.sampler.top.Goals as goal

pub returns-in_err-index : goal.returns-in_err-index
unfolding read_sampled found
returns-in_err-index c =
    let h : c.from_residual-in_err-index.result ≡ Err c.in_err-index.field-0.0 = search rules in
    rw h (refuses (lists_of c.args.mesh) _ _ _ (sym c.in_ok-top_fault.ensures) (foreign_is _ _ (rw c.triangles.ensures at c.open.ensures) c.in_err-index.was _ _))
