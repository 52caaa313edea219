-- `lookup::sampler::Sampler::spans` meets its contract: the spans of a mesh in order are in order. Assumes nothing.
use Rattle.shape.specs.Lists.{lists_of}
use Rattle.lookup.proofs.Laws.Limits.{in_order, mesh_in_order}
use Rattle.lookup.proofs.sampler.Sampler.spans.Goals as goal

pub invariant_of-result : goal.invariant_of-result
invariant_of-result c =
    let s = c.args.self in
    let m = lists_of s.mesh in
    let o = in_order m (mesh_in_order m _ s.in_order) in
    record { few = o.spans; rise = o.ends }
