-- `shape::junction::mesh` meets its contract: what the check of the input told decides. Assumes nothing.
use Rattle.std.proofs.Common.{◌≡◌, [], Err, Ok, sym, refl, ◌∙◌, None, rules}
use Rattle.shape.specs.Lists.{mesh_lists}
use Rattle.shape.specs.Refusal.{found}
use Rattle.shape.specs.JunctionMesh.{ground_of, ground_input}
use Rattle.shape.proofs.Laws.JunctionMesh.{ground_stays, ground_turned_back, ground_goes_on}
use Rattle.shape.proofs.Surveys.{input_limits, same_input}
use Rattle.shape.proofs.junction.mesh.Goals as goal

pub mesh_checked-requires : goal.mesh_checked-requires
mesh_checked-requires c = (input_limits (ground_of c.args.ring.now None c.args.heights) c.in_ok-survey.ensures.1).1

pub returns-in_err-survey : goal.returns-in_err-survey
returns-in_err-survey c =
    let a = c.args in
    let g = ground_of a.ring.now a.grid a.heights in
    let m = mesh_lists a.vertices.now a.normals.now a.indices.now [] in
    let r = c.in_err-survey.field-0.0 in
    let h : c.from_residual.result ≡ Err r = search rules in
    let e : found (Err r) ≡ ground_input g = sym c.in_err-survey.ensures ∙ same_input a.ring.now a.grid a.heights in
    let s = ground_stays g m r (ground_turned_back g m e refl) in
    rw h (record { result_value = s.0; mesh_after = s.1 })

pub returns : goal.returns
unfolding found
returns c =
    let a = c.args in
    let g = ground_of a.ring.now a.grid a.heights in
    let m = mesh_lists a.vertices.now a.normals.now a.indices.now [] in
    let e : found (Ok tt) ≡ ground_input g = sym c.in_ok-survey.ensures.1 ∙ same_input a.ring.now a.grid a.heights in
    rw (← (ground_goes_on g m e refl)) (rw c.in_ok-survey.ensures.0 at c.mesh_checked.ensures)
