-- `shape::mesh::surface_mesh` meets its contract: the checks decide, and then all is put. Assumes nothing.
use Rattle.std.proofs.Common.{◌≡◌, ap, ◌∙◌, rules, Err}
use Rattle.shape.specs.Lists.{mesh_lists}
use Rattle.shape.specs.MeshMemory.{lengths_of}
use Rattle.shape.specs.SurfaceMesh.{given_of, counts_of}
use Rattle.shape.proofs.Meshing.{admitted, fitting, made, lanes_back, room_back}
use Rattle.shape.proofs.mesh.surface_mesh.Goals as goal

pub put-at-requires : goal.put-at-requires
put-at-requires c =
    let a = c.args in
    let g = given_of c.in_ok-checked.checked.lanes in
    let lent = lengths_of (mesh_lists a.vertices.now a.normals.now a.indices.now a.spans.now) in
    fitting g a.vertices.now a.normals.now a.indices.now a.spans.now (admitted g lent c.in_ok-checked.checked.sound c.in_ok-room.ensures)

pub returns-in_err-checked : goal.returns-in_err-checked
returns-in_err-checked c =
    let a = c.args in
    let h : c.from_residual.result ≡ Err c.in_err-checked.field-0.0 = search rules in
    let t = lanes_back (given_of a.lanes) (mesh_lists a.vertices.now a.normals.now a.indices.now a.spans.now) _ c.in_err-checked.ensures in
    rw h (record { result_value = t.0; mesh_after = t.1 })

pub returns-in_err-room : goal.returns-in_err-room
returns-in_err-room c =
    let a = c.args in
    let h : c.from_residual-in_err-room.result ≡ Err c.in_err-room.field-0.0 = search rules in
    let k = c.in_ok-checked.checked in
    let before = mesh_lists a.vertices.now a.normals.now a.indices.now a.spans.now in
    let t = rw c.in_ok-checked.ensures at (room_back (given_of k.lanes) before _ k.sound c.in_err-room.ensures) in
    rw h (record { result_value = t.0; mesh_after = t.1 })

pub returns : goal.returns
returns c =
    let a = c.args in
    let k = c.in_ok-checked.checked in
    let g = given_of k.lanes in
    let e = admitted g (lengths_of (mesh_lists a.vertices.now a.normals.now a.indices.now a.spans.now)) k.sound c.in_ok-room.ensures in
    let t = rw c.in_ok-checked.ensures at (made g a.vertices.now a.normals.now a.indices.now a.spans.now e c.put-at.result c.from-2.result
    (c.from-2.ensures ∙ ap counts_of c.from.ensures) c.put-at.ensures) in
    record { result_value = t.0; mesh_after = t.1 }
