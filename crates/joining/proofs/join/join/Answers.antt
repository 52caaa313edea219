-- `joining::join::join` meets its contract: the checks decide, and then all is put. Assumes nothing.
use Rattle.std.proofs.Common.{◌≡◌, ap, ◌∙◌, rules, Err}
use Rattle.shape.specs.Lists.{lists_of, mesh_lists}
use Rattle.shape.specs.SurfaceMesh.{counts_of}
use Rattle.joining.proofs.Joining.{rooms, made, parts_back, room_back}
use Rattle.joining.proofs.join.join.Goals as goal

pub put_both-requires : goal.put_both-requires
put_both-requires c =
    let a = c.args in
    let p = c.in_ok-parts.parts in
    (rooms (lists_of p.first) (lists_of p.second) a.vertices.now a.normals.now a.indices.now a.spans.now p.sound (rw c.lengths-made.ensures at c.in_ok-room_fault.ensures)).0

pub put_both-requires-2 : goal.put_both-requires-2
put_both-requires-2 c =
    let a = c.args in
    let p = c.in_ok-parts.parts in
    (rooms (lists_of p.first) (lists_of p.second) a.vertices.now a.normals.now a.indices.now a.spans.now p.sound (rw c.lengths-made.ensures at c.in_ok-room_fault.ensures)).1

pub put_indices-requires : goal.put_indices-requires
put_indices-requires c =
    let a = c.args in
    let p = c.in_ok-parts.parts in
    (rooms (lists_of p.first) (lists_of p.second) a.vertices.now a.normals.now a.indices.now a.spans.now p.sound (rw c.lengths-made.ensures at c.in_ok-room_fault.ensures)).2

pub put_spans-requires : goal.put_spans-requires
put_spans-requires c =
    let a = c.args in
    let p = c.in_ok-parts.parts in
    (rooms (lists_of p.first) (lists_of p.second) a.vertices.now a.normals.now a.indices.now a.spans.now p.sound (rw c.lengths-made.ensures at c.in_ok-room_fault.ensures)).3

pub returns-in_err-parts : goal.returns-in_err-parts
returns-in_err-parts c =
    let a = c.args in
    let h : c.from_residual.result ≡ Err c.in_err-parts.field-0.0 = search rules in
    let t = parts_back (lists_of a.first) (lists_of a.second) (mesh_lists a.vertices.now a.normals.now a.indices.now a.spans.now) _ c.in_err-parts.ensures in
    rw h (record { result_value = t.0; mesh_after = t.1 })

pub returns-in_err-room_fault : goal.returns-in_err-room_fault
returns-in_err-room_fault c =
    let a = c.args in
    let p = c.in_ok-parts.parts in
    let h : c.from_residual-in_err-room_fault.result ≡ Err c.in_err-room_fault.field-0.0 = search rules in
    let before = mesh_lists a.vertices.now a.normals.now a.indices.now a.spans.now in
    let t = rw (c.in_ok-parts.ensures.0, c.in_ok-parts.ensures.1) at
    (room_back (lists_of p.first) (lists_of p.second) before _ p.sound (rw c.lengths-made.ensures at c.in_err-room_fault.ensures)) in
    rw h (record { result_value = t.0; mesh_after = t.1 })

pub returns : goal.returns
returns c =
    let a = c.args in
    let p = c.in_ok-parts.parts in
    let t = rw (c.in_ok-parts.ensures.0, c.in_ok-parts.ensures.1) at
    (made (lists_of p.first) (lists_of p.second) a.vertices.now a.normals.now a.indices.now a.spans.now p.sound (rw c.lengths-made.ensures at c.in_ok-room_fault.ensures)
    c.from.result (c.from.ensures ∙ ap counts_of c.lengths-made.ensures) c.put_both.ensures c.put_both-2.ensures c.put_indices.ensures c.put_spans.ensures) in
    record { result_value = t.0; mesh_after = t.1 }
