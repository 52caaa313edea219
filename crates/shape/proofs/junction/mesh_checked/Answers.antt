-- `shape::junction::mesh_checked` meets its contract: the counts decide, and then all is put. Assumes nothing.
use Rattle.std.proofs.Common.{◌≡◌, ℕ, ◌≤◌, List, [], ◌++◌, length, take, drop, sym, Err, arith, rules, length-take-le}
use Rattle.shape.specs.Lists.{mesh_lists}
use Rattle.shape.specs.Memory.{Put}
use Rattle.shape.specs.Ears.{up_to}
use Rattle.shape.specs.MeshMemory.{lengths_of}
use Rattle.shape.specs.JunctionMesh.{ground_lengths, ground_of}
use Rattle.shape.proofs.Laws.Memory.{sets_front}
use Rattle.shape.proofs.Laws.Ears.{up_to_length, ears_few}
use Rattle.shape.proofs.Laws.MeshMemory.{Fits}
use Rattle.shape.proofs.Laws.JunctionMesh.{many_of, ground_refused, ground_taken, ground_fits, ground_left, ground_stays}
use Rattle.shape.proofs.junction.mesh_checked.Goals.{After-count_vertices-many, In_ok-room_fault}
use Rattle.shape.proofs.junction.mesh_checked.Goals as goal

-- the numbers below n, counted in the first n places of a list
counted : {now old : List ℕ} {n : ℕ} → n ≤ length old → now ≡ up_to (length (take n old)) → Put old (now ++ drop n old) 0 (up_to n) n
counted {now} {old} {n} h e =
    let l = up_to_length n in
    let is : now ≡ up_to n = rw (length-take-le n old h) at e in
    let front = sets_front (up_to n) old (omega (arith, l)) in
    record { memory = rw is (sym (rw l at front)); ends = omega (arith, l) }

-- the vertices counted are those of the mesh
many_is : (c : After-count_vertices-many) → c.count_vertices-many.result ≡ many_of (ground_of c.args.ring.now c.args.relief.grid c.args.relief.survey.heights)
many_is c = rw (c.spacing.ensures, c.clip-ears.ensures.0, c.clip-ears.ensures.1) at c.count_vertices-many.ensures.0

-- what the check of the room lets through
fits : (c : In_ok-room_fault) → c.count_vertices-many.result ≡ many_of (ground_of c.args.ring.now c.args.relief.grid c.args.relief.survey.heights)
    → Fits (ground_lengths c.count_vertices-many.result) (lengths_of (mesh_lists c.args.vertices.now c.args.normals.now c.args.indices.now []))
fits c k =
    let a = c.args in
    rw k (ground_fits (ground_of a.ring.now a.relief.grid a.relief.survey.heights) (mesh_lists a.vertices.now a.normals.now a.indices.now []) _ _ _ k
    c.ground_lengths.ensures c.room_fault.ensures c.in_ok-room_fault.was)

pub count_vertices-many-requires : goal.count_vertices-many-requires
count_vertices-many-requires c = rw c.clip-ears.ensures.1 (omega (arith, ears_few c.args.ring.now c.requires))

pub returns-in_err-room_fault : goal.returns-in_err-room_fault
returns-in_err-room_fault c =
    let a = c.args in
    let g = ground_of a.ring.now a.relief.grid a.relief.survey.heights in
    let m = mesh_lists a.vertices.now a.normals.now a.indices.now [] in
    let k = many_is (goal.at.returns-in_err-room_fault c).After-count_vertices-many in
    let r = c.in_err-room_fault.field-0.0 in
    let h : c.from_residual.result ≡ Err r = search rules in
    let s = ground_stays g m r (ground_refused g m _ _ _ k c.ground_lengths.ensures c.room_fault.ensures c.in_err-room_fault.was) in
    rw h (record { result_value = s.0; mesh_after = s.1 })

pub put_ears-requires : goal.put_ears-requires
put_ears-requires c =
    let f = fits (goal.at.put_ears-requires c).In_ok-room_fault (many_is (goal.at.put_ears-requires c).After-count_vertices-many) in
    rw (← c.spacing.ensures, ← c.count_vertices-many.ensures.0) (f.vertices, f.normals)

pub slice_bounds-count_up-end : goal.slice_bounds-count_up-end
slice_bounds-count_up-end c = (fits (goal.at.slice_bounds-count_up-end c).In_ok-room_fault (many_is (goal.at.slice_bounds-count_up-end c).After-count_vertices-many)).indices

pub slice_bounds-count_up-end-2 : goal.slice_bounds-count_up-end-2
slice_bounds-count_up-end-2 c = sym (length-take-le _ _ (fits (goal.at.slice_bounds-count_up-end-2 c).In_ok-room_fault (many_is (goal.at.slice_bounds-count_up-end-2 c).After-count_vertices-many)).indices)

pub count_up-requires : goal.count_up-requires
count_up-requires c =
    let f = fits (goal.at.count_up-requires c).In_ok-room_fault (many_is (goal.at.count_up-requires c).After-count_vertices-many) in
    rw (length-take-le c.count_vertices-many.result c.args.indices.now f.indices) (omega (arith, f.few_vertices))

pub returns : goal.returns
returns c =
    let a = c.args in
    let g = ground_of a.ring.now a.relief.grid a.relief.survey.heights in
    let m = mesh_lists a.vertices.now a.normals.now a.indices.now [] in
    let k = many_is (goal.at.returns c).After-count_vertices-many in
    let f = fits (goal.at.returns c).In_ok-room_fault (many_is (goal.at.returns c).After-count_vertices-many) in
    let e = c.clip-ears.ensures in
    let x = c.put_ears.ensures in
    let t = ground_taken g m _ _ _ k c.ground_lengths.ensures c.room_fault.ensures c.in_ok-room_fault.was in
    let s = ground_left g a.vertices.now _ a.normals.now _ a.indices.now _ t (rw k at f) (rw (e.0, e.1) at x.vertices_put) (rw (e.0, e.1) at x.normals_put)
    (rw k at (counted f.indices c.count_up.ensures))
    in
    rw k (record { result_value = s.0; mesh_after = s.1 })
