-- `shape::junction::put_split` meets its contract: the rows so far. Assumes nothing.
use Rattle.std.proofs.Common.{◌≡◌, ℕ, ◌-◌, arith}
use Rattle.vector.specs.declared.coords.Point.{Point}
use Rattle.shape.specs.Gather.{gather}
use Rattle.shape.specs.JunctionMesh.{lattice, raised_by, corner_coords, split_of, ear_mesh}
use Rattle.shape.proofs.Laws.Memory.{put_none, put_length, put_turn}
use Rattle.shape.proofs.Laws.JunctionMesh.{corners_nine, rows_length, square_room}
use Rattle.shape.proofs.junction.put_split.Goals as goal

pub loop-i-init : goal.loop-i-init
unfolding gather
loop-i-init c = record { vs = put_none _ _; ns = put_none _ _ }

pub put_row-at-requires : goal.put_row-at-requires
put_row-at-requires c =
    let a = c.args in
    let A : ℕ → ℕ → Point = λ x y. raised_by a.relief (lattice a.e x y) in
    let l = c.loop-i in
    let h = rows_length corner_coords corners_nine A a.e.n l.i (omega arith) in
    let s = square_room (a.e.n - l.i) in
    omega (arith, h, s, l.invariant.vs.ends, put_length l.invariant.vs, put_length l.invariant.ns)

pub loop-i-preserved : goal.loop-i-preserved
loop-i-preserved c =
    let v = c.loop-i.invariant in
    let x = c.put_row-at.ensures in
    record { vs = put_turn _ c.loop-i.i v.vs x.vertices_put; ns = put_turn _ c.loop-i.i v.ns x.normals_put }

pub returns : goal.returns
unfolding ear_mesh split_of
returns c =
    let l = c.loop-i in
    let e : l.i ≡ c.args.e.n = omega arith in
    record { vertices_put = rw e at l.invariant.vs; normals_put = rw e at l.invariant.ns }
