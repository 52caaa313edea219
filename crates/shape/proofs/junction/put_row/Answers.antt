-- `shape::junction::put_row` meets its contract: the pairs of triangles of the row so far, and then the last. Assumes nothing.
use Rattle.std.proofs.Common.{◌≡◌, ◌+◌, ◌-◌, arith}
use Rattle.shape.specs.Gather.{gather}
use Rattle.shape.specs.JunctionMesh.{corner_coords, face_normals}
use Rattle.shape.proofs.Laws.Memory.{put_none, put_length}
use Rattle.shape.proofs.Laws.JunctionMesh.{corners_nine, row_turn, row_end}
use Rattle.shape.proofs.junction.put_row.Goals as goal

pub loop-j-init : goal.loop-j-init
unfolding gather
loop-j-init c =
    record { vs = put_none _ _; ns = put_none _ _; isp = c.lifted-p.ensures; isq = c.lifted-q.ensures; here = omega arith }

pub push-at-requires : goal.push-at-requires
push-at-requires c =
    let l = c.loop-j in
    let x = c.push-next.ensures in
    omega (
      arith,
      put_length l.invariant.vs,
      put_length l.invariant.ns,
      put_length x.vertices_put,
      put_length x.normals_put,
      x.vertices_put.ends,
      corners_nine l.p l.q c.lifted-r.result,
    )

pub loop-j-preserved : goal.loop-j-preserved
loop-j-preserved c =
    let a = c.args in
    let l = c.loop-j in
    let v = l.invariant in
    let x = c.push-next.ensures in
    let y = c.push-at.ensures in
    let r = c.lifted-r in
    let s = c.lifted-s in
    let k = l.j - 1 in
    let e : l.j ≡ k + 1 = omega arith in
    let f : l.j + 1 - 1 ≡ k + 1 = omega arith in
    let er = rw e at r.ensures in
    let es = rw e at s.ensures in
    rw f (record {
      vs = row_turn corner_coords _ a.e.n a.i k l.p l.q r.result v.isp v.isq er v.vs s.result es (omega arith) x.vertices_put y.vertices_put;
      ns = row_turn face_normals _ a.e.n a.i k l.p l.q r.result v.isp v.isq er v.ns s.result es (omega arith) x.normals_put y.normals_put;
      isp = er;
      isq = es;
      here = omega
          (arith, v.here, x.vertices_put.ends, y.vertices_put.ends, corners_nine l.p l.q r.result, corners_nine l.q s.result r.result);
    })

pub returns : goal.returns
returns c =
    let a = c.args in
    let l = c.loop-j in
    let v = l.invariant in
    let x = c.push.ensures in
    let r = c.lifted-r-2 in
    let k = l.j - 1 in
    let e : a.e.n - a.i ≡ k + 1 = omega arith in
    let n : a.e.n ≡ a.i + k + 1 = omega arith in
    let er = rw e at r.ensures in
    record {
      vertices_put = row_end corner_coords _ a.e.n a.i k l.p l.q r.result v.isp v.isq er v.vs n x.vertices_put;
      normals_put = row_end face_normals _ a.e.n a.i k l.p l.q r.result v.isp v.isq er v.ns n x.normals_put;
    }
