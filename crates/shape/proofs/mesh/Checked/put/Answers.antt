-- `shape::mesh::Checked::put` meets its contract: so far the first k lanes stand in the memory. Assumes nothing.
use Rattle.shape.specs.Gather.{gather}
use Rattle.shape.specs.SurfaceMesh.{given_of, lanes_of}
use Rattle.shape.proofs.Laws.Memory.{put_none}
use Rattle.shape.proofs.Meshing.{short_lane, lane_short, room_at, next_written}
use Rattle.shape.proofs.mesh.Checked.put.Goals as goal

pub loop-k-init : goal.loop-k-init
unfolding gather
loop-k-init c =
    let a = c.args in
    record {
      vertices = put_none a.vertices.now 0;
      normals = put_none a.normals.now 0;
      indices = put_none a.indices.now 0;
      spans = put_none a.spans.now 0;
    }

pub put_strip-at-requires : goal.put_strip-at-requires
put_strip-at-requires c =
    let g = given_of c.args.self.lanes in
    let at = c.loop-k in
    let short = lane_short g at.k (short_lane g c.args.self.sound at.k (rw c.count-k-end.ensures at c.loop-k-test.true)) in
    record {
      points_len_bound = (rw (← c.lane.ensures) at short, c.word-id.ensures.1);
      room = rw c.lane.ensures (room_at g at.k at.at at.invariant (lanes_of g) c.requires (rw c.count-k-end.ensures at c.loop-k-test.true));
    }

pub loop-k-preserved : goal.loop-k-preserved
loop-k-preserved c =
    let at = c.loop-k in
    next_written (given_of c.args.self.lanes) at.k at.at at.invariant c.put_strip-at.result
    (rw (c.lane.ensures, c.word-id.ensures.0) at c.put_strip-at.ensures)
