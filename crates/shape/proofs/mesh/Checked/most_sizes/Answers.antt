-- `shape::mesh::Checked::most_sizes` meets its contract: so far the first k lanes are within the sizes. Assumes nothing.
use Rattle.std.proofs.Common.{arith}
use Rattle.shape.specs.Gather.{gather}
use Rattle.shape.specs.SurfaceMesh.{given_of}
use Rattle.shape.proofs.Meshing.{few_lanes, short_lane, next_enough}
use Rattle.shape.proofs.mesh.Checked.most_sizes.Goals as goal

pub loop-k-init : goal.loop-k-init
unfolding gather
loop-k-init c = record { enough = record { floats = omega arith; index = omega arith; word = omega arith }; floats = omega arith; index = omega arith; word = omega arith }

pub most_lane-at-requires : goal.most_lane-at-requires
most_lane-at-requires c =
    let g = given_of c.args.self.lanes in
    let few = (few_lanes g c.args.self.sound).0 in
    (short_lane g c.args.self.sound c.loop-k.k (rw c.count-k-end.ensures at c.loop-k-test.true), omega arith, omega arith, omega arith)

pub loop-k-preserved : goal.loop-k-preserved
loop-k-preserved c =
    let i = c.loop-k.invariant in
    let t = c.most_lane-at.ensures in
    record {
      enough = next_enough (given_of c.args.self.lanes) c.loop-k.k c.loop-k.at c.most_lane-at.result i.enough t;
      floats = omega (arith, i.floats, t.floats, t.few);
      index = omega (arith, i.index, t.index, t.few);
      word = omega (arith, i.word, t.word);
    }
