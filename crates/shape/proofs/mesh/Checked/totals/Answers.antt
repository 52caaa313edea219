-- `shape::mesh::Checked::totals` meets its contract: so far the first k lanes are counted. Assumes nothing.
use Rattle.std.proofs.Common.{refl, arith}
use Rattle.shape.specs.Gather.{gather}
use Rattle.shape.specs.SurfaceMesh.{given_of}
use Rattle.shape.proofs.Meshing.{few_lanes, short_lane, lane_short, next_sizes}
use Rattle.shape.proofs.mesh.Checked.totals.Goals as goal

pub loop-k-init : goal.loop-k-init
unfolding gather
loop-k-init c = record { sizes = record { floats = refl; index = refl; word = refl }; floats = omega arith; index = omega arith; word = omega arith }

pub size_strip-at-requires : goal.size_strip-at-requires
size_strip-at-requires c =
    let g = given_of c.args.self.lanes in
    let few = (few_lanes g c.args.self.sound).0 in
    let short = lane_short g c.loop-k.k (short_lane g c.args.self.sound c.loop-k.k (rw c.count-k-end.ensures at c.loop-k-test.true)) in
    (rw (← c.lane.ensures) at short, omega arith, omega arith, omega arith)

pub loop-k-preserved : goal.loop-k-preserved
loop-k-preserved c =
    let i = c.loop-k.invariant in
    let n = rw c.lane.ensures at c.size_strip-at.ensures in
    record {
      sizes = next_sizes (given_of c.args.self.lanes) c.loop-k.k c.loop-k.at c.size_strip-at.result i.sizes n;
      floats = omega (arith, i.floats, n.few_floats);
      index = omega (arith, i.index, n.few_index);
      word = omega (arith, i.word, n.few_words);
    }
