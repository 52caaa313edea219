-- `shape::junction::count_vertices` meets its contract: the vertices of the first k ears. Assumes nothing.
use Rattle.std.proofs.Common.{◌≡◌, ◌/◌, length, refl, arith}
use Rattle.shape.specs.JunctionMesh.{sum_of, ear_vertices, vertex_count}
use Rattle.shape.proofs.Laws.JunctionMesh.{square_few, sum_next, vertices_of_ear}
use Rattle.shape.proofs.junction.count_vertices.Goals as goal

pub loop-k-init : goal.loop-k-init
unfolding sum_of
loop-k-init c = record { sum = refl; few = omega arith }

pub loop-k-preserved : goal.loop-k-preserved
loop-k-preserved c =
    let a = c.args in
    let l = c.loop-k in
    let n = c.ear_at-n.result.n in
    record {
      sum = rw (
        sum_next (ear_vertices a.step a.ears.ring.now a.ears.numbers.now) l.k,
        ← (vertices_of_ear a.step a.ears.ring.now a.ears.numbers.now l.k c.ear_at-n.result c.ear_at-n.ensures.0),
        ← l.invariant.sum,
      );
      few = omega (arith, square_few n c.ear_at-n.ensures.1);
    }

pub returns : goal.returns
unfolding vertex_count
returns c =
    let l = c.loop-k in
    let e : l.k ≡ length c.args.ears.numbers.now / 3 = omega arith in
    (rw e at l.invariant.sum, omega arith)
