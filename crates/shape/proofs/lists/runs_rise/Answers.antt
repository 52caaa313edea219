-- `shape::lists::runs_rise` meets its contract: where the pass is left, a run is ragged. Assumes nothing.
use Rattle.std.proofs.Common.{◌/◌, length, sym, refl, ◌∙◌, arith}
use borrow.Author.Tests.{lt-leb}
use Rattle.shape.specs.Lists.{word_of}
use Rattle.shape.proofs.Rising.{none, last_none, turn, vertices_back, vertices_turned, indices_back, indices_turned, vertices_past, all_told}
use Rattle.shape.proofs.lists.runs_rise.Goals.{then-a-vertex-via-then-a-vertex, then-a-vertex-via-else-a-vertex+then-b-a, then-a-vertex-via-else-a-vertex+else-b-a+then-c-index, then-a-vertex-via-else-a-vertex+else-b-a+else-c-index+then-d-c}
use Rattle.shape.proofs.lists.runs_rise.Goals as goal

pub loop-i-init : goal.loop-i-init
loop-i-init c = let ss = c.args.spans.now in (sym (last_none ss 1), sym (last_none ss 3), none ss 1, none ss 3)

pub returns-then-a-vertex : goal.returns-then-a-vertex
unfolding word_of
returns-then-a-vertex c =
    let a = c.args in
    let l = c.loop-i in
    let m = length a.spans.now / 5 in
    elim c.then-a-vertex.branch [
      | then-a-vertex-via-then-a-vertex w ↦ vertices_back a.spans.now a.n a.k m l.i (omega arith) refl l.invariant.0 w.if-a-vertex.true
      | then-a-vertex-via-else-a-vertex+then-b-a w ↦ vertices_turned a.spans.now a.n a.k m l.i (omega arith) refl refl w.if-b-a.true
      | then-a-vertex-via-else-a-vertex+else-b-a+then-c-index w ↦ indices_back a.spans.now a.n a.k m l.i (omega arith) refl l.invariant.1 w.if-c-index.true
      | then-a-vertex-via-else-a-vertex+else-b-a+else-c-index+then-d-c w ↦ indices_turned a.spans.now a.n a.k m l.i (omega arith) refl refl w.if-d-c.true
    ]

pub loop-i-preserved : goal.loop-i-preserved
unfolding word_of
loop-i-preserved c =
    let ss = c.args.spans.now in
    let l = c.loop-i in
    let v = turn ss 1 l.i refl refl l.invariant.0 c.if-a-vertex.false c.if-b-a.false l.invariant.2 in
    let w = turn ss 3 l.i refl refl l.invariant.1 c.if-c-index.false c.if-d-c.false l.invariant.3 in
    (v.0, w.0, v.1, w.1)

pub returns-then-vertex-n : goal.returns-then-vertex-n
returns-then-vertex-n c =
    let a = c.args in
    let l = c.loop-i in
    all_told a.spans.now a.n a.k (length a.spans.now / 5) (omega arith) l.invariant.0 l.invariant.1 l.invariant.2 l.invariant.3 c.if-vertex-n.true

pub returns-else-vertex-n : goal.returns-else-vertex-n
returns-else-vertex-n c =
    let a = c.args in
    let l = c.loop-i in
    lt-leb l.vertex a.n c.if-vertex-n.false ∙ vertices_past a.spans.now a.n a.k (length a.spans.now / 5) (omega arith) l.invariant.0 c.if-vertex-n.false
