-- `lookup::lane::Spans::past` meets its contract: ten halves leave one span, if there are spans. Assumes nothing.
use Rattle.std.proofs.Common.{◌≡◌, ◌+◌, ◌≤◌, refl, arith}
use Rattle.shape.specs.Lists.{word_of}
use Rattle.lookup.proofs.Search.{ended, one_left, ten, ten_none, place_or_none, moved_within}
use Rattle.lookup.proofs.lane.Spans.past.Goals as goal

pub returns-then-e-lt1 : goal.returns-then-e-lt1
returns-then-e-lt1 c =
    let p = c.half-e in
    let n = ten_none c.half.ensures.size_value c.half-a.ensures.size_value c.half-2.ensures.size_value c.half-b.ensures.size_value c.half-3.ensures.size_value
    c.half-c.ensures.size_value c.half-4.ensures.size_value c.half-d.ensures.size_value c.half-5.ensures.size_value p.ensures.size_value c.if-e-lt1.true in
    let e = ended _ _ _ p.result.low (p.result.low + p.result.size) p.ensures.halved_again (omega (arith, c.if-e-lt1.true)) in
    omega (arith, n, e, p.ensures.halved_again.within)

pub returns : goal.returns
unfolding word_of
returns c =
    let p = c.half-e in
    let f : p.result.size ≤ 1 =
    ten (omega (arith, c.args.self.few)) c.half.ensures.size_value c.half-a.ensures.size_value c.half-2.ensures.size_value c.half-b.ensures.size_value
    c.half-3.ensures.size_value c.half-c.ensures.size_value c.half-4.ensures.size_value c.half-d.ensures.size_value c.half-5.ensures.size_value
    p.ensures.size_value in
    let s : p.result.size ≡ 1 = omega (arith, f, c.if-e-lt1.false) in
    place_or_none c.then_some.ensures
    (one_left c.args.self.words.now c.args.i _ p.result.low p.result.size _ c.moved-k.result c.args.self.rise p.ensures.halved_again s refl c.moved-k.ensures)
    (moved_within _ _ _ _ c.moved-k.ensures (omega (arith, p.ensures.halved_again.within, s)))
