-- `shape::ears::cut_all` meets its contract: an ear more, none, or the last three. Assumes nothing.
use Rattle.std.proofs.Common.{◌≡◌, ℕ, ◌-◌, ◌≤◌, List, ◌++◌, length, take, drop, sym, refl, ◌∙◌, arith, length-take-le}
use Rattle.std.specs.Prelude.{Float}
use Rattle.std.proofs.Math.Seq.{take-length}
use Rattle.std.proofs.lemmas.List.{take_all, take-append-le}
use Rattle.shape.specs.EarSteps.{Cut}
use Rattle.shape.proofs.Laws.Ears.{cut_nothing, cut_stop, cut_more, cut_finish}
use Rattle.shape.proofs.ears.cut_all.Goals as goal

-- an ear cut from a list at the front of another is cut from that
cut_front : (ring : List Float) {n at next : ℕ} {left now ears ears' : List ℕ} → n ≤ length left → length now ≡ n
    → Cut ring (length (take n left)) (take n left) now ears ears' at next → Cut ring n left (now ++ drop n left) ears ears' at next
cut_front ring {n} {at} {next} {left} {now} {ears} {ears'} h k d =
    let l : length (take n left) ≡ n = length-take-le n left h in
    let t : take n (take n left) ≡ take n left = take_all n (take n left) (omega arith) in
    let f : Cut ring n (take n left) now ears ears' at next = rw l at d in
    record { ear = rw t at f.ear; rest = λ e. take-append-le (n - 1) now (drop n left) (omega arith) ∙ rw t at (f.rest (rw t e)) }

pub returns-in_default : goal.returns-in_default
returns-in_default c =
    let ring = c.args.ring.now in
    let l = c.loop-n in
    let n = l.n - 1 in
    let i = l.invariant.0 in
    let none = c.in_default.ensures in
    let first = length-take-le n l.left i.fits in
    let cut = cut_nothing ring n l.at n l.left (sym (none.0 ∙ first)) l.ears refl in
    rw none.1 (rw (take-length c.args.left.now) at (cut_stop ring i cut (omega arith) refl))

pub loop-n-preserved : goal.loop-n-preserved
loop-n-preserved c =
    let ring = c.args.ring.now in
    let l = c.loop-n in
    let i = l.invariant.0 in
    let some = c.in-Some.ensures in
    let first = length-take-le (l.n - 1) l.left i.fits in
    let cut = cut_front ring i.fits (c.cut_ear.auto.left ∙ first) some.1 in
    (cut_more ring i cut (omega arith) (λ e. omega (arith, some.0)) (omega arith), omega arith)

pub returns : goal.returns
returns c =
    let l = c.loop-n in
    let i = l.invariant.0 in
    let e : c.min-n.result ≡ l.n - 1 = omega (arith, i.few) in
    rw (take-length c.args.left.now) at (cut_finish c.args.ring.now i (omega arith) (rw e at c.put_last.ensures))
