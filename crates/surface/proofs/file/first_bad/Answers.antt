-- `surface::file::first_bad` meets its contract: no record before the one looked at is bad. Assumes nothing.
use Rattle.std.specs.Prelude.{◌≡◌, Some, None}
use Rattle.std.proofs.Common.{◌∙◌, arith, rules}
use Rattle.surface.specs.Kind.{kind_from, number_before}
use Rattle.surface.specs.FileSteps.{sound_kind, record_in}
use Rattle.surface.proofs.Laws.Records.{passed_none, passed_sound, first_is, none_is}
use Rattle.surface.proofs.file.first_bad.Goals as goal

pub loop-k-init : goal.loop-k-init
unfolding number_before
loop-k-init g c = passed_none _ _

pub returns-in_default : goal.returns-in_default
returns-in_default g c =
    let form = g.R.Records.form in
    let bs = g.R.Records.bytes c.args.records in
    let ws = g.R.Records.held c.args.records in
    let l = c.loop-k in
    let z : kind_from (sound_kind form (record_in form bs ws l.k) (number_before l.last)) ≡ None = search rules in
    first_is form bs ws l.last l.k l.invariant (omega arith) z

pub loop-k-preserved : goal.loop-k-preserved
loop-k-preserved g c =
    let form = g.R.Records.form in
    let at = record_in form (g.R.Records.bytes c.args.records) (g.R.Records.held c.args.records) in
    let l = c.loop-k in
    let z : kind_from (sound_kind form (at l.k) (number_before l.last)) ≡ Some c.in-Some.kind = search rules in
    passed_sound form at l.last l.k l.invariant z

pub returns : goal.returns
returns g c =
    let form = g.R.Records.form in
    let bs = g.R.Records.bytes c.args.records in
    let ws = g.R.Records.held c.args.records in
    let e : c.loop-k.k ≡ c.whole-whole.result = omega arith in
    c.then_some.ensures ∙ rw (← e, c.count.ensures) (none_is form bs ws c.loop-k.last c.loop-k.k c.loop-k.invariant (omega arith))
