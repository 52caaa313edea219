-- What is written is the text of the input's front.
use Rattle.std.proofs.Common.{List, ℕ, ◌≤◌, ◌<◌, length, take, rules, subst}
use Rattle.std.specs.Io.KnownBytes.{Appends, Consumes, IsAtEnd}
use Rattle.surface.specs.Report.{report_of}
use Rattle.probe.proofs.Front.{at_front, text_front, of_value, on_ok}
use Rattle.probe.proofs.run.Goals as goal

pub returns-clause-printed : goal.returns-clause-printed
returns-clause-printed g c =
    let printed : List ℕ → Type 0 = Appends (g.W.Write.contents c.args.output.now) (g.W.Write.contents c.write_all.new.self) in
    let before = g.R.Read.remaining c.args.input.now in
    let after = g.R.Read.remaining c.read_input.new.input in
    let bytes = c.read_input.new.bytes in
    let read = of_value _ c.read_input.result c.map_err.result c.in_ok-n.n in
    let within = read (λ n. n ≤ length bytes) c.map_err.ensures.cases c.in_ok-n.was c.read_input.ensures.within in
    let taken = read (λ n. Consumes before after (take n bytes)) c.map_err.ensures.cases c.in_ok-n.was c.read_input.ensures.taken in
    let ended = read (λ n. n < length bytes → IsAtEnd after) c.map_err.ensures.cases c.in_ok-n.was c.read_input.ensures.ended in
    on_ok _ c.write_all.result c.map_err-2.result _ _
    (λ h. at_front 65537 bytes c.in_ok-n.n (search rules) within before after (λ bs. printed (report_of bs)) taken ended
    (subst printed (text_front _ _ _ _ c.probe-m.ensures.value c.probe-m.ensures.text_after) h))
    c.map_err-2.ensures.cases c.write_all.ensures.bytes
