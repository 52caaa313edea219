-- `lookup::batch::tops` meets its contract where the index's first words tell what comes. Assumes nothing.
use Rattle.std.proofs.Common.{◌≡◌, ◌*◌, ◌/◌, ◌%◌, ◌≤◌, length, sym, refl, rules, arith, Err}
use Rattle.std.proofs.lemmas.Grind.{common_steps}
use Rattle.shape.specs.Lists.{lists_of}
use Rattle.shape.specs.Refusal.{taken, found, refuse, told}
use Rattle.lookup.specs.Sampler.{miss}
use Rattle.lookup.specs.Batch.{records_of, points_in}
use Rattle.lookup.proofs.Answers.{nothing}
use Rattle.lookup.proofs.Fronts.{open_is, empty_is, opened_fine, head_is}
use Rattle.lookup.proofs.Batches.{all_same, zeros_front, count_refused, said_foreign, said_rest, said_all}
use Rattle.lookup.proofs.batch.tops.Goals as goal

pub returns-in_err-opened : goal.returns-in_err-opened
unfolding found refuse told
returns-in_err-opened c =
    let h : c.from_residual-in_err-opened.result ≡ Err c.in_err-opened.field-0.0 = search rules in
    let even : length c.args.points.now % 2 ≡ 0 = grind (arith, common_steps) in
    let p = said_foreign (lists_of c.args.mesh) c.args.index.now c.args.points.now c.args.answers.now (sym c.in_ok-top_fault.ensures) even
    (head_is _ _ (rw c.triangles.ensures at c.open.ensures) c.in_err-opened.was) in
    record { result_value = rw h p.0; answers_after = p.1 }

pub returns-in_err-refuse_if-2-clause-result_value : goal.returns-in_err-refuse_if-2-clause-result_value
unfolding found refuse told
returns-in_err-refuse_if-2-clause-result_value c =
    let m = lists_of c.args.mesh in
    let ps = c.args.points.now in
    let old = c.args.answers.now in
    let h : c.from_residual-in_err-refuse_if-2.result ≡ Err c.in_err-refuse_if-2.field-0.0 = search rules in
    let even : length ps % 2 ≡ 0 = grind (arith, common_steps) in
    rw h (said_rest m c.args.index.now ps old (sym c.in_ok-top_fault.ensures) even (opened_fine _ _ (rw c.triangles.ensures at c.open.ensures) c.in_ok-opened.was) refl
    (count_refused ps old (records_of m c.args.index.now ps) c.in_err-refuse_if-2.ensures)).0

pub invariant_of-put_points : goal.invariant_of-put_points
unfolding found
invariant_of-put_points c =
    let o = open_is _ _ (rw c.triangles.ensures at c.open.ensures) (rw c.in-Some.is at c.in_ok-opened.was) in
    record { in_order = rw o.0 (sym c.in_ok-top_fault.ensures); counted = o.1 }

pub returns-in-Some : goal.returns-in-Some
unfolding found refuse told
returns-in-Some c =
    let ps = c.args.points.now in
    let old = c.args.answers.now in
    let even : length ps % 2 ≡ 0 = grind (arith, common_steps) in
    let room : 8 * (length ps / 2) ≤ length old = grind (arith, common_steps) in
    let o = open_is _ _ (rw c.triangles.ensures at c.open.ensures) (rw c.in-Some.is at c.in_ok-opened.was) in
    let p = said_all (lists_of c.args.mesh) c.args.index.now ps old (sym c.in_ok-top_fault.ensures) even o.2.sound refl room (rw o.0 at c.put_points.ensures) in
    record { result_value = p.0; answers_after = p.1 }

pub returns-in-None : goal.returns-in-None
unfolding found refuse told
returns-in-None c =
    let m = lists_of c.args.mesh in
    let ps = c.args.points.now in
    let old = c.args.answers.now in
    let even : length ps % 2 ≡ 0 = grind (arith, common_steps) in
    let room : 8 * (length ps / 2) ≤ length old = grind (arith, common_steps) in
    let e = empty_is _ _ (rw c.triangles.ensures at c.open.ensures) (rw c.in-None.is at c.in_ok-opened.was) in
    let same = all_same m c.args.index.now ps (taken miss) (λ x y. nothing m c.args.index.now x y (sym c.in_ok-top_fault.ensures) (e.1 x y)) in
    let p = said_all m c.args.index.now ps old (sym c.in_ok-top_fault.ensures) even e.0 same room (zeros_front (points_in ps) old room (c.fill.ensures.after (λ y z. z))) in
    record { result_value = p.0; answers_after = p.1 }
