-- `shape::elevation::height` meets its contract: a fault of the lists is told as it is found. Assumes nothing.
use Rattle.std.proofs.Common.{◌≡◌, ℕ, length, sym, Result, Ok, Err, MatchResult, arith, rules}
use Rattle.shape.specs.declared.elevation.GridFault.{GridFault}
use Rattle.shape.specs.declared.elevation.Survey.{Survey}
use Rattle.shape.specs.declared.refusal.Refusal.{Refusal}
use Rattle.shape.specs.Elevation.{height_answer}
use Rattle.shape.specs.ElevationSteps.{refusal_of}
use Rattle.shape.proofs.Surveys.{says_fault}
use Rattle.shape.proofs.elevation.height.Goals as goal

-- the fault that is found, with what is known of it
found_fault : (s : Result Survey GridFault) (f : Refusal) (Q : GridFault → Type 0) (P : Survey → Type 0) (R : GridFault → Type 0)
    → MatchResult s (λ x. ◌≡◌ {A = Result Survey Refusal} (Err f) (Ok x)) Q → MatchResult s P R → (Z : Type 0) → ((e : GridFault) → Q e → R e → Z) → Z
found_fault (Ok x) f Q P R g h Z k = absurd (let z : ◌≡◌ {A = ℕ} 0 1 = cc in omega arith)
found_fault (Err e) f Q P R g h Z k = k e g h

pub returns-in_err-survey : goal.returns-in_err-survey
unfolding height_answer
returns-in_err-survey c =
    let h = c.args.heights in
    let f = c.in_err-survey.field-0.0 in
    let is : c.from_residual.result ≡ Err f = search rules in
    rw is (found_fault c.survey.result f _ _ _ c.in_err-survey.ensures.cases c.survey.ensures _ (λ e q t.
    let same : f ≡ refusal_of e 0 = search (rules, q) in
    rw same (says_fault h.rows.now (length h.left.now) (length h.right.now) e _ (sym t))))
