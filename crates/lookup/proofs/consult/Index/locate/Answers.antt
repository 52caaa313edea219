-- `lookup::consult::Index::locate` meets its contract: the cell, then its run. Assumes nothing.
use Rattle.std.proofs.Common.{sym, refl, ◌∙◌, subst}
use Rattle.shape.specs.Refusal.{Answer}
use Rattle.lookup.specs.Consult.{Candidates, run_of, cell_at}
use Rattle.lookup.specs.Steps.{Started}
use Rattle.lookup.proofs.Laws.Heads.{cell_none, cell_is, cell_small, consult_out, consult_in}
use Rattle.lookup.proofs.Fronts.{sided_some}
use Rattle.lookup.proofs.consult.Index.locate.Goals as goal

pub returns-in_default : goal.returns-in_default
unfolding Started
returns-in_default c =
    let h = c.args.self.ready in
    consult_out _ _ _ _ h.sound (sided_some _ h.sided) (cell_none _ _ _ (sym c.in_default.is ∙ c.cell.ensures))

pub run-requires : goal.run-requires
run-requires c =
    let k = cell_is _ _ _ _ (sym c.in-Some.is ∙ c.cell.ensures) in
    rw k.1 (cell_small _ _ _ c.args.self.ready.sided)

pub returns : goal.returns
returns c =
    let s = c.args.self in
    let k = cell_is _ _ _ _ (sym c.in-Some.is ∙ c.cell.ensures) in
    subst (λ (q : Answer Candidates). Started s.words.now s.count q c.run.result)
    (consult_in _ _ _ _ s.ready.sound (sided_some _ s.ready.sided) k.0 (run_of s.words.now s.count (cell_at s.words.now c.args.x c.args.y)) refl)
    (rw (← k.1) c.run.ensures)
