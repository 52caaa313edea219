-- `shape::elevation::Heights::on_grid` meets its contract, by the rows that are tried. Assumes nothing.
use Rattle.std.proofs.Common.{◌≡◌, None, sym, ◌∙◌, arith, rules}
use Rattle.shape.proofs.Squares.{tried_below}
use Rattle.shape.proofs.elevation.Heights.on_grid.Goals as goal

pub returns-then-row : goal.returns-then-row
returns-then-row c =
    let none : c.in_row-above.result ≡ None = search rules in
    tried_below _ c.args.row.line _ (omega arith) c.if-row.true (sym c.in_row-above.ensures ∙ none) c.in_row.ensures
