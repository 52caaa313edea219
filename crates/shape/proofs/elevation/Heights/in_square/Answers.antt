-- `shape::elevation::Heights::in_square` meets its contract, by the corners. Assumes nothing.
use Rattle.std.proofs.Common.{◌≡◌, None, refl, ◌∙◌}
use Rattle.std.proofs.Math.IntN.{sub_ℕ}
use Rattle.shape.specs.declared.elevation.Line.{Line}
use Rattle.shape.specs.Elevation.{heights_of, square_of, in_square}
use Rattle.shape.proofs.Squares.{none_1, none_2, none_3, none_4, whole, square_is}
use Rattle.shape.proofs.elevation.Heights.in_square.Goals.{After-line_at-r}
use Rattle.shape.proofs.elevation.Heights.in_square.Goals as goal

-- where a corner is missing, whatever the lines beside the square
no_corner : (c : After-line_at-r) → ((p w : Line) → None ≡ square_of p c.line_at-q.result c.line_at-r.result w c.args.x c.args.y)
    → None ≡ in_square (heights_of c.args.self) (sub_ℕ c.args.i 2048) c.args.x (sub_ℕ c.args.j 2048) c.args.y
no_corner c e =
    let a = c.args in
    e _ _ ∙ square_is (heights_of a.self) a.i (sub_ℕ a.j 2048) a.x a.y c.requires.0 refl c.line_at-q.ensures c.line_at-r.ensures refl

pub returns-in_err-z00 : goal.returns-in_err-z00
returns-in_err-z00 c =
    rw c.from_residual.ensures
    (no_corner (goal.at.returns-in_err-z00 c).After-line_at-r (λ p w. none_1 p _ _ w _ _ c.in_err-z00.was))

pub returns-in_err-z01 : goal.returns-in_err-z01
returns-in_err-z01 c =
    rw c.from_residual-in_err-z01.ensures
    (no_corner (goal.at.returns-in_err-z01 c).After-line_at-r (λ p w. none_2 p _ _ w _ _ c.in_ok-z00.was c.in_err-z01.was))

pub returns-in_err-z10 : goal.returns-in_err-z10
returns-in_err-z10 c =
    rw c.from_residual-in_err-z10.ensures
    (no_corner (goal.at.returns-in_err-z10 c).After-line_at-r
    (λ p w. none_3 p _ _ w _ _ c.in_ok-z00.was c.in_ok-z01.was c.in_err-z10.was))

pub returns-in_err-z11 : goal.returns-in_err-z11
returns-in_err-z11 c =
    rw c.from_residual-in_err-z11.ensures
    (no_corner (goal.at.returns-in_err-z11 c).After-line_at-r
    (λ p w. none_4 p _ _ w _ _ c.in_ok-z00.was c.in_ok-z01.was c.in_ok-z10.was c.in_err-z11.was))

pub returns : goal.returns
returns c =
    let a = c.args in
    rw (c.terms.ensures, c.coefficients.ensures, c.frame-f.ensures)
    (whole _ _ _ _ _ _ c.in_ok-z00.was c.in_ok-z01.was c.in_ok-z10.was c.in_ok-z11.was
    ∙ square_is (heights_of a.self) a.i (sub_ℕ a.j 2048) a.x a.y c.requires.0 c.line_at-p.ensures c.line_at-q.ensures c.line_at-r.ensures
    c.line_at-w.ensures)
