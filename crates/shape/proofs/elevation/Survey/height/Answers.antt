-- `shape::elevation::Survey::height` meets its contract: coordinates within the grid are within its limits. Assumes nothing.
use Rattle.std.proofs.Common.{◌≡◌, sym, ◌∙◌, arith, rules}
use Rattle.shape.specs.Elevation.{heights_of, on_grid, coords_of, height_of}
use Rattle.shape.proofs.Squares.{on_grid_is, row_near, column_near}
use Rattle.shape.proofs.elevation.Survey.height.Goals as goal

pub place_of-requires : goal.place_of-requires
place_of-requires c = row_near _ _ (omega arith) (sym c.is_within.ensures ∙ c.if-not-is_within.false)

pub place_of-requires-2 : goal.place_of-requires-2
place_of-requires-2 c = column_near _ _ c.args.self.limits.narrow (sym c.is_within-else-not-is_within.ensures ∙ c.if-not-is_within-2.false)

pub returns : goal.returns
unfolding height_of coords_of
returns c =
    let z = heights_of c.args.self.heights in
    let e : c.on_grid.result ≡ on_grid z c.snap-u.result c.snap-v.result =
    c.on_grid.ensures ∙ on_grid_is z _ _ _ _ c.place_of.ensures c.place_of-2.ensures
    in
    rw e (search rules)
