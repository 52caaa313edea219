-- `lookup::frame::Grid::most_of` meets its contract: each triangle is in no more columns than `across`, and in no more rows than `along`. Assumes nothing.
use Rattle.std.proofs.Common.{◌+◌, ◌*◌, ◌≤◌, arith}
use Rattle.lookup.specs.Steps.{Reaches, UpTo}
use Rattle.lookup.proofs.Reach.{entries_few, sides_few, most_few}
use Rattle.lookup.proofs.frame.Grid.most_of.Goals as goal

across : (c : goal.After-reach_of-along) → let f = c.args.self.frame in Reaches f.min_x f.cell f.cols (UpTo c.args.sides.width) c.reach_of-across.result
across c = let e = c.columns.ensures in rw (← e.0, ← e.1, ← e.2) c.reach_of-across.ensures

along : (c : goal.After-reach_of-along) → let f = c.args.self.frame in Reaches f.min_y f.cell f.rows (UpTo c.args.sides.height) c.reach_of-along.result
along c = let e = c.rows.ensures in rw (← e.0, ← e.1, ← e.2) c.reach_of-along.ensures

few : (c : goal.After-reach_of-along) → (c.reach_of-across.result + 1) * (c.reach_of-along.result + 1) ≤ 1048576
few c = let p = c.args.self.framed in sides_few (across c).1 p.few_cols (along c).1 p.few_rows

all : (c : goal.After-reach_of-along) → (c.reach_of-across.result + 1) * (c.reach_of-along.result + 1) * c.args.n ≤ 68719476736
all c = most_few (few c) c.requires.few

pub overflow_mul-result : goal.overflow_mul-result
overflow_mul-result c = omega (arith, few c)

pub overflow_mul-result-2 : goal.overflow_mul-result-2
overflow_mul-result-2 c = omega (arith, all c)

pub returns : goal.returns
returns c =
    let a = c.args in
    (λ vs is h. entries_few a.self.frame a.sides.width a.sides.height _ _ (across c) (along c) a.self.framed vs is a.n h, all c)
