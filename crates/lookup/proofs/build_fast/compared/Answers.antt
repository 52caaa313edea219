-- `lookup::build_fast::compared` meets its contract. Assumes nothing.
use Rattle.lookup.proofs.Picking.{compares}
use Rattle.lookup.proofs.build_fast.compared.Goals as goal

pub returns : goal.returns
returns c p q =
    compares c.args.t.a c.args.t.b c.args.t.c _ _ _ _ _ _ _ _ c.lower.ensures c.lower-2.ensures
    c.lower-3.ensures c.lower-4.ensures c.upper.ensures c.upper-2.ensures
    c.upper-3.ensures c.upper-4.ensures p q
