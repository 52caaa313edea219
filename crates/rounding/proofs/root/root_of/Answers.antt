-- `rounding::root::root_of` meets its contract: what it works out is `proofs/RootScaled.antt`, and the law of it `proofs/RootLaw.antt`. Assumes nothing.
use Rattle.rounding.proofs.RootScaled.{sized, enough, radicand, answer}
use Rattle.rounding.proofs.root.root_of.Goals as goal

pub overflow_sub-z-2 : goal.overflow_sub-z-2
overflow_sub-z-2 g c =
    let z = sized g.met.T.Binary.laid_out c.DIGITS-p.ensures c.EMAX-e.ensures in
    enough _ _ c.args.m c.args.k z.within c.requires.m_some (rw z.digits at c.requires.m_bound) (rw z.largest at c.requires.k_bound)

pub root_digits-r-requires : goal.root_digits-r-requires
root_digits-r-requires g c =
    let z = sized g.met.T.Binary.laid_out c.DIGITS-p.ensures c.EMAX-e.ensures in
    rw (← c.DIGITS-p.ensures)
    (radicand _ _ c.args.m c.args.k z.within c.requires.m_some (rw z.digits at c.requires.m_bound) (rw z.largest at c.requires.k_bound)
    (record { format = g.T.Binary.format; digits = z.digits; largest = z.largest }))

pub returns : goal.returns
returns g c =
    let z = sized g.met.T.Binary.laid_out c.DIGITS-p.ensures c.EMAX-e.ensures in
    answer _ _ c.args.m c.args.k z.within c.requires.m_some (rw z.digits at c.requires.m_bound) (rw z.largest at c.requires.k_bound)
    c.root_digits-r.result (rw (← c.DIGITS-p.ensures) at c.root_digits-r.ensures) g.T.Binary.format z.digits z.largest
