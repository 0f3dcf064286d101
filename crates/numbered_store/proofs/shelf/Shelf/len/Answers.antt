use Rattle.std.proofs.Common.{◌∙◌, ap, length, arith}
use Rattle.numbered_store.proofs.Shelving.{count_low, count_rows}
use Rattle.numbered_store.proofs.shelf.Shelf.len.Goals as goal

pub returns-clause-count : goal.returns-clause-count
returns-clause-count c =
    c.self.invariant.1 ∙ count_rows c.self.inside.keys c.self.inside.slots.items c.self.invariant.0 ∙ ap (λ s. length s.rows) c.self.view_is

pub returns-clause-fits : goal.returns-clause-fits
returns-clause-fits c =
    omega (arith, c.self.invariant.1, count_low c.self.inside.keys c.self.inside.slots.items c.self.invariant.0, c.len-known.ensures.fits)
