use Rattle.std.proofs.Common.{arith}
use Rattle.numbered_store.proofs.Shelving.{count_low}
use Rattle.numbered_store.proofs.shelf.Shelf.exchange.Goals as goal

pub recounted-self-inside-requires-clause-fits : goal.recounted-self-inside-requires-clause-fits
recounted-self-inside-requires-clause-fits c =
    omega (arith, c.self.invariant.1, count_low c.self.inside.keys c.self.inside.slots.items c.self.invariant.0, c.len-known.ensures.fits)
