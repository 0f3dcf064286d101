use Rattle.std.proofs.Common.{List, ℕ, subst}
use Rattle.std.specs.Prelude.{IsSomeAnd}
use Rattle.marc_stream.specs.Pieces.{items}
use Rattle.holdings_command.specs.Shelving.{IsShelved}
use Rattle.holdings_command.proofs.OnShelves.{there_more}
use Rattle.holdings_command.proofs.ready.prepare.Goals as goal

pub returns-in-Ok-ready_of-clause-ready : goal.returns-in-Ok-ready_of-clause-ready
returns-in-Ok-ready_of-clause-ready g c tells =
    there_more _ (λ bytes is.
    c.in-Ok-ready_of.ensures bytes (subst (λ (library : List ℕ). IsShelved library (items bytes) c.in-Ok-shelve_file.shelved) c.in-Ok.ensures is))
    (subst (λ n. IsSomeAnd ((g.R.Room.seen c.args.room.now).file n) (λ bytes. IsShelved c.in-Ok.code (items bytes) c.in-Ok-shelve_file.shelved))
    c.as_str.ensures (c.in-Ok-shelve_file.ensures.shelved tells))
