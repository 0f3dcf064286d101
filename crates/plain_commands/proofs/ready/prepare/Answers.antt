use Rattle.std.proofs.Common.{List, ℕ, subst}
use Rattle.std.specs.Prelude.{IsSomeAnd}
use Rattle.marc_stream.specs.Pieces.{items}
use Rattle.plain_commands.specs.Loading.{IsLoaded}
use Rattle.plain_commands.proofs.There.{there_more}
use Rattle.plain_commands.proofs.ready.prepare.Goals as goal

pub returns-in-Ok-ready_of-clause-ready : goal.returns-in-Ok-ready_of-clause-ready
returns-in-Ok-ready_of-clause-ready g c tells =
    there_more _ (λ bytes is.
    c.in-Ok-ready_of.ensures _ bytes (subst (λ (library : List ℕ). IsLoaded c.args.limits library (items bytes) c.in-Ok-load_file.loaded) c.in-Ok.ensures is))
    (subst (λ n. IsSomeAnd ((g.R.Room.seen c.args.room.now).file n) (λ bytes. IsLoaded c.args.limits c.in-Ok.code (items bytes) c.in-Ok-load_file.loaded))
    c.as_str.ensures (c.in-Ok-load_file.ensures.loaded tells))
