use Rattle.parts_commands.proofs.Copied.{not_copied}
use Rattle.parts_commands.proofs.appending.write_records.Goals as goal

pub returns-clause-other : goal.returns-clause-other
returns-clause-other g c = λ place is tells.
    not_copied c.args.piece.now.items c.args.last.now.items c.args.first c.args.export.now.coming place (c.copy_records.ensures.other place is tells)
