use Rattle.std.proofs.Common.{subst}
use Rattle.output_files.specs.Outputs.{IsOutputLeft}
use Rattle.archive_commands.proofs.list.write_headings.Goals as goal

pub returns-in-Ok-clause-left : goal.returns-in-Ok-clause-left
returns-in-Ok-clause-left g c told =
    let seen = g.R.Room.seen in
    subst (IsOutputLeft (seen c.args.room.now) (seen c.write_document.new.room) c.args.out.now) c.in-Ok.ensures (c.write_document.ensures.left told)
