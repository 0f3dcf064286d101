use Rattle.std.proofs.Common.{Ok, Err, refl}
use Rattle.migrate_command.proofs.Endings.{migrates_done, migrates_unwritten, migrates_told}
use Rattle.migrate_command.proofs.command.migrate_journal.Goals as goal

pub returns-in-Ok-write_numbered-clause-ends : goal.returns-in-Ok-write_numbered-clause-ends
returns-in-Ok-write_numbered-clause-ends g c =
    migrates_done c.args.from.now c.args.into.now _ (Ok c.in-Ok.count) c.in-Ok.ensures.over c.in-Ok.count refl refl c.in-Ok-write_numbered.ensures.line

pub returns-in-Err-write_numbered-clause-ends : goal.returns-in-Err-write_numbered-clause-ends
returns-in-Err-write_numbered-clause-ends g c =
    migrates_unwritten c.args.from.now c.args.into.now _ (Ok c.in-Ok.count) c.in-Ok.ensures.over c.in-Ok.count refl refl c.write_numbered.ensures.front c.in-Err-write_numbered.ensures.cause.failed

pub returns-in-Err-clause-ends : goal.returns-in-Err-clause-ends
returns-in-Err-clause-ends g c =
    migrates_told c.args.from.now c.args.into.now _ (Err c.in-Err.fault) c.in-Err.ensures.over c.in-Err.fault refl c.tell.ensures.end c.tell.ensures.told
