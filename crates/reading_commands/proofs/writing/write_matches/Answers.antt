use Rattle.std.proofs.Common.{◌≡◌, true, Some, OnOk, subst}
use Rattle.output_files.specs.Outputs.{IsOutput}
use Rattle.archive_commands.proofs.Taken.{due_of_table}
use Rattle.reading_commands.proofs.writing.write_matches.Goals as goal

pub returns-clause-written : goal.returns-clause-written
returns-clause-written g c =
    let old = g.R.Room.seen c.args.room.now in
    let new = g.R.Room.seen c.write_table.new.room in
    let written = c.write_table.result in
    let taken = c.in_ok-taken.ensures.taken in
    let due = due_of_table c.in_ok-taken.taken.table taken.entries taken.taken in
    let w = c.write_table.ensures in
    record {
      entries = taken.entries;
      history = taken.history;
      within = taken.within;
      output = subst (λ bytes. IsOutput old new c.args.out.now bytes written) due (record { closed = w.closed; left = w.left; cause = w.cause });
      whole = subst (λ bytes. OnOk written (old.tells ≡ true → new.file c.args.out.now ≡ Some bytes)) due w.bytes;
      unbegun = w.memory;
    }
