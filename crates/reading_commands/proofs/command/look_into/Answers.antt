use Rattle.reading_commands.proofs.Endings.{looks_output, looks_untaken}
use Rattle.reading_commands.proofs.command.look_into.Goals as goal

-- the journal's bytes are not taken
pub returns-in-Err-write_look-clause-ends : goal.returns-in-Err-write_look-clause-ends
returns-in-Err-write_look-clause-ends g c =
    let because = c.in-Err-write_look.ensures in
    let t = c.tell-in-Err-write_look.ensures in
    looks_untaken _ _ _ _ c.limits_of-limits.result (g.R.Room.seen c.read_file.new.room) c.in-Ok.bytes.items c.in-Err-write_look.fault _ c.fault_of_look.ensures
    t.end t.told because.current c.read_file.ensures.stays because.unbegun c.in-Ok.ensures.bytes because.unopened c.limits_of-limits.ensures

-- the output was written, or could not be
pub returns-in-Ok-write_look-clause-ends : goal.returns-in-Ok-write_look-clause-ends
returns-in-Ok-write_look-clause-ends g c =
    let e = c.end_of_output.ensures in
    looks_output _ _ _ _ c.limits_of-limits.result (g.R.Room.seen c.read_file.new.room) c.in-Ok.bytes.items c.limits_of-limits.ensures c.read_file.ensures.stays
    c.in-Ok.ensures.bytes c.in-Ok-write_look.written c.in-Ok-write_look.ensures.written e.done e.failed e.memory e.told e.silent
