use Rattle.std.proofs.Common.{List, ℕ, refl, subst}
use Rattle.console_lines.specs.Ends.{TellsResult, outcome, out_unwritten}
use Rattle.split_command.specs.Written.{IsStopped}
use Rattle.split_command.proofs.Ended.{splits_written, splits_unwritten}
use Rattle.split_command.proofs.splitting.split.Goals as goal

pub returns-in-Ok-clause-ends : goal.returns-in-Ok-clause-ends
returns-in-Ok-clause-ends g c =
    splits_written c.args.parts c.args.prefix.now c.args.libraries.now
    (outcome g.R.Room.seen g.R.Out.Sink.written g.R.Out.Sink.faults c.args.room.now c.split_files.new.room c.args.console.now c.tell_result.new.console c.tell_result.result)
    c.in-Ok.told c.in-Ok.ensures.written
    (subst (λ (text : List ℕ). TellsResult g.R.Out.Sink.written g.R.Out.Sink.faults c.args.console.now c.tell_result.new.console text c.in-Ok.told.has_refused c.tell_result.result)
    c.as_str.ensures.value c.tell_result.ensures)

pub returns-in-Err-Output-clause-ends : goal.returns-in-Err-Output-clause-ends
returns-in-Err-Output-clause-ends g c =
    splits_unwritten c.args.parts c.args.prefix.now c.args.libraries.now
    (outcome g.R.Room.seen g.R.Out.Sink.written g.R.Out.Sink.faults c.args.room.now c.split_files.new.room c.args.console.now c.args.console.now out_unwritten)
    (subst (IsStopped c.args.parts c.args.prefix.now c.args.libraries.now (g.R.Room.seen c.args.room.now) (g.R.Room.seen c.split_files.new.room))
    c.in-Err-Output.field-0-is c.in-Err-Output.ensures.stopped)
    refl (refl, refl)
