use Rattle.std.proofs.Common.{subst}
use Rattle.outside.proofs.Rooms.{same_but_itself}
use Rattle.console_lines.specs.Ends.{TellsNoFault}
use Rattle.loading_commands.specs.Outcomes.{NotBegun}
use Rattle.loading_commands.proofs.Ended.{closed_load}
use Rattle.loading_commands.proofs.Requests.{apart_as_asked, loading_failed}
use Rattle.loading_commands.proofs.loading.begin.Goals as goal

pub returns-in-Err-clause-told : goal.returns-in-Err-clause-told
returns-in-Err-clause-told g c untold = subst TellsNoFault c.tell.ensures.end untold

pub returns-in-Err-clause-closed : goal.returns-in-Err-clause-closed
returns-in-Err-clause-closed g c =
    closed_load _ _ _ _ c.requires.free (same_but_itself _ _) c.in-Err.ensures.apart c.in-Err.ensures.failed.closed

pub returns-in-Err-clause-apart : goal.returns-in-Err-clause-apart
returns-in-Err-clause-apart g c = apart_as_asked c.args.asked _ _ c.in-Err.ensures.apart

pub returns-in-Err-clause-ends : goal.returns-in-Err-clause-ends
returns-in-Err-clause-ends g c =
    let f = c.in-Err.ensures.failed in
    loading_failed c.args.asked _ c.in-Err.fault c.requires.proper c.tell.ensures.end c.tell.ensures.told c.in-Err.ensures.apart (record {
      closed = f.closed;
      because = λ tells. NotBegun (f.because tells);
      device = f.device;
      input = f.input;
      no_usage = f.no_usage;
      no_other_history = f.no_other_history;
    })
