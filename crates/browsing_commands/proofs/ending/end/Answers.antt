use Rattle.std.proofs.Common.{ap, ◌∙◌}
use Rattle.outside.proofs.Rooms.{same_but_itself, same_but_first}
use Rattle.loading_commands.specs.Runs.{NotLoaded}
use Rattle.loading_commands.proofs.Ended.{closed_load}
use Rattle.browsing_commands.proofs.Outcomes.{browses_failed}
use Rattle.browsing_commands.proofs.ending.end.Goals as goal

pub end_whole-requires-clause-free : goal.end_whole-requires-clause-free
end_whole-requires-clause-free g c κs within name = ap (λ before. (g.R.Room.seen before).open_as name) c.in-Ok.ensures.before ∙ c.requires.waiting.free name

pub returns-in-Err-clause-closed : goal.returns-in-Err-clause-closed
returns-in-Err-clause-closed g c =
    closed_load _ _ _ _ c.requires.waiting.free (same_but_itself _ _) c.finish.ensures.apart c.in-Err.ensures.failed.closed

pub returns-in-Err-clause-apart : goal.returns-in-Err-clause-apart
returns-in-Err-clause-apart g c = same_but_first _ _ _ _ c.finish.ensures.apart

pub returns-in-Err-clause-ends : goal.returns-in-Err-clause-ends
returns-in-Err-clause-ends g c =
    let f = c.in-Err.ensures.failed in
    browses_failed _ _ _ _ _ _ c.in-Err.fault c.tell.ensures.end c.tell.ensures.told c.finish.ensures.apart (record {
      closed = f.closed;
      because = λ tells. NotLoaded (f.because tells);
      device = f.device;
      input = f.input;
      no_usage = f.no_usage;
      no_other_history = f.no_other_history;
    })
