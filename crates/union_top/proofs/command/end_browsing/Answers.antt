use Rattle.std.proofs.Common.{refl}
use Rattle.command_words.specs.Asked.{browse_asked}
use Rattle.console_lines.specs.Ends.{Outcome, outcome}
use Rattle.console_lines.specs.declared.end.End.{End}
use Rattle.union_top.proofs.Asked.{browsed_as}
use Rattle.union_top.proofs.Carried.{carried_out}
use Rattle.union_top.proofs.command.end_browsing.Goals as goal

pub returns-clause-carried : goal.returns-clause-carried
returns-clause-carried g c words asks =
    let o : (End → Outcome) = outcome g.R.Room.seen g.R.Out.Sink.written g.R.Out.Sink.faults c.args.browsed.loaded.before.value c.end.new.room c.args.console.now c.end.new.console in
    let did = c.end.ensures in
    carried_out words (browse_asked asks.asked) o c.end.result _ c.status.ensures asks.asks.command
    (browsed_as words _ _ _ asks (o c.end.result) did.closed did.apart did.ends) refl
    (g.met.R.Room.promised c.end.new.room)
