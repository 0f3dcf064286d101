use Rattle.std.proofs.Common.{refl}
use Rattle.command_words.specs.Asked.{browse_asked}
use Rattle.console_lines.specs.Ends.{Outcome, outcome}
use Rattle.console_lines.specs.declared.end.End.{End}
use Rattle.union_top.proofs.Asked.{proper_browse, browsing_carried}
use Rattle.union_top.proofs.Carried.{carried_out}
use Rattle.union_top.proofs.command.begin_browsing.Goals as goal

pub begin-requires-clause-proper : goal.begin-requires-clause-proper
begin-requires-clause-proper g c κs within =
    proper_browse c.args.words.now c.args.asked c.requires.asks c.files_are_named.ensures.count c.files_are_named.ensures.codes c.names_are_apart.ensures.names
    c.names_are_apart.ensures.files c.numbers_are_bounded.ensures

pub begin-requires-clause-names : goal.begin-requires-clause-names
begin-requires-clause-names g c κs within = c.names_are_apart.ensures.names (browse_asked c.args.asked) c.requires.asks.command

pub returns-in-Ok-clause-asks : goal.returns-in-Ok-clause-asks
returns-in-Ok-clause-asks g c = record {
  asked = c.args.asked;
  asks = c.requires.asks;
  loading_is = c.in-Ok.ensures.asked;
  outputs_are = c.in-Ok.ensures.outputs;
  pages_are = c.in-Ok.ensures.pages;
}

pub returns-in-Err-clause-closed : goal.returns-in-Err-clause-closed
returns-in-Err-clause-closed g c = c.in-Err.ensures.closed

pub returns-in-Err-clause-carried : goal.returns-in-Err-clause-carried
returns-in-Err-clause-carried g c =
    let o : (End → Outcome) = outcome g.R.Room.seen g.R.Out.Sink.written g.R.Out.Sink.faults c.args.room.now c.begin.new.room c.args.console.now c.begin.new.console in
    let did = c.in-Err.ensures in
    let end = c.in-Err.ended in
    carried_out c.args.words.now (browse_asked c.args.asked) o end _ c.status.ensures c.requires.asks.command
    (browsing_carried c.args.words.now c.args.asked (o end) c.requires.asks did.closed did.apart did.ends) refl (g.met.R.Room.promised c.begin.new.room)
