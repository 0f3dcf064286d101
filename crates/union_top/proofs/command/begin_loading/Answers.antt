use Rattle.std.proofs.Common.{refl, sym, subst}
use Rattle.command_words.specs.Asked.{load_asked, AsksFor}
use Rattle.command_words.specs.declared.asked.Request.TheVariants.{Load}
use Rattle.console_lines.specs.Ends.{Outcome, outcome}
use Rattle.console_lines.specs.declared.end.End.{End}
use Rattle.union_top.proofs.Asked.{proper, loading_carried}
use Rattle.union_top.proofs.Carried.{carried_out}
use Rattle.union_top.proofs.command.begin_loading.Goals as goal

pub begin-requires-clause-proper : goal.begin-requires-clause-proper
begin-requires-clause-proper g c κs within =
    proper c.args.words.now c.args.asked c.requires.asks c.files_are_named.ensures.count c.files_are_named.ensures.codes c.names_are_apart.ensures.names
    c.names_are_apart.ensures.files c.numbers_are_bounded.ensures

pub returns-in-Ok-clause-asks : goal.returns-in-Ok-clause-asks
returns-in-Ok-clause-asks g c = subst (λ asked. AsksFor c.args.words.now (Load asked)) (sym c.in-Ok.ensures.asked) c.requires.asks

pub returns-in-Err-clause-closed : goal.returns-in-Err-clause-closed
returns-in-Err-clause-closed g c = c.in-Err.ensures.closed

pub returns-in-Err-clause-carried : goal.returns-in-Err-clause-carried
returns-in-Err-clause-carried g c =
    let o : (End → Outcome) = outcome g.R.Room.seen g.R.Out.Sink.written g.R.Out.Sink.faults c.args.room.now c.begin.new.room c.args.console.now c.begin.new.console in
    let did = c.in-Err.ensures in
    let end = c.in-Err.end in
    carried_out c.args.words.now (load_asked c.args.asked) o end _ c.status.ensures c.requires.asks.command
    (loading_carried c.args.words.now c.args.asked (o end) c.requires.asks did.closed did.apart did.ends) refl (g.met.R.Room.promised c.begin.new.room)
