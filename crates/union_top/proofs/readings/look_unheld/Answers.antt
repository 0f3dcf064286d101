use Rattle.std.proofs.Common.{ap, subst}
use Rattle.std.specs.Option.{option_copied}
use Rattle.command_words.specs.declared.library.Library.{Library}
use Rattle.command_words.specs.declared.asked.AloneRequest.TheVariants.{Unheld}
use Rattle.console_lines.specs.Ends.{Outcome, outcome}
use Rattle.reading_commands.specs.Looking.{EndsLooking}
use Rattle.reading_commands.specs.Unheld.{AttachesUnheld, EndsUnheld}
use Rattle.worklist_command.specs.Unheld.{EndsListingUnheld}
use Rattle.union_top.proofs.Asked.{asked_as, carries, only}
use Rattle.union_top.proofs.readings.look_unheld.Goals as goal

pub list_unheld-requires-clause-differ : goal.list_unheld-requires-clause-differ
list_unheld-requires-clause-differ g c κs within =
    (c.names_are_apart.ensures.names _ (asked_as c.args.words.now (Unheld c.args.asked) c.requires.asks (ap Unheld c.in-Worklist.is)).command).1.0

pub returns-in-Worklist : goal.returns-in-Worklist
returns-in-Worklist g c =
    let did = c.list_unheld.ensures in
    carries c.args.words.now (Unheld c.args.asked) (ap Unheld c.in-Worklist.is) did.closed did.apart did.ends (λ usage. subst EndsListingUnheld usage did.ends.ends)

pub attach_unheld-requires-clause-names : goal.attach_unheld-requires-clause-names
attach_unheld-requires-clause-names g c κs within =
    c.names_are_apart.ensures.names _ (asked_as c.args.words.now (Unheld c.args.asked) c.requires.asks (ap Unheld c.in-Holdings.is)).command

pub returns-in-Holdings : goal.returns-in-Holdings
returns-in-Holdings g c =
    let o : Outcome = outcome g.R.Room.seen g.R.Out.Sink.written g.R.Out.Sink.faults c.args.room.now c.attach_unheld.new.room c.args.console.now c.attach_unheld.new.console c.attach_unheld.result in
    let did = c.attach_unheld.ensures in
    let asks = asked_as c.args.words.now (Unheld c.args.asked) c.requires.asks (ap Unheld c.in-Holdings.is) in
    carries c.args.words.now (Unheld c.args.asked) (ap Unheld c.in-Holdings.is) did.closed did.apart
    (λ library is.
    subst (λ (l : Library). AttachesUnheld c.in-Holdings.wanted.journal.now c.in-Holdings.wanted.out.now c.in-Holdings.wanted.rest.now l (option_copied c.in-Holdings.wanted.code) o)
    (only library c.in-Holdings.wanted.library _ asks.libraries is) did.ends)
    (λ usage. subst EndsUnheld usage did.ends.ends)

pub returns-in-Read : goal.returns-in-Read
returns-in-Read g c =
    let did = c.look_into.ensures in
    carries c.args.words.now (Unheld c.args.asked) (ap Unheld c.in-Read.is) did.closed did.apart did.ends (λ usage. subst EndsLooking usage did.ends.ends)
