use Rattle.std.proofs.Common.{[], ◌∷◌, ap, subst}
use Rattle.std.specs.Option.{option_copied}
use Rattle.outside.specs.Room.{IsNoneOf}
use Rattle.command_words.specs.Command.{libraries_of}
use Rattle.command_words.specs.declared.library.Library.{Library}
use Rattle.command_words.specs.declared.asked.AloneRequest.TheVariants.{Held}
use Rattle.console_lines.specs.Ends.{Outcome, outcome}
use Rattle.archive_commands.specs.Reads.{EndsReading}
use Rattle.worklist_command.specs.Working.{EndsListing}
use Rattle.holdings_command.specs.Attaching.{AttachesHoldings, EndsAttaching}
use Rattle.union_top.proofs.Asked.{asked_as, carries, only, of_only}
use Rattle.union_top.proofs.journals.look_at_journal.Goals as goal

pub write_from_journal-requires-clause-differ : goal.write_from_journal-requires-clause-differ
write_from_journal-requires-clause-differ g c κs within =
    (c.names_are_apart.ensures.names _ (asked_as c.args.words.now (Held c.args.look) c.requires.asks (ap Held c.in-Export.is)).command).1.0

pub write_from_journal-requires-in-Report-clause-differ : goal.write_from_journal-requires-in-Report-clause-differ
write_from_journal-requires-in-Report-clause-differ g c κs within =
    (c.names_are_apart.ensures.names _ (asked_as c.args.words.now (Held c.args.look) c.requires.asks (ap Held c.in-Report.is)).command).1.0

pub write_matches-requires-clause-differ : goal.write_matches-requires-clause-differ
write_matches-requires-clause-differ g c κs within =
    (c.names_are_apart.ensures.names _ (asked_as c.args.words.now (Held c.args.look) c.requires.asks (ap Held c.in-Matches.is)).command).1.0

pub list_headings-requires-clause-differ : goal.list_headings-requires-clause-differ
list_headings-requires-clause-differ g c κs within =
    (c.names_are_apart.ensures.names _ (asked_as c.args.words.now (Held c.args.look) c.requires.asks (ap Held c.in-Headings.is)).command).1.0

pub attach_holdings-requires-clause-names : goal.attach_holdings-requires-clause-names
attach_holdings-requires-clause-names g c κs within =
    c.names_are_apart.ensures.names _ (asked_as c.args.words.now (Held c.args.look) c.requires.asks (ap Held c.in-Holdings.is)).command

pub attach_holdings-requires-clause-file : goal.attach_holdings-requires-clause-file
attach_holdings-requires-clause-file g c κs within =
    let asks = asked_as c.args.words.now (Held c.args.look) c.requires.asks (ap Held c.in-Holdings.is) in
    let names = c.in-Holdings.wanted.journal.now ∷ c.in-Holdings.wanted.out.now ∷ c.in-Holdings.wanted.rest.now ∷ [] in
    of_only (λ (l : Library). IsNoneOf l.file names) c.in-Holdings.wanted.library (libraries_of c.args.words.now) asks.libraries
    (c.names_are_apart.ensures.files _ asks.command)

pub make_worklist-requires-clause-names : goal.make_worklist-requires-clause-names
make_worklist-requires-clause-names g c κs within =
    c.names_are_apart.ensures.names _ (asked_as c.args.words.now (Held c.args.look) c.requires.asks (ap Held c.in-Worklist.is)).command

pub returns-in-Worklist : goal.returns-in-Worklist
returns-in-Worklist g c =
    let did = c.make_worklist.ensures in
    carries c.args.words.now (Held c.args.look) (ap Held c.in-Worklist.is) did.closed did.apart did.ends (λ usage. subst EndsListing usage did.ends.ends)

pub returns-in-Export : goal.returns-in-Export
returns-in-Export g c =
    let did = c.write_from_journal.ensures in
    carries c.args.words.now (Held c.args.look) (ap Held c.in-Export.is) did.closed did.apart did.ends (λ usage. subst EndsReading usage did.ends.ends)

pub returns-in-Report : goal.returns-in-Report
returns-in-Report g c =
    let did = c.write_from_journal-in-Report.ensures in
    carries c.args.words.now (Held c.args.look) (ap Held c.in-Report.is) did.closed did.apart did.ends (λ usage. subst EndsReading usage did.ends.ends)

pub returns-in-Matches : goal.returns-in-Matches
returns-in-Matches g c =
    let did = c.write_matches.ensures in
    carries c.args.words.now (Held c.args.look) (ap Held c.in-Matches.is) did.closed did.apart did.ends (λ usage. subst EndsReading usage did.ends.ends)

pub returns-in-Headings : goal.returns-in-Headings
returns-in-Headings g c =
    let did = c.list_headings.ensures in
    carries c.args.words.now (Held c.args.look) (ap Held c.in-Headings.is) did.closed did.apart did.ends (λ usage. subst EndsReading usage did.ends.ends)

pub returns-in-Holdings : goal.returns-in-Holdings
returns-in-Holdings g c =
    let o : Outcome = outcome g.R.Room.seen g.R.Out.Sink.written g.R.Out.Sink.faults c.args.room.now c.attach_holdings.new.room c.args.console.now c.attach_holdings.new.console c.attach_holdings.result in
    let did = c.attach_holdings.ensures in
    let asks = asked_as c.args.words.now (Held c.args.look) c.requires.asks (ap Held c.in-Holdings.is) in
    carries c.args.words.now (Held c.args.look) (ap Held c.in-Holdings.is) did.closed did.apart
    (λ library is.
    subst (λ (l : Library). AttachesHoldings c.in-Holdings.wanted.journal.now c.in-Holdings.wanted.out.now c.in-Holdings.wanted.rest.now l (option_copied c.in-Holdings.wanted.code) o)
    (only library c.in-Holdings.wanted.library _ asks.libraries is) did.ends)
    (λ usage. subst EndsAttaching usage did.ends.ends)
