use Rattle.std.proofs.Common.{[], ◌∷◌, sym, subst}
use Rattle.std.specs.Prelude.{IsTrue}
use Rattle.marc_types.specs.Valid.{is_code}
use Rattle.outside.proofs.Rooms.{same_but_itself, same_but_more}
use Rattle.command_words.specs.Asked.{alone_asked}
use Rattle.command_words.specs.Command.{libraries_of}
use Rattle.command_words.specs.declared.library.Library.{Library}
use Rattle.console_lines.specs.Ends.{Outcome, outcome}
use Rattle.console_lines.specs.declared.fault.Fault.TheVariants as fault
use Rattle.plain_commands.specs.Making.{EndsMaking}
use Rattle.plain_commands.specs.Passing.{Passes}
use Rattle.plain_commands.specs.GivingBack.{GivesBack}
use Rattle.journal_verification.specs.Verifying.{EndsVerifying}
use Rattle.journal_verification.specs.Comparing.{EndsVerifyingDigest}
use Rattle.migrate_command.specs.Migrates.{EndsMigrating}
use Rattle.salvage_command.specs.Salvages.{EndsSalvaging}
use Rattle.program_help.specs.Telling.{EndsTelling}
use Rattle.union_top.specs.Commands.{CarriesOut}
use Rattle.union_top.proofs.Asked.{asked_as, carries, only, of_only}
use Rattle.union_top.proofs.asked_alone.carry_out.Goals as goal

pub pass-requires-clause-proper : goal.pass-requires-clause-proper
pass-requires-clause-proper g c κs within =
    let asks = asked_as c.args.words.now c.args.asked c.requires.asks c.in-Pass.is in
    of_only (λ (l : Library). IsTrue (is_code l.code)) c.in-Pass.library (libraries_of c.args.words.now) asks.libraries c.files_are_named.ensures.codes

pub make-requires-clause-few : goal.make-requires-clause-few
make-requires-clause-few g c κs within =
    c.numbers_are_bounded.ensures _ (asked_as c.args.words.now c.args.asked c.requires.asks c.in-Make.is).command

pub migrate_journal-requires-clause-differ : goal.migrate_journal-requires-clause-differ
migrate_journal-requires-clause-differ g c κs within =
    (c.names_are_apart.ensures.names _ (asked_as c.args.words.now c.args.asked c.requires.asks c.in-Migrate.is).command).1.0

pub salvage_journal-requires-clause-differ : goal.salvage_journal-requires-clause-differ
salvage_journal-requires-clause-differ g c κs within =
    (c.names_are_apart.ensures.names _ (asked_as c.args.words.now c.args.asked c.requires.asks c.in-Salvage.is).command).1.0

pub returns-in-Pass : goal.returns-in-Pass
returns-in-Pass g c =
    let o : Outcome = outcome g.R.Room.seen g.R.Out.Sink.written g.R.Out.Sink.faults c.args.room.now c.pass.new.room c.args.console.now c.pass.new.console c.pass.result in
    let did = c.pass.ensures in
    let asks = asked_as c.args.words.now c.args.asked c.requires.asks c.in-Pass.is in
    carries c.args.words.now c.args.asked c.in-Pass.is did.closed did.apart
    (λ library is. subst (λ (l : Library). Passes l c.in-Pass.out.now o) (only library c.in-Pass.library _ asks.libraries is) did.ends)
    (λ usage. (did.ends.told fault.Usage usage).1)

pub returns-in-Make : goal.returns-in-Make
returns-in-Make g c =
    let did = c.make.ensures in
    carries c.args.words.now c.args.asked c.in-Make.is did.closed did.apart did.ends (λ usage. let no = subst EndsMaking usage did.ends.ends in cc)

pub returns-in-Verify : goal.returns-in-Verify
returns-in-Verify g c =
    let did = c.verify.ensures in
    carries c.args.words.now c.args.asked c.in-Verify.is did.closed did.apart did.ends (λ usage. subst EndsVerifying usage did.ends.ends)

pub returns-in-VerifyDigest : goal.returns-in-VerifyDigest
returns-in-VerifyDigest g c =
    let did = c.verify_digest.ensures in
    carries c.args.words.now c.args.asked c.in-VerifyDigest.is did.closed did.apart did.ends (λ usage. subst EndsVerifyingDigest usage did.ends.ends)

pub returns-in-Salvage : goal.returns-in-Salvage
returns-in-Salvage g c =
    let did = c.salvage_journal.ensures in
    carries c.args.words.now c.args.asked c.in-Salvage.is did.closed (same_but_more _ _ (c.in-Salvage.new.now ∷ []) (c.in-Salvage.journal.now ∷ c.in-Salvage.new.now ∷ []) (λ n other. other.1) did.apart) did.ends (λ usage. subst EndsSalvaging usage did.ends.ends)

pub give_back-requires-clause-proper : goal.give_back-requires-clause-proper
give_back-requires-clause-proper g c κs within =
    let asks = asked_as c.args.words.now c.args.asked c.requires.asks c.in-Refused.is in
    of_only (λ (l : Library). IsTrue (is_code l.code)) c.in-Refused.library (libraries_of c.args.words.now) asks.libraries c.files_are_named.ensures.codes

pub returns-in-Refused : goal.returns-in-Refused
returns-in-Refused g c =
    let o : Outcome = outcome g.R.Room.seen g.R.Out.Sink.written g.R.Out.Sink.faults c.args.room.now c.give_back.new.room c.args.console.now c.give_back.new.console c.give_back.result in
    let did = c.give_back.ensures in
    let asks = asked_as c.args.words.now c.args.asked c.requires.asks c.in-Refused.is in
    carries c.args.words.now c.args.asked c.in-Refused.is did.closed did.apart
    (λ library is. subst (λ (l : Library). GivesBack l c.in-Refused.out.now o) (only library c.in-Refused.library _ asks.libraries is) did.ends)
    (λ usage. (did.ends.told fault.Usage usage).1)

pub returns-in-Migrate : goal.returns-in-Migrate
returns-in-Migrate g c =
    let did = c.migrate_journal.ensures in
    carries c.args.words.now c.args.asked c.in-Migrate.is did.closed did.apart did.ends (λ usage. subst EndsMigrating usage did.ends.ends)

pub returns-in-Help : goal.returns-in-Help
returns-in-Help g c =
    carries c.args.words.now c.args.asked c.in-Help.is c.requires.closed (same_but_itself _ []) c.help.ensures (λ usage. subst EndsTelling usage c.help.ensures.ends)

pub returns-in-Version : goal.returns-in-Version
returns-in-Version g c =
    carries c.args.words.now c.args.asked c.in-Version.is c.requires.closed (same_but_itself _ []) c.version.ensures (λ usage. subst EndsTelling usage c.version.ensures.ends)

pub look_at_journal-requires-clause-asks : goal.look_at_journal-requires-clause-asks
look_at_journal-requires-clause-asks g c κs within = asked_as c.args.words.now c.args.asked c.requires.asks c.in-Held.is

pub returns-in-Held : goal.returns-in-Held
returns-in-Held g c =
    let o : Outcome = outcome g.R.Room.seen g.R.Out.Sink.written g.R.Out.Sink.faults c.args.room.now c.look_at_journal.new.room c.args.console.now c.look_at_journal.new.console c.look_at_journal.result in
    subst (λ r. CarriesOut c.args.words.now (alone_asked r) o) (sym c.in-Held.is) c.look_at_journal.ensures

pub over_point-requires-clause-asks : goal.over_point-requires-clause-asks
over_point-requires-clause-asks g c κs within = asked_as c.args.words.now c.args.asked c.requires.asks c.in-Point.is

pub returns-in-Point : goal.returns-in-Point
returns-in-Point g c =
    let o : Outcome = outcome g.R.Room.seen g.R.Out.Sink.written g.R.Out.Sink.faults c.args.room.now c.over_point.new.room c.args.console.now c.over_point.new.console c.over_point.result in
    subst (λ r. CarriesOut c.args.words.now (alone_asked r) o) (sym c.in-Point.is) c.over_point.ensures

pub look_unheld-requires-clause-asks : goal.look_unheld-requires-clause-asks
look_unheld-requires-clause-asks g c κs within = asked_as c.args.words.now c.args.asked c.requires.asks c.in-Unheld.is

pub returns-in-Unheld : goal.returns-in-Unheld
returns-in-Unheld g c =
    let o : Outcome = outcome g.R.Room.seen g.R.Out.Sink.written g.R.Out.Sink.faults c.args.room.now c.look_unheld.new.room c.args.console.now c.look_unheld.new.console c.look_unheld.result in
    subst (λ r. CarriesOut c.args.words.now (alone_asked r) o) (sym c.in-Unheld.is) c.look_unheld.ensures

pub over_parts-requires-clause-asks : goal.over_parts-requires-clause-asks
over_parts-requires-clause-asks g c κs within = asked_as c.args.words.now c.args.asked c.requires.asks c.in-Parts.is

pub returns-in-Parts : goal.returns-in-Parts
returns-in-Parts g c =
    let o : Outcome = outcome g.R.Room.seen g.R.Out.Sink.written g.R.Out.Sink.faults c.args.room.now c.over_parts.new.room c.args.console.now c.over_parts.new.console c.over_parts.result in
    subst (λ r. CarriesOut c.args.words.now (alone_asked r) o) (sym c.in-Parts.is) c.over_parts.ensures
