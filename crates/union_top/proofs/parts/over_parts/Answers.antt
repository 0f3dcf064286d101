use Rattle.std.proofs.Common.{◌∙◌, length, sym, ap, subst, arith}
use Rattle.std.specs.Prelude.{All, IsTrue}
use Rattle.marc_types.specs.Valid.{is_code}
use Rattle.outside.specs.Room.{SameBut}
use Rattle.command_words.specs.declared.asked.AloneRequest.TheVariants.{Parts}
use Rattle.command_words.specs.declared.library.Library.{Library}
use Rattle.console_lines.specs.Ends.{Outcome, outcome}
use Rattle.parts_commands.specs.Joining.{EndsJoining}
use Rattle.parts_commands.specs.Telling.{EndsTotals}
use Rattle.split_command.specs.Names.{split_names}
use Rattle.split_command.specs.Splitting.{EndsSplitting, Splits}
use Rattle.union_top.proofs.Asked.{asked_as, carries}
use Rattle.union_top.proofs.parts.over_parts.Goals as goal

pub returns-in-Totals : goal.returns-in-Totals
returns-in-Totals g c =
    let did = c.tell_totals.ensures in
    carries c.args.words.now (Parts c.args.asked) (ap Parts c.in-Totals.is) did.closed did.apart did.ends (λ usage. subst EndsTotals usage did.ends.ends)

pub join_exports-requires-clause-some : goal.join_exports-requires-clause-some
join_exports-requires-clause-some g c κs within =
    let some = (c.numbers_are_bounded.ensures _ (asked_as c.args.words.now (Parts c.args.asked) c.requires.asks (ap Parts c.in-Join.is)).command).0 in
    omega (arith, some)

pub join_exports-requires-clause-apart : goal.join_exports-requires-clause-apart
join_exports-requires-clause-apart g c κs within =
    (c.numbers_are_bounded.ensures _ (asked_as c.args.words.now (Parts c.args.asked) c.requires.asks (ap Parts c.in-Join.is)).command).1

pub returns-in-Join : goal.returns-in-Join
returns-in-Join g c =
    let did = c.join_exports.ensures in
    carries c.args.words.now (Parts c.args.asked) (ap Parts c.in-Join.is) did.closed did.apart did.ends (λ usage. subst EndsJoining usage did.ends.ends)

pub split-requires-clause-some : goal.split-requires-clause-some
split-requires-clause-some g c κs within =
    (c.numbers_are_bounded.ensures _ (asked_as c.args.words.now (Parts c.args.asked) c.requires.asks (ap Parts c.in-Split.is)).command).0

pub split-requires-clause-most : goal.split-requires-clause-most
split-requires-clause-most g c κs within =
    (c.numbers_are_bounded.ensures _ (asked_as c.args.words.now (Parts c.args.asked) c.requires.asks (ap Parts c.in-Split.is)).command).1

pub split-requires-clause-proper : goal.split-requires-clause-proper
split-requires-clause-proper g c κs within =
    let asks = asked_as c.args.words.now (Parts c.args.asked) c.requires.asks (ap Parts c.in-Split.is) in
    subst (All (λ (l : Library). IsTrue (is_code l.code))) (sym (c.as_slice.ensures ∙ asks.libraries)) c.files_are_named.ensures.codes

pub returns-in-Split : goal.returns-in-Split
returns-in-Split g c =
    let o : Outcome = outcome g.R.Room.seen g.R.Out.Sink.written g.R.Out.Sink.faults c.args.room.now c.split.new.room c.args.console.now c.split.new.console c.split.result in
    let did = c.split.ensures in
    let asks = asked_as c.args.words.now (Parts c.args.asked) c.requires.asks (ap Parts c.in-Split.is) in
    carries c.args.words.now (Parts c.args.asked) (ap Parts c.in-Split.is) did.closed
    (subst (λ libraries. SameBut o.old o.new (split_names c.in-Split.prefix.now c.in-Split.count (length libraries))) c.as_slice.ensures did.apart)
    (subst (λ libraries. Splits c.in-Split.count c.in-Split.prefix.now libraries o) (c.as_slice.ensures ∙ asks.libraries) did.ends)
    (λ usage. subst EndsSplitting usage did.ends.ends)
