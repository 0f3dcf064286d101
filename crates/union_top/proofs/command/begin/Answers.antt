use Rattle.std.proofs.Common.{◌≡◌, ◌∙◌, ℕ, List, Result, Ok, Err, IfOk, IfErr, refl, ap, subst}
use Rattle.command_words.specs.Command.{command_of}
use Rattle.command_words.specs.Asked.{alone_asked, AsksFor, IsUnasked}
use Rattle.command_words.specs.declared.asked.Request.{Request}
use Rattle.command_words.specs.declared.asked.Request.TheVariants.{Alone, Load, Browse}
use Rattle.command_words.specs.declared.asked.Unasked.{Unasked}
use Rattle.console_lines.specs.Ends.{Outcome, outcome}
use Rattle.console_lines.specs.declared.end.End.{End}
use Rattle.union_top.proofs.Carried.{carried_out, unasked_carried}
use Rattle.union_top.proofs.Either.{no_loading, no_browsing}
use Rattle.union_top.proofs.command.begin.Goals as goal

-- what is asked for where there is a request, and why there is none
asks_for : (words : List (List ℕ)) (asked : Result Request Unasked) (request : Request) → asked ≡ Ok request → IfOk asked (AsksFor words) → AsksFor words request
asks_for words asked request is asks = subst (λ r. IfOk r (AsksFor words)) is asks

is_unasked : (words : List (List ℕ)) (asked : Result Request Unasked) (why : Unasked) → asked ≡ Err why → IfErr asked (λ w. IsUnasked w (command_of words))
    → IsUnasked why (command_of words)
is_unasked words asked why is unasked = subst (λ r. IfErr r (λ w. IsUnasked w (command_of words))) is unasked

pub carry_out-requires-clause-asks : goal.carry_out-requires-clause-asks
carry_out-requires-clause-asks g c κs within =
    asks_for c.args.words.now c.args.asked (Alone c.in-Ok-Alone.asked) (c.in-Ok-Alone.is ∙ ap Ok c.in-Ok-Alone.field-0-is) c.requires.asked

pub returns-in-Ok-Alone-clause-closed : goal.returns-in-Ok-Alone-clause-closed
returns-in-Ok-Alone-clause-closed g c = c.carry_out.ensures.closed

pub returns-in-Ok-Alone-clause-carried : goal.returns-in-Ok-Alone-clause-carried
returns-in-Ok-Alone-clause-carried g c =
    let o : (End → Outcome) = outcome g.R.Room.seen g.R.Out.Sink.written g.R.Out.Sink.faults c.args.room.now c.carry_out.new.room c.args.console.now c.carry_out.new.console in
    let asks = asks_for c.args.words.now c.args.asked (Alone c.in-Ok-Alone.asked) (c.in-Ok-Alone.is ∙ ap Ok c.in-Ok-Alone.field-0-is) c.requires.asked in
    carried_out c.args.words.now (alone_asked c.in-Ok-Alone.asked) o c.carry_out.result _ c.status.ensures asks.command c.carry_out.ensures refl
    (g.met.R.Room.promised c.carry_out.new.room)

pub begin_loading-requires-clause-asks : goal.begin_loading-requires-clause-asks
begin_loading-requires-clause-asks g c κs within =
    asks_for c.args.words.now c.args.asked (Load c.in-Ok-Load.asked) (c.in-Ok-Load.is ∙ ap Ok c.in-Ok-Load.field-0-is) c.requires.asked

pub begin_browsing-requires-clause-asks : goal.begin_browsing-requires-clause-asks
begin_browsing-requires-clause-asks g c κs within =
    asks_for c.args.words.now c.args.asked (Browse c.in-Ok-Browse.asked) (c.in-Ok-Browse.is ∙ ap Ok c.in-Ok-Browse.field-0-is) c.requires.asked

pub returns-in-Err-clause-closed : goal.returns-in-Err-clause-closed
returns-in-Err-clause-closed g c = c.requires.closed

pub returns-in-Err-clause-carried : goal.returns-in-Err-clause-carried
returns-in-Err-clause-carried g c =
    let written = g.R.Out.Sink.written in
    let faults = g.R.Out.Sink.faults in
    unasked_carried (g.R.Room.seen c.args.room.now) (written c.args.console.now) (written c.tell.new.console) (faults c.args.console.now) (faults c.tell.new.console)
    c.args.words.now c.in-Err.why c.fault_of.result c.tell.result _ c.status-in-Err.ensures
    (is_unasked c.args.words.now c.args.asked c.in-Err.why c.in-Err.is c.requires.unasked) c.fault_of.ensures c.tell.ensures.end c.tell.ensures.told
    c.requires.closed (g.met.R.Room.promised c.args.room.now)

pub returns-in-Ok-Load-clause-asks_to_browse : goal.returns-in-Ok-Load-clause-asks_to_browse
returns-in-Ok-Load-clause-asks_to_browse g c = no_browsing _ _ c.begin_loading.ensures.browsing

pub returns-in-Ok-Load-clause-browsing_before : goal.returns-in-Ok-Load-clause-browsing_before
returns-in-Ok-Load-clause-browsing_before g c = no_browsing _ _ c.begin_loading.ensures.browsing

pub returns-in-Ok-Load-clause-browsing_begun : goal.returns-in-Ok-Load-clause-browsing_begun
returns-in-Ok-Load-clause-browsing_begun g c = no_browsing _ _ c.begin_loading.ensures.browsing

pub returns-in-Ok-Load-clause-browsing_waiting : goal.returns-in-Ok-Load-clause-browsing_waiting
returns-in-Ok-Load-clause-browsing_waiting g c = no_browsing _ _ c.begin_loading.ensures.browsing

pub returns-in-Ok-Load-clause-browsing_silent : goal.returns-in-Ok-Load-clause-browsing_silent
returns-in-Ok-Load-clause-browsing_silent g c = no_browsing _ _ c.begin_loading.ensures.browsing

pub returns-in-Ok-Browse-clause-asks : goal.returns-in-Ok-Browse-clause-asks
returns-in-Ok-Browse-clause-asks g c = no_loading _ _ c.begin_browsing.ensures.loading

pub returns-in-Ok-Browse-clause-before : goal.returns-in-Ok-Browse-clause-before
returns-in-Ok-Browse-clause-before g c = no_loading _ _ c.begin_browsing.ensures.loading

pub returns-in-Ok-Browse-clause-begun : goal.returns-in-Ok-Browse-clause-begun
returns-in-Ok-Browse-clause-begun g c = no_loading _ _ c.begin_browsing.ensures.loading

pub returns-in-Ok-Browse-clause-waiting : goal.returns-in-Ok-Browse-clause-waiting
returns-in-Ok-Browse-clause-waiting g c = no_loading _ _ c.begin_browsing.ensures.loading

pub returns-in-Ok-Browse-clause-silent : goal.returns-in-Ok-Browse-clause-silent
returns-in-Ok-Browse-clause-silent g c = no_loading _ _ c.begin_browsing.ensures.loading

pub returns-in-Ok-Load-clause-browsing_names : goal.returns-in-Ok-Load-clause-browsing_names
returns-in-Ok-Load-clause-browsing_names g c = no_browsing _ _ c.begin_loading.ensures.browsing
