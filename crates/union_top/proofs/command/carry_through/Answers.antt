use Rattle.std.proofs.Common.{◌≡◌, sym, subst, ◌∙◌}
use Rattle.command_words.specs.Asked.{AsksFor}
use Rattle.command_words.specs.declared.asked.Request.TheVariants.{Load}
use Rattle.console_lines.specs.Ends.{outcome}
use Rattle.union_top.specs.Carried.{AreCarriedOut}
use Rattle.union_top.specs.Complete.{around}
use Rattle.union_top.proofs.Asked.{now_asked}
use Rattle.union_top.proofs.command.carry_through.Goals as goal

pub end-requires-clause-waiting : goal.end-requires-clause-waiting
end-requires-clause-waiting g c κs within = c.load-loaded.ensures.waiting c.begin.new.room c.in-Loading.ensures.waiting

pub returns-in-Loading-clause-carried : goal.returns-in-Loading-clause-carried
returns-in-Loading-clause-carried g c =
    let seen = g.R.Room.seen in
    let written = g.R.Out.Sink.written in
    let faults = g.R.Out.Sink.faults in
    let loaded = c.load-loaded.result in
    let asks = subst (λ asked. AsksFor c.args.words.now (Load asked)) (sym c.load-loaded.ensures.asked) c.in-Loading.ensures.asks in
    let before : loaded.before.value ≡ c.args.room.now = c.load-loaded.ensures.before ∙ c.in-Loading.ensures.before in
    let did = c.end.ensures.carried c.args.words.now asks in
    subst (λ console. AreCarriedOut c.args.words.now c.end.result
    (around seen written faults c.args.room.now c.end.new.room console c.end.new.console)
    (outcome seen written faults c.args.room.now c.end.new.room console c.end.new.console)) c.in-Loading.ensures.silent
    (subst (λ room. AreCarriedOut c.args.words.now c.end.result
    (around seen written faults room c.end.new.room c.begin.new.console c.end.new.console)
    (outcome seen written faults room c.end.new.room c.begin.new.console c.end.new.console)) before did)

pub end_browsing-requires-clause-waiting : goal.end_browsing-requires-clause-waiting
end_browsing-requires-clause-waiting g c κs within = c.load-browsed.ensures.waiting c.begin.new.room c.in-Browsing.ensures.browsing_waiting

pub returns-in-Browsing-clause-carried : goal.returns-in-Browsing-clause-carried
returns-in-Browsing-clause-carried g c =
    let seen = g.R.Room.seen in
    let written = g.R.Out.Sink.written in
    let faults = g.R.Out.Sink.faults in
    let browsed = c.load-browsed.result in
    let asks = now_asked c.args.words.now _ _ _ _ _ _ c.in-Browsing.ensures.asks_to_browse c.load-browsed.ensures.asked c.load-browsed.ensures.outputs c.load-browsed.ensures.pages in
    let before : browsed.loaded.before.value ≡ c.args.room.now = c.load-browsed.ensures.before ∙ c.in-Browsing.ensures.browsing_before in
    let did = c.end_browsing.ensures.carried c.args.words.now asks in
    subst (λ console. AreCarriedOut c.args.words.now c.end_browsing.result
    (around seen written faults c.args.room.now c.end_browsing.new.room console c.end_browsing.new.console)
    (outcome seen written faults c.args.room.now c.end_browsing.new.room console c.end_browsing.new.console)) c.in-Browsing.ensures.browsing_silent
    (subst (λ room. AreCarriedOut c.args.words.now c.end_browsing.result
    (around seen written faults room c.end_browsing.new.room c.begin.new.console c.end_browsing.new.console)
    (outcome seen written faults room c.end_browsing.new.room c.begin.new.console c.end_browsing.new.console)) before did)
