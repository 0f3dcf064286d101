use Rattle.std.proofs.Common.{[], ◌∷◌, ap, subst, sym, ◌∙◌}
use Rattle.outside.specs.Room.{SameBut}
use Rattle.outside.proofs.Rooms.{same_but_itself}
use Rattle.command_words.specs.Command.{names_of, AreNames}
use Rattle.command_words.specs.Asked.{load_asked}
use Rattle.console_lines.specs.Ends.{outcome}
use Rattle.loading_commands.specs.Loading.{EndsLoading}
use Rattle.loading_commands.proofs.Ended.{closed_load}
use Rattle.loading_commands.proofs.Requests.{names_with, apart_as_asked, apart_as_run, loading_failed, ends_load, ends_run}
use Rattle.loading_commands.proofs.loading.end.Goals as goal

pub returns-in-Err-clause-closed : goal.returns-in-Err-clause-closed
returns-in-Err-clause-closed g c =
    closed_load _ _ _ _ c.requires.waiting.free (same_but_itself _ _) c.finish.ensures.apart c.in-Err.ensures.failed.closed

pub returns-in-Err-clause-apart : goal.returns-in-Err-clause-apart
returns-in-Err-clause-apart g c = apart_as_asked c.args.loaded.asked _ _ c.finish.ensures.apart

pub returns-in-Err-clause-ends : goal.returns-in-Err-clause-ends
returns-in-Err-clause-ends g c =
    loading_failed c.args.loaded.asked _ c.in-Err.fault c.requires.read.reads.begun.proper c.tell.ensures.end c.tell.ensures.told c.finish.ensures.apart
    c.in-Err.ensures.failed

pub end_load-requires-clause-free : goal.end_load-requires-clause-free
end_load-requires-clause-free g c κs within name = ap (λ before. (g.R.Room.seen before).open_as name) c.in-Ok.ensures.before ∙ c.requires.waiting.free name

pub end_load-requires-clause-apart : goal.end_load-requires-clause-apart
end_load-requires-clause-apart g c κs within =
    let seen = g.R.Room.seen in
    let now = seen c.finish.new.room in
    subst (λ asked. SameBut (seen c.in-Ok.loaded.before.value) now (asked.journal.now ∷ [])) (sym c.in-Ok.ensures.asked)
    (subst (λ before. SameBut (seen before) now (c.args.loaded.asked.journal.now ∷ [])) (sym c.in-Ok.ensures.before) c.finish.ensures.apart)

pub end_run-requires-clause-free : goal.end_run-requires-clause-free
end_run-requires-clause-free g c κs within name = ap (λ before. (g.R.Room.seen before).open_as name) c.in-Ok.ensures.before ∙ c.requires.waiting.free name

pub end_run-requires-clause-apart : goal.end_run-requires-clause-apart
end_run-requires-clause-apart g c κs within =
    let seen = g.R.Room.seen in
    let now = seen c.finish.new.room in
    subst (λ asked. SameBut (seen c.in-Ok.loaded.before.value) now (asked.journal.now ∷ [])) (sym c.in-Ok.ensures.asked)
    (subst (λ before. SameBut (seen before) now (c.args.loaded.asked.journal.now ∷ [])) (sym c.in-Ok.ensures.before) c.finish.ensures.apart)

pub end_run-requires-clause-names : goal.end_run-requires-clause-names
end_run-requires-clause-names g c κs within =
    let names = subst (λ asked. AreNames (names_of (load_asked asked))) (sym c.in-Ok.ensures.asked) c.requires.read.reads.begun.proper.names in
    subst AreNames (names_with c.in-Ok.loaded.asked _ c.in-Some.is) names

pub returns-in-None-clause-apart : goal.returns-in-None-clause-apart
returns-in-None-clause-apart g c =
    let seen = g.R.Room.seen in
    let now = seen c.end_load.new.room in
    subst (λ asked. SameBut (seen c.args.loaded.before.value) now (names_of (load_asked asked))) c.in-Ok.ensures.asked
    (subst (λ before. SameBut (seen before) now (names_of (load_asked c.in-Ok.loaded.asked))) c.in-Ok.ensures.before
    (apart_as_asked c.in-Ok.loaded.asked _ _ c.end_load.ensures.apart))

pub returns-in-None-clause-ends : goal.returns-in-None-clause-ends
returns-in-None-clause-ends g c =
    let seen = g.R.Room.seen in
    let written = g.R.Out.Sink.written in
    let faults = g.R.Out.Sink.faults in
    let room = c.end_load.new.room in
    let told = c.args.console.now in
    let now = c.end_load.new.console in
    subst (λ asked. EndsLoading asked (outcome seen written faults c.args.loaded.before.value room told now c.end_load.result)) c.in-Ok.ensures.asked
    (subst (λ before. EndsLoading c.in-Ok.loaded.asked (outcome seen written faults before room told now c.end_load.result)) c.in-Ok.ensures.before
    (ends_load c.in-Ok.loaded.asked _ c.in-None.is c.end_load.ensures.ends))

pub returns-in-Some-clause-apart : goal.returns-in-Some-clause-apart
returns-in-Some-clause-apart g c =
    let seen = g.R.Room.seen in
    let now = seen c.end_run.new.room in
    subst (λ asked. SameBut (seen c.args.loaded.before.value) now (names_of (load_asked asked))) c.in-Ok.ensures.asked
    (subst (λ before. SameBut (seen before) now (names_of (load_asked c.in-Ok.loaded.asked))) c.in-Ok.ensures.before
    (apart_as_run c.in-Ok.loaded.asked _ c.in-Some.is _ _ c.end_run.ensures.apart))

pub returns-in-Some-clause-ends : goal.returns-in-Some-clause-ends
returns-in-Some-clause-ends g c =
    let seen = g.R.Room.seen in
    let written = g.R.Out.Sink.written in
    let faults = g.R.Out.Sink.faults in
    let room = c.end_run.new.room in
    let told = c.args.console.now in
    let now = c.end_run.new.console in
    subst (λ asked. EndsLoading asked (outcome seen written faults c.args.loaded.before.value room told now c.end_run.result)) c.in-Ok.ensures.asked
    (subst (λ before. EndsLoading c.in-Ok.loaded.asked (outcome seen written faults before room told now c.end_run.result)) c.in-Ok.ensures.before
    (ends_run c.in-Ok.loaded.asked _ _ c.in-Some.is c.end_run.ensures.ends))
