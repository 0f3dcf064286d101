use Rattle.std.proofs.Common.{◌≡◌, ◌∙◌, ◌++◌, true, false, sym, ap, subst, arith}
use Rattle.sound_frames.specs.Looking.{HasLeft, Sees, as_list}
use Rattle.sound_frames.proofs.Steps.{ended_unframed, ended_invalid, ended_second, framed_after, passed_on}
use Rattle.sound_frames.proofs.stepping.step.Goals as goal

-- no sound frame was seen behind the gate
pub returns-in-NoFrame-clause-stepped : goal.returns-in-NoFrame-clause-stepped
returns-in-NoFrame-clause-stepped c seen =
    let counter = c.args.counter.now in
    let found = c.args.found.now in
    ended_unframed counter.version c.args.log.now c.args.place found.entries.items found.damages.items c.is_closed_gate-is_closed.result c.ending_of.result
    c.is_closed_gate-is_closed.ensures counter.extent
    (subst (λ a. Sees counter.version c.args.log.now c.args.place found.entries.items a counter.extent) c.in-NoFrame.is seen) c.ending_of.ensures

pub returns-in-NotValid-clause-stepped : goal.returns-in-NotValid-clause-stepped
returns-in-NotValid-clause-stepped c seen =
    let counter = c.args.counter.now in
    let found = c.args.found.now in
    ended_invalid counter.version c.args.log.now c.args.place found.entries.items found.damages.items c.is_closed_gate-is_closed.result c.ending_of-in-NotValid.result
    c.is_closed_gate-is_closed.ensures counter.extent
    (subst (λ a. Sees counter.version c.args.log.now c.args.place found.entries.items a counter.extent) c.in-NotValid.is seen) c.ending_of-in-NotValid.ensures

-- one was seen, so it is whole
pub returns-in_default-clause-stepped : goal.returns-in_default-clause-stepped
returns-in_default-clause-stepped c seen =
    let counter = c.args.counter.now in
    let found = c.args.found.now in
    absurd (framed_after counter.version c.args.log.now c.args.place found.entries.items c.in-Sound.items counter.extent
    (subst (λ a. Sees counter.version c.args.log.now c.args.place found.entries.items a counter.extent) c.in-Sound.is seen) c.in_default.ensures.none)

-- the gate is closed, and one was seen, and no second one
pub returns-then-not-passes-clause-stepped : goal.returns-then-not-passes-clause-stepped
returns-then-not-passes-clause-stepped c seen =
    let counter = c.args.counter.now in
    let found = c.args.found.now in
    let log = c.args.log.now in
    let items = c.in-Sound.items in
    let here = subst (λ a. Sees counter.version log c.args.place found.entries.items a counter.extent) c.in-Sound.is seen in
    let not : c.may_pass-passes.result ≡ false = let test = c.if-not-passes.true in grind arith in
    ended_second counter.version log c.args.place found.entries.items found.damages.items items counter.extent here c.in-Some.next c.in_ok-behind.behind
    c.look.new.counter.extent c.in-Some.ensures.value (c.in_ok-behind.ensures.seen (found.entries.items ++ items.items) here.1)
    (sym c.is_closed_gate-is_closed.ensures ∙ c.may_pass-passes.ensures.shut not) (c.may_pass-passes.ensures.none not)

-- the gate is passed
pub returns-clause-stepped : goal.returns-clause-stepped
returns-clause-stepped c seen =
    let counter = c.args.counter.now in
    let found = c.args.found.now in
    let log = c.args.log.now in
    let items = c.in-Sound.items in
    let here = subst (λ a. Sees counter.version log c.args.place found.entries.items a counter.extent) c.in-Sound.is seen in
    let passes : c.may_pass-passes.result ≡ true = let test = c.if-not-passes.false in grind arith in
    let next = c.in-Some.ensures in
    passed_on counter.version log c.args.place c.args.told found.entries.items found.damages.items items counter.extent here c.note.new.self.entries.items
    c.note.new.self.damages.items c.closed_damage.result c.is_closed_gate-is_closed.result c.in-Some.next c.in_ok-behind.behind c.look.new.counter.extent
    (c.in_ok-behind.ensures.seen (found.entries.items ++ items.items) here.1) c.is_closed_gate-is_closed.ensures (c.may_pass-passes.ensures.yes passes)
    (c.note.ensures.entries ∙ c.in_ok-take.ensures.entries ∙ ap (λ es. found.entries.items ++ es) c.as_slice.ensures.value) (c.in_ok-note.ensures.damages ∙ ap (λ d. d ++ as_list c.closed_damage.result) c.take.ensures.damages)
    c.closed_damage.ensures next.value next.within next.further

-- what is left of the bytes
pub returns-clause-left : goal.returns-clause-left
returns-clause-left c bytes has =
    let took = c.in_ok-take.ensures.left bytes has in
    subst (λ es. HasLeft bytes es c.note.new.self.left) (sym c.note.ensures.entries)
    (subst (λ left. HasLeft bytes c.take.new.self.entries.items left) (sym c.note.ensures.left) took)
