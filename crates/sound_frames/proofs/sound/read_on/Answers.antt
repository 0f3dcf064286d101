use Rattle.std.proofs.Common.{◌+◌, [], ap, sym, subst, arith}
use Rattle.sound_frames.specs.Looking.{HasLeft, HasStepped}
use Rattle.sound_frames.proofs.Readings.{begun_in, passed_in, ended_in, comes_in}
use Rattle.sound_frames.proofs.sound.read_on.Goals as goal

-- reading begins
pub gates-init : goal.gates-init
gates-init g c =
    let long = c.requires.long in
    record {
      reading = λ log w.
          begun_in c.args.counter.now.version log c.args.found.now.damages.items c.args.coming.now.place c.args.coming.now.window.items
          (g.S.Source.left c.args.coming.now.source) c.args.more c.args.found.now.entries.items c.look.new.counter.version c.look.new.counter.extent c.in_ok-ahead.ahead
          w c.requires.first long c.requires.far c.requires.empty c.window-first.result.now c.window-first.ensures (c.in_ok-ahead.ensures.seen [] c.requires.none)
          c.look.ensures.version;
      inside = omega (arith, long);
      far = c.requires.far;
      left = λ bytes has. subst (λ es. HasLeft bytes es c.args.found.now.left) (sym c.requires.empty) has;
      faults = omega arith;
    }

-- a gate is passed
pub gates-preserved : goal.gates-preserved
gates-preserved g c =
    let base = c.gates.coming in
    let at = c.gates.place.at in
    let before = c.gates.found in
    let now = c.step.new.found in
    let bytes = c.window-window.result.now in
    let earlier = c.gates.invariant.faults in
    let later = c.go_on.ensures.cause.later in
    record {
      reading = λ log w.
          passed_in c.args.counter.now.version log c.args.found.now.damages.items base.place at base.window.items (g.S.Source.left base.source) c.gates.place.more
          before.entries.items before.damages.items c.gates.counter.version c.gates.counter.extent c.gates.ahead (c.gates.invariant.reading log w) c.gates.invariant.inside
          c.gates.invariant.far bytes _ now.entries.items now.damages.items c.step.new.counter.extent c.in-Passed.next c.in-Passed.behind c.step.new.counter.version
          c.go_on.new.coming.place c.in_ok-place-in-Passed.place.at c.go_on.new.coming.window.items (g.S.Source.left c.go_on.new.coming.source) c.in_ok-place-in-Passed.place.more
          c.window-window.ensures
          (λ seen.
          subst (HasStepped c.gates.counter.version bytes at _ before.entries.items before.damages.items now.entries.items now.damages.items c.step.new.counter.extent)
          c.in-Passed.is (c.in_ok-why.ensures.stepped seen)) (ap (λ n. n + at) c.place-passed.ensures.value) c.step.ensures.version (c.in_ok-place-in-Passed.ensures.window log)
          c.in_ok-place-in-Passed.ensures.place;
      inside = c.in_ok-place-in-Passed.ensures.within;
      far = c.in_ok-place-in-Passed.ensures.far;
      left = λ bytes has. c.in_ok-why.ensures.left bytes (c.gates.invariant.left bytes has);
      faults = omega (arith, earlier, later);
    }

-- reading ends
pub returns-in-Ended-clause-read : goal.returns-in-Ended-clause-read
returns-in-Ended-clause-read g c log w =
    let base = c.gates.coming in
    let at = c.gates.place.at in
    let before = c.gates.found in
    let now = c.step.new.found in
    let bytes = c.window-window.result.now in
    ended_in c.args.counter.now.version log c.args.found.now.damages.items base.place at base.window.items (g.S.Source.left base.source) c.gates.place.more
    before.entries.items before.damages.items c.gates.counter.version c.gates.counter.extent c.gates.ahead (c.gates.invariant.reading log w) c.gates.invariant.inside
    c.gates.invariant.far bytes _ now.entries.items now.damages.items c.in-Ended.why c.window-window.ensures
    (λ seen.
    subst (HasStepped c.gates.counter.version bytes at _ before.entries.items before.damages.items now.entries.items now.damages.items c.step.new.counter.extent)
    c.in-Ended.is (c.in_ok-why.ensures.stepped seen)) (ap (λ n. n + at) c.place-passed.ensures.value)

pub returns-in-Ended-clause-comes : goal.returns-in-Ended-clause-comes
returns-in-Ended-clause-comes g c log w =
    comes_in _ log _ c.gates.coming.place c.gates.place.at c.gates.coming.window.items (g.S.Source.left c.gates.coming.source) c.gates.place.more _ _ _ _ _
    (c.gates.invariant.reading log w) c.gates.invariant.inside c.gates.invariant.far

pub returns-in-Ended-clause-left : goal.returns-in-Ended-clause-left
returns-in-Ended-clause-left g c bytes has = c.in_ok-why.ensures.left bytes (c.gates.invariant.left bytes has)
