use Rattle.std.proofs.Common.{get_or, drop, ◌∙◌, ap, arith}
use Rattle.commit_journal.specs.Log.{payload_length}
use Rattle.journal_verification.proofs.Gates.{opened, no_length, great_length, short_frame, frame_here, no_shorter}
use Rattle.journal_verification.proofs.gate.next_gate.Goals as goal
use Rattle.journal_verification.proofs.gate.next_gate.Goals.{then-count-eq0-via-then-count-eq0, then-count-eq0-via-else-count-eq0+then-count-gt-LARGEST_PAYLOAD}

pub returns-then-count-eq0-clause-says : goal.returns-then-count-eq0-clause-says
returns-then-count-eq0-clause-says g c b comes =
    let first = c.in_ok-fill.ensures.comes b comes in
    let second = c.in_ok-fill-2.ensures.comes b first in
    let some = c.in_ok-fill.ensures.filled c.if-not-branch.false in
    let long = c.in_ok-fill-2.ensures.filled c.if-not-branch-2.false in
    let differs = opened b _ c.fill.new.self.window.items first some (λ is. c.if-window-eq-CLOSED_GATE.false (ap (λ l. get_or l 0 0) c.window.ensures ∙ is)) in
    let named = c.length_behind-count.ensures ∙ ap (λ l. payload_length (drop 1 l)) c.window-2.ensures in
    elim c.then-count-eq0.branch [
      | then-count-eq0-via-then-count-eq0 w ↦ no_length b _ c.fill-2.new.self.window.items c.length_behind-count.result second long differs named w.if-count-eq0.true
      | then-count-eq0-via-else-count-eq0+then-count-gt-LARGEST_PAYLOAD w ↦
          great_length b _ c.fill-2.new.self.window.items c.length_behind-count.result second long differs named w.if-count-gt-LARGEST_PAYLOAD.true
    ]

pub returns-then-not-branch-3-clause-says : goal.returns-then-not-branch-3-clause-says
returns-then-not-branch-3-clause-says g c b comes =
    let first = c.in_ok-fill.ensures.comes b comes in
    let second = c.in_ok-fill-2.ensures.comes b first in
    let some = c.in_ok-fill.ensures.filled c.if-not-branch.false in
    let long = c.in_ok-fill-2.ensures.filled c.if-not-branch-2.false in
    let differs = opened b _ c.fill.new.self.window.items first some (λ is. c.if-window-eq-CLOSED_GATE.false (ap (λ l. get_or l 0 0) c.window.ensures ∙ is)) in
    let named = c.length_behind-count.ensures ∙ ap (λ l. payload_length (drop 1 l)) c.window-2.ensures in
    let end = c.in_ok-fill-3.ensures.end c.if-not-branch-3.true b second in
    short_frame b _ c.fill-2.new.self.window.items c.length_behind-count.result second long differs named end.1

pub returns-clause-says : goal.returns-clause-says
returns-clause-says g c b comes =
    let first = c.in_ok-fill.ensures.comes b comes in
    let second = c.in_ok-fill-2.ensures.comes b first in
    let third = c.in_ok-fill-3.ensures.comes b second in
    let some = c.in_ok-fill.ensures.filled c.if-not-branch.false in
    let long = c.in_ok-fill-2.ensures.filled c.if-not-branch-2.false in
    let whole = c.in_ok-fill-3.ensures.filled c.if-not-branch-3.false in
    let differs = opened b _ c.fill.new.self.window.items first some (λ is. c.if-window-eq-CLOSED_GATE.false (ap (λ l. get_or l 0 0) c.window.ensures ∙ is)) in
    let named = c.length_behind-count.ensures ∙ ap (λ l. payload_length (drop 1 l)) c.window-2.ensures in
    let some_count = c.if-count-eq0.false in
    let few = c.if-count-gt-LARGEST_PAYLOAD.false in
    frame_here b _ c.fill-2.new.self.window.items c.length_behind-count.result second long differs named (omega (arith, some_count)) (omega (arith, few))
    (no_shorter b _ c.fill-3.new.self.window.items _ third whole)
