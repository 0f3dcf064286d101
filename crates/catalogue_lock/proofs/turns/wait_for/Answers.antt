use Rattle.std.proofs.Common.{rules, ap, ◌∙◌}
use Rattle.catalogue_lock.proofs.Turning.{looks, still_waits}
use Rattle.catalogue_lock.proofs.turns.wait_for.Goals as goal

pub load-serving-requires : goal.load-serving-requires
load-serving-requires g c =
    let same = c.loop.invariant in
    let waits = c.requires.waits in (
      search rules,
      search rules,
      looks _ _ _ _ _ _ c.args.ticket (ap (λ m. m.0.opening) same.2 ∙ waits.1) (ap (λ m. m.0.stage) same.2 ∙ waits.0) (ap (λ m. m.1) same.2 ∙ waits.2),
    )

pub loop-preserved-then-looks-lt-YIELDS : goal.loop-preserved-then-looks-lt-YIELDS
loop-preserved-then-looks-lt-YIELDS g c =
    let same = c.loop.invariant in
    let found = c.load-serving.ensures in
    (found.0 ∙ same.0, found.1 ∙ same.1, still_waits _ _ c.args.seat.now.me c.loop.seat.me c.load-serving.new.seat.me c.args.ticket c.load-serving.result found.2 same.2 c.requires.waits.0 c.if-serving-ticket.false)

pub loop-preserved : goal.loop-preserved
loop-preserved g c =
    let same = c.loop.invariant in
    let found = c.load-serving.ensures in
    (found.0 ∙ same.0, found.1 ∙ same.1, still_waits _ _ c.args.seat.now.me c.loop.seat.me c.load-serving.new.seat.me c.args.ticket c.load-serving.result found.2 same.2 c.requires.waits.0 c.if-serving-ticket.false)
