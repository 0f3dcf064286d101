use Rattle.std.proofs.Common.{ap, subst, ◌∙◌}
use Rattle.catalogue_lock.proofs.Returning.{may_leave, has_left, rests_after, turned}
use Rattle.catalogue_lock.proofs.lock.HistoryLock.turn.Goals as goal

pub leave-requires-clause-turn : goal.leave-requires-clause-turn
leave-requires-clause-turn g c =
    let applied = c.apply-reply.ensures in
    may_leave _ _ _ _ c.enter-object.result _ c.args.self.now.opened _ applied.reply.0 c.pass.invariant c.enter-object.ensures.turn c.count-before.ensures
    applied.reply.1 applied.origin (ap (λ p. p.opened) c.pass.view_is ∙ c.requires.own.1)

pub invariant_of-pass : goal.invariant_of-pass
invariant_of-pass g c =
    let applied = c.apply-reply.ensures in
    rests_after _ _ _ _ _ _ applied.reply.0 c.enter-object.ensures.turn c.pass.invariant
    (has_left _ _ _ _ _ _ c.apply-reply.new.self _ applied.reply.0 c.enter-object.ensures.turn c.count-before.ensures applied.reply.1 c.leave.ensures.left)

pub returns : goal.returns
returns g c =
    let applied = c.apply-reply.ensures in
    let replied = subst (λ o. g.O.Object.replies o (g.O.Object.history c.enter-object.result) c.args.call c.apply-reply.result applied.reply.0)
    (c.enter-object.ensures.turn.origin_is c.args.self.now.opened (ap (λ p. p.opened) c.pass.view_is ∙ c.requires.own.1)) applied.reply.2 in
    turned _ _ (g.O.Object.replies (g.O.Object.origin c.args.self.now.opened)) c.args.call c.apply-reply.result c.pass.inside.seat.table_id c.leave.new.seat.table_id _ _ _ _ _ applied.reply.0
    c.enter-object.ensures.turn c.pass.invariant
    (has_left _ _ _ _ _ _ c.apply-reply.new.self _ applied.reply.0 c.enter-object.ensures.turn c.count-before.ensures applied.reply.1 c.leave.ensures.left)
    (c.leave.ensures.seat.0 ∙ c.enter-object.ensures.seat.0) c.pass.view_is replied
