use Rattle.std.proofs.Common.{◌≡◌, [], refl, ap, sym, ◌∙◌}
use Rattle.std.proofs.lemmas.List.{append-nil}
use Rattle.catalogue_lock.specs.Views.{pass_at}
use Rattle.catalogue_lock.proofs.Returning.{Looked, may_leave, has_left, rests_after, turned, looked, same_answer}
use Rattle.catalogue_lock.proofs.lock.HistoryLock.look.Given as given
use Rattle.catalogue_lock.proofs.lock.HistoryLock.look.Goals as goal
use Rattle.catalogue_lock.proofs.lock.HistoryLock.look.Goals.{After-leave}

-- what the look did to the pass
told : (g : given.Over) (c : After-leave g) → Looked (g.O.Object.history c.enter-object.result) c.args.pass.now (pass_at c.leave.new.seat.table_id c.leave.new.seat.me.0)
told g c =
    looked (g.O.Object.history c.enter-object.result) c.args.pass.now _
    (turned _ _ (λ before _ _ added. (g.O.Object.history c.enter-object.result ≡ before) × (added ≡ [])) tt tt c.pass.inside.seat.table_id c.leave.new.seat.table_id _ _ _ _ _ []
    c.enter-object.ensures.turn c.pass.invariant
    (has_left _ _ _ _ _ _ c.enter-object.result _ [] c.enter-object.ensures.turn c.count-before.ensures (sym (append-nil (g.O.Object.history c.enter-object.result))) c.leave.ensures.left)
    (c.leave.ensures.seat.0 ∙ c.enter-object.ensures.seat.0) c.pass.view_is (refl, refl))

pub leave-requires-clause-turn : goal.leave-requires-clause-turn
leave-requires-clause-turn g c =
    may_leave _ _ _ _ c.enter-object.result _ c.args.self.now.opened _ [] c.pass.invariant c.enter-object.ensures.turn c.count-before.ensures
    (sym (append-nil (g.O.Object.history c.enter-object.result))) refl (ap (λ p. p.opened) c.pass.view_is ∙ c.requires.own.1)

pub invariant_of-pass : goal.invariant_of-pass
invariant_of-pass g c =
    rests_after _ _ _ _ _ _ [] c.enter-object.ensures.turn c.pass.invariant
    (has_left _ _ _ _ _ _ c.enter-object.result _ [] c.enter-object.ensures.turn c.count-before.ensures (sym (append-nil (g.O.Object.history c.enter-object.result))) c.leave.ensures.left)

pub returns-clause-answer : goal.returns-clause-answer
returns-clause-answer g c =
    let same = c.enter-object.ensures.turn.origin_is c.args.self.now.opened (ap (λ p. p.opened) c.pass.view_is ∙ c.requires.own.1) in
    same_answer g.O.Object.answers _ _ _ _ _ _ same (told g (goal.at.returns-clause-answer g c).After-leave).whole c.look-answer.ensures

pub returns-clause-begins : goal.returns-clause-begins
returns-clause-begins g c = (told g (goal.at.returns-clause-begins g c).After-leave).begins

pub returns-clause-pass : goal.returns-clause-pass
returns-clause-pass g c = (told g (goal.at.returns-clause-pass g c).After-leave).pass

pub returns-clause-own : goal.returns-clause-own
returns-clause-own g c = (told g (goal.at.returns-clause-own g c).After-leave).own
