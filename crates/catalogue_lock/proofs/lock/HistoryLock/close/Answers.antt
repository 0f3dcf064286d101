use Rattle.std.proofs.Common.{◌≡◌, ap, sym, subst, ◌∙◌}
use mathlib.Core.Option.{some}
use Rattle.catalogue_lock.specs.Passes.{IsPassOf, Closed}
use Rattle.catalogue_lock.specs.Steps.{Gathered}
use Rattle.catalogue_lock.specs.Rule.{Each}
use Rattle.catalogue_lock.proofs.Closing.{closes, all_each, same_object, has_object}
use Rattle.catalogue_lock.proofs.lock.HistoryLock.close.Goals as goal

pub gather-seat-requires-clause-own : goal.gather-seat-requires-clause-own
gather-seat-requires-clause-own g c =
    let table = c.self.inside.table.shared.table_id in
    subst (Each (λ p. p.lock ≡ table)) (sym c.into_vec.ensures)
    (all_each (IsPassOf c.args.self) (λ p. p.lock ≡ table) (λ p own. own.0 ∙ sym (ap (λ l. l.id) c.self.view_is)) c.args.passes c.requires.own)

pub unreachable-requires : goal.unreachable-requires
unreachable-requires g c =
    let ended = closes g.O.Object.history g.O.Object.origin c.self.inside.table.shared.key _ _ _ _ c.args.passes c.close_with-closed.ensures.values.2
    (subst (λ ps. Gathered ps c.gather-seat.result.me) c.into_vec.ensures c.gather-seat.ensures.all) (c.requires.all ∙ sym (ap (λ l. l.callers) c.self.view_is)) in
    has_object _ _ _ _ _ ended (c.take-held.ensures.value ∙ ap some c.in_default.is)

pub returns-clause-history : goal.returns-clause-history
returns-clause-history g c =
    let ended = closes g.O.Object.history g.O.Object.origin c.self.inside.table.shared.key _ _ _ _ c.args.passes c.close_with-closed.ensures.values.2
    (subst (λ ps. Gathered ps c.gather-seat.result.me) c.into_vec.ensures c.gather-seat.ensures.all) (c.requires.all ∙ sym (ap (λ l. l.callers) c.self.view_is)) in
    subst (λ l. Closed l.callers c.args.passes (g.O.Object.history l.opened) (g.O.Object.history c.in-Some.object)) c.self.view_is
    (same_object _ _ _ _ _ c.in-Some.object ended (c.take-held.ensures.value ∙ ap some c.in-Some.is)).0

pub returns-clause-origin : goal.returns-clause-origin
returns-clause-origin g c =
    let ended = closes g.O.Object.history g.O.Object.origin c.self.inside.table.shared.key _ _ _ _ c.args.passes c.close_with-closed.ensures.values.2
    (subst (λ ps. Gathered ps c.gather-seat.result.me) c.into_vec.ensures c.gather-seat.ensures.all) (c.requires.all ∙ sym (ap (λ l. l.callers) c.self.view_is)) in
    subst (λ l. g.O.Object.origin c.in-Some.object ≡ g.O.Object.origin l.opened) c.self.view_is
    (same_object _ _ _ _ _ c.in-Some.object ended (c.take-held.ensures.value ∙ ap some c.in-Some.is)).1
