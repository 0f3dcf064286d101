use Rattle.std.proofs.Common.{◌≡◌, refl, ap, sym, subst, length, All, Some, None, ◌∙◌}
use Rattle.catalogue_lock.specs.History.{items_by}
use Rattle.catalogue_lock.specs.Passes.{new_pass}
use Rattle.catalogue_lock.proofs.Numbers.{items_by-other}
use Rattle.catalogue_lock.proofs.Dealing.{length-numbered_from, all_numbered}
use Rattle.catalogue_lock.proofs.lock.HistoryLock.opened.Goals as goal

pub deal-passes-requires-clause-seen : goal.deal-passes-requires-clause-seen
deal-passes-requires-clause-seen g c = λ k.
    ap (λ m. items_by (Some k) m.0.seen) c.open.ensures.open ∙ items_by-other (Some k) None (g.O.Object.history c.args.object) refl

pub returns-clause-len : goal.returns-clause-len
returns-clause-len g c =
    ap length (c.from_vec.ensures ∙ c.deal-passes.ensures)
    ∙ length-numbered_from (new_pass c.open.new.seat.table_id (Some c.args.table.shared.key.object) c.open.new.seat.me.0.seen) 0 c.args.table.shared.key.callers

pub returns-clause-ready : goal.returns-clause-ready
returns-clause-ready g c =
    let table = c.args.table.shared.table_id in
    let object = c.args.table.shared.key.object in
    subst (All (λ p. ((p.lock ≡ table) × (p.opened ≡ Some object)) × (p.turns ≡ 0))) (sym (c.from_vec.ensures ∙ c.deal-passes.ensures))
    (all_numbered (new_pass c.open.new.seat.table_id (Some object) c.open.new.seat.me.0.seen) (λ p. ((p.lock ≡ table) × (p.opened ≡ Some object)) × (p.turns ≡ 0))
    (λ k. ((c.open.ensures.seat.0 ∙ c.requires.table.1, refl), refl)) 0 c.args.table.shared.key.callers)
