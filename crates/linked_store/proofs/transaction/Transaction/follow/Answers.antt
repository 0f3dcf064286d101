use Rattle.std.proofs.Common.{refl, ap, sym, subst, ◌<◌, List, length}
use Rattle.link_table.specs.Table.{links}
use Rattle.wait_table.specs.Table.{waits}
use Rattle.marc_types.specs.declared.key.Key.{Key}
use Rattle.form_index.specs.Index.{IsInOrder}
use Rattle.linked_store.proofs.Noted.{goes_none, goes_still, steps_noted}
use Rattle.linked_store.proofs.Indexed.{followed, goes_followed}
use Rattle.linked_store.proofs.transaction.Transaction.follow.Goals as goal

pub returns-in_err-reserve-clause-goes : goal.returns-in_err-reserve-clause-goes
returns-in_err-reserve-clause-goes c = goes_none c.args.self.now _ refl refl c.reserve.ensures.items

pub follow_authority-requires-clause-known : goal.follow_authority-requires-clause-known
follow_authority-requires-clause-known c = subst (λ (l : List Key). c.args.number < length l) (sym c.keys-keys.ensures) c.requires.known

pub follow_authority-requires-clause-ordered : goal.follow_authority-requires-clause-ordered
follow_authority-requires-clause-ordered c = subst (λ (l : List Key). IsInOrder l c.args.self.now.tables.index) (sym c.keys-keys.ensures) c.requires.ordered

pub returns-in_err-before-clause-goes : goal.returns-in_err-before-clause-goes
returns-in_err-before-clause-goes c =
    goes_still c.args.self.now _ refl c.reserve.ensures.items (ap links c.follow_authority.ensures.only.links) (ap waits c.follow_authority.ensures.only.waits)
    c.in_err-before.ensures.err (record { forms = c.follow_authority.ensures.only.forms })

pub returns-clause-now : goal.returns-clause-now
returns-clause-now c =
    followed c.args.self.now _ c.args.number c.args.item.now c.keys-keys.result.now c.keys-keys.ensures c.follow_authority.ensures.only c.in_ok-before.ensures.ok

pub returns-clause-goes : goal.returns-clause-goes
returns-clause-goes c =
    goes_followed c.args.self.now _ c.args.number c.in_ok-before.before c.keys-keys.result.now c.keys-keys.ensures
    (steps_noted c.args.self.now.log.items c.push_reserved.new.self.items c.reserve.new.self.items _ c.reserve.ensures.items c.push_reserved.ensures.items)
    refl c.follow_authority.ensures.only c.in_ok-before.ensures.back
    (subst (λ (l : List Key). c.args.number < length l) (sym c.keys-keys.ensures) c.requires.known)
