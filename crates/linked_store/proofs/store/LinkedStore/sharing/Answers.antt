use Rattle.std.proofs.Common.{◌≡◌, subst, sym}
use Rattle.std.proofs.lemmas.Result.{IfOk-weaker}
use Rattle.catalogue_rules.specs.State.{linkable_authorities}
use Rattle.catalogue_tables.specs.Sharing.{keys_sharing, shown_keys}
use Rattle.linking_laws.specs.Middle.{AreAuthoritiesInOrder}
use Rattle.linked_store.specs.Transactions.{contents}
use Rattle.linked_store.specs.Linked.{Linked}
use Rattle.linked_store.specs.Sound.{state_in}
use Rattle.linked_store.proofs.Telling.{told_now}
use Rattle.linked_store.proofs.store.LinkedStore.sharing.Goals as goal

pub returns : goal.returns
returns c =
    IfOk-weaker c.sharing.result _ _
    (λ found told.
    subst (λ (x : Linked). shown_keys found.items ≡ keys_sharing c.args.key.now (linkable_authorities x.state)) c.self.view_is
    (told (state_in (contents c.self.inside.transaction))
    (told_now c.self.inside.transaction.tables (contents c.self.inside.transaction) c.keys-keys.result.now c.keys-keys.ensures c.self.invariant.distinct c.self.invariant.now
    (subst (λ (x : Linked). AreAuthoritiesInOrder x.state) (sym c.self.view_is) c.requires))))
    c.sharing.ensures
