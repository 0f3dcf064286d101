use Rattle.std.proofs.Common.{◌≡◌, subst, sym}
use Rattle.std.proofs.lemmas.Result.{IfOk-weaker}
use Rattle.catalogue_rules.specs.State.{kept_field, linkable_authorities}
use Rattle.catalogue_tables.specs.Stands.{field_standing}
use Rattle.linking_laws.specs.Middle.{AreAuthoritiesInOrder}
use Rattle.linked_store.specs.Transactions.{contents}
use Rattle.linked_store.specs.Linked.{Linked}
use Rattle.linked_store.specs.Sound.{state_in}
use Rattle.linked_store.proofs.Telling.{told_now}
use Rattle.linked_store.proofs.store.LinkedStore.standing.Goals as goal

pub returns : goal.returns
returns c =
    IfOk-weaker c.standing.result _ _
    (λ standing told.
    subst (λ (x : Linked). standing ≡ field_standing (linkable_authorities x.state) c.args.class (kept_field c.args.field.now c.args.tie.now)) c.self.view_is
    (told (state_in (contents c.self.inside.transaction))
    (told_now c.self.inside.transaction.tables (contents c.self.inside.transaction) c.keys-keys.result.now c.keys-keys.ensures c.self.invariant.distinct c.self.invariant.now
    (subst (λ (x : Linked). AreAuthoritiesInOrder x.state) (sym c.self.view_is) c.requires))))
    c.standing.ensures
