use Rattle.std.proofs.Common.{◌≡◌, refl, subst, sym}
use Rattle.std.specs.List.{list_any}
use Rattle.catalogue_rules.specs.Choice.{is_established}
use Rattle.catalogue_rules.specs.State.{linkable_authorities}
use Rattle.linking_laws.specs.Middle.{AreAuthoritiesInOrder}
use Rattle.linked_store.specs.Transactions.{contents}
use Rattle.linked_store.specs.Linked.{Linked}
use Rattle.linked_store.specs.Sound.{keys_of, state_in}
use Rattle.linked_store.proofs.Telling.{told_now}
use Rattle.linked_store.proofs.store.LinkedStore.is_established.Goals as goal

pub returns : goal.returns
returns c =
    let now = contents c.self.inside.transaction in
    subst (λ (x : Linked). c.is_established.result ≡ list_any (is_established c.args.form.now) (linkable_authorities x.state)) c.self.view_is
    (c.is_established.ensures (keys_of now).authorities (state_in now)
    (told_now c.self.inside.transaction.tables now (keys_of now).authorities refl c.self.invariant.distinct c.self.invariant.now
    (subst (λ (x : Linked). AreAuthoritiesInOrder x.state) (sym c.self.view_is) c.requires)))
