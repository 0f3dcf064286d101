use Rattle.std.proofs.Common.{◌≡◌, subst, sym}
use Rattle.std.specs.Option.{option_map}
use Rattle.std.proofs.lemmas.Result.{IfOk-weaker}
use Rattle.catalogue_rules.specs.State.{kept_field, linkable_authorities}
use Rattle.linking_laws.specs.Middle.{AreAuthoritiesInOrder}
use Rattle.catalogue_tables.specs.Choosing.{chosen_for, heading_choice}
use Rattle.linked_store.specs.Transactions.{contents}
use Rattle.linked_store.specs.Linked.{Linked}
use Rattle.linked_store.proofs.Listing.{chosen_as}
use Rattle.linked_store.proofs.store.LinkedStore.choose.Goals as goal

pub returns : goal.returns
returns c =
    IfOk-weaker c.choose_field.result _ _
    (λ chosen told.
    subst (λ (x : Linked). chosen ≡ option_map (chosen_for x.keys.authorities) (heading_choice (linkable_authorities x.state) c.args.class (kept_field c.args.field.now c.args.tie.now))) c.self.view_is
    (chosen_as c.self.inside.transaction.tables (contents c.self.inside.transaction) c.args.class (kept_field c.args.field.now c.args.tie.now) c.keys-keys.result.now chosen
    c.keys-keys.ensures c.self.invariant.distinct c.self.invariant.now
    (subst (λ (x : Linked). AreAuthoritiesInOrder x.state) (sym c.self.view_is) c.requires.ordered) told))
    c.choose_field.ensures
