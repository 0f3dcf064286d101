use Rattle.std.proofs.Common.{◌≡◌, true, IsSome, subst, sym}
use Rattle.std.specs.Prelude.{find}
use Rattle.marc_types.specs.Order.{same_key}
use Rattle.numbering.specs.Numbers.{is_known}
use Rattle.catalogue_rules.specs.Choice.{has_key}
use Rattle.catalogue_rules.specs.State.{linkable_authorities}
use Rattle.linked_store.specs.Transactions.{contents}
use Rattle.linked_store.specs.Linked.{Linked}
use Rattle.linked_store.specs.Sound.{keys_of, state_in}
use Rattle.linked_store.proofs.Keyed.{known_authority}
use Rattle.linked_store.proofs.store.LinkedStore.each_authority_has_a_number.Goals as goal

pub returns : goal.returns
returns c = λ key some.
    subst (λ (x : Linked). is_known same_key x.keys.authorities key ≡ true) c.self.view_is
    (known_authority c.self.inside.transaction.tables.forms (keys_of (contents c.self.inside.transaction)).authorities c.self.inside.transaction.tables.index
    (linkable_authorities (state_in (contents c.self.inside.transaction))) key c.self.invariant.now.told
    (subst (λ (x : Linked). IsSome (find (has_key key) (linkable_authorities x.state))) (sym c.self.view_is) some))
