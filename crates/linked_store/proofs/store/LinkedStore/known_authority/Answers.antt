use Rattle.std.proofs.Common.{subst, sym}
use Rattle.std.specs.Prelude.{find}
use Rattle.std.proofs.lemmas.Result.{IfOk-weaker}
use Rattle.marc_types.specs.declared.key.Class.TheVariants.{Authority}
use Rattle.catalogue_rules.specs.Choice.{has_key}
use Rattle.catalogue_rules.specs.State.{linkable_authorities}
use Rattle.catalogue_tables.specs.Known.{IsKnownAs}
use Rattle.linked_store.specs.Transactions.{contents}
use Rattle.linked_store.specs.Linked.{IsNumber, Linked, key_of}
use Rattle.linked_store.specs.Sound.{keys_of, state_in}
use Rattle.linked_store.proofs.store.LinkedStore.known_authority.Goals as goal

pub returns : goal.returns
returns c =
    IfOk-weaker c.known_authority.result _ _
    (λ known told.
    subst (λ (x : Linked). IsKnownAs (find (has_key (key_of Authority c.args.number x.keys)) (linkable_authorities x.state)) known) c.self.view_is
    (told (keys_of (contents c.self.inside.transaction)).authorities (state_in (contents c.self.inside.transaction)) c.self.invariant.distinct.authorities
    (subst (λ (x : Linked). IsNumber Authority c.args.number x.keys) (sym c.self.view_is) c.requires) c.self.invariant.now.told))
    c.known_authority.ensures
