use Rattle.std.proofs.Common.{◌≡◌, true, IsSome, subst, sym}
use Rattle.marc_types.specs.Order.{same_key}
use Rattle.marc_types.specs.declared.key.Class.{Class}
use Rattle.marc_types.specs.declared.key.Key.{Key}
use Rattle.numbering.specs.Numbers.{is_known}
use Rattle.catalogue_rules.specs.Receipt.{kept_under}
use Rattle.catalogue_tables.specs.Seam.{keys_in}
use Rattle.linked_store.specs.Linked.{Linked}
use Rattle.linked_store.proofs.Agreed.{keys_alike}
use Rattle.linked_store.proofs.store.LinkedStore.each_record_has_a_number.Goals as goal

pub returns : goal.returns
returns c =
    subst (λ (x : Linked). (class : Class) (key : Key) → IsSome (kept_under class key x.state) → is_known same_key (keys_in class x.keys) key ≡ true) c.self.view_is
    (λ class key some.
    subst (λ keys. is_known same_key keys key ≡ true) (sym (keys_alike class c.self.inside.transaction.store)) (c.each_record_has_a_number.ensures class key some))
