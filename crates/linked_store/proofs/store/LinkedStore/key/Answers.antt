use Rattle.std.proofs.Common.{◌≡◌, ◌∙◌, List, ap, subst, sym}
use Rattle.std.specs.Prelude.{slice_get}
use Rattle.marc_types.specs.declared.key.Key.{Key}
use Rattle.catalogue_tables.specs.Seam.{keys_in}
use Rattle.linked_store.specs.Linked.{IsNumber, Linked, key_of}
use Rattle.linked_store.specs.Sound.{key_lists}
use Rattle.linked_store.proofs.Agreed.{keys_alike}
use Rattle.linked_store.proofs.Brought.{key_found}
use Rattle.linked_store.proofs.store.LinkedStore.key.Goals as goal

pub returns : goal.returns
returns c =
    subst (λ (x : Linked). c.unwrap.result.now ≡ key_of c.args.class c.args.number x.keys) c.self.view_is
    (key_found (keys_in c.args.class (key_lists c.self.inside.transaction.store.keys)) c.args.number c.at.result c.unwrap.result c.unwrap.ensures
    (c.at.ensures ∙ ap (λ (l : List Key). slice_get l c.args.number) (c.keys.ensures ∙ sym (keys_alike c.args.class c.self.inside.transaction.store)))
    (subst (λ (x : Linked). IsNumber c.args.class c.args.number x.keys) (sym c.self.view_is) c.requires))
