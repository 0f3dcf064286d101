use Rattle.std.proofs.Common.{◌∙◌, ap, subst, sym}
use Rattle.linked_store.specs.Linked.{IsNumber, Linked, record_at}
use Rattle.linked_store.proofs.Keyed.{record_there}
use Rattle.linked_store.proofs.store.LinkedStore.look.Goals as goal

pub returns : goal.returns
returns c =
    c.look.ensures
    ∙ record_there c.args.class c.args.number c.self.inside.transaction.store (subst (λ (x : Linked). IsNumber c.args.class c.args.number x.keys) (sym c.self.view_is) c.requires)
    ∙ ap (λ (x : Linked). record_at c.args.class c.args.number x) c.self.view_is
