use Rattle.std.proofs.Common.{◌∙◌, ap, subst, sym}
use Rattle.catalogue_tables.specs.Seam.{HasKey}
use Rattle.linked_store.specs.Linked.{Linked, field_of}
use Rattle.linked_store.specs.Staying.{is_linked_alike}
use Rattle.linked_store.proofs.Fielded.{field_there}
use Rattle.linked_store.proofs.store.LinkedStore.is_linked_alike.Goals as goal

pub returns : goal.returns
returns c =
    c.is_linked_alike.ensures
    ∙ ap (is_linked_alike c.args.tie.now) (field_there c.args.seat c.self.inside.transaction.store (subst (λ (x : Linked). HasKey x.keys c.args.seat) (sym c.self.view_is) c.requires))
    ∙ ap (λ (x : Linked). is_linked_alike c.args.tie.now (field_of c.args.seat x)) c.self.view_is
