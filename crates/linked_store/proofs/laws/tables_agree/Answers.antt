use Rattle.std.proofs.Common.{subst, sym}
use Rattle.catalogue_tables.specs.declared.tables.CatalogueTables.{CatalogueTables}
use Rattle.linked_store.specs.Agreement.{TablesAgree}
use Rattle.linked_store.specs.Linked.{Linked}
use Rattle.linked_store.specs.Sound.{linked_view}
use Rattle.linked_store.proofs.Telling.{tables_told}
use Rattle.linked_store.proofs.laws.tables_agree.Goals as goal

pub returns : goal.returns
returns c =
    subst (λ (x : Linked). TablesAgree c.of.result.value x) c.store.view_is
    (subst (λ (t : CatalogueTables). TablesAgree t (linked_view c.store.inside.transaction c.store.inside.marked)) (sym c.of.ensures)
    (tables_told c.store.inside.transaction c.store.inside.marked c.store.invariant.now))
