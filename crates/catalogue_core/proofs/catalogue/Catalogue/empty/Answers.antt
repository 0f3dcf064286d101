use Rattle.std.proofs.Common.{List, subst, sym}
use Rattle.std.specs.declared.snapshot.Snapshot.{Snapshot}
use Rattle.marc_types.specs.declared.entry.Entry.{Entry}
use Rattle.catalogue_core.specs.Catalogues.{IsCatalogue, entries_seen}
use Rattle.catalogue_core.specs.Engines.{Engined, empty_engine}
use Rattle.catalogue_core.proofs.Catalogues.{catalogue_empty}
use Rattle.catalogue_core.proofs.catalogue.Catalogue.empty.Goals as goal

pub invariant_of-result : goal.invariant_of-result
invariant_of-result c =
    subst (λ (x : Engined). IsCatalogue x 0 0 (entries_seen c.new.result.items) 0 c.args.limits) (sym c.empty.ensures)
    (subst (λ (xs : List (Snapshot Entry)). IsCatalogue empty_engine 0 0 (entries_seen xs) 0 c.args.limits) (sym c.new.ensures.items) (catalogue_empty c.args.limits))
