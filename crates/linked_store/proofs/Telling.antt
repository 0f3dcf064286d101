-- Tables that agree with a state tell of it.
use Rattle.std.proofs.Common.{◌≡◌, ℕ, List, subst, sym}
use Rattle.marc_types.specs.declared.key.Key.{Key}
use Rattle.linking_laws.specs.Middle.{AreAuthoritiesInOrder}
use Rattle.catalogue_tables.specs.Choosing.{TellsState}
use Rattle.catalogue_tables.specs.Seam.{AreDistinct}
use Rattle.catalogue_tables.specs.declared.tables.CatalogueTables.{CatalogueTables}
use Rattle.linked_store.specs.Contents.{Contents}
use Rattle.linked_store.specs.Agreement.{TablesAgree}
use Rattle.linked_store.specs.Transactions.{contents}
use Rattle.linked_store.specs.Sound.{AgreesWith, keys_of, linked_view, state_in}
use Rattle.linked_store.specs.declared.transaction.Transaction.{Transaction}

pub told_now : (tables : CatalogueTables) (c : Contents) (keys : List Key) → keys ≡ (keys_of c).authorities → AreDistinct (keys_of c) → AgreesWith tables c
    → AreAuthoritiesInOrder (state_in c) → TellsState tables.forms keys c.index (state_in c)
told_now tables c keys same distinct agrees order =
    subst (λ (l : List Key). TellsState tables.forms l c.index (state_in c)) (sym same) (record { distinct = distinct.authorities; in_order = order; tells = agrees.told })

-- and are those of what callers see
pub tables_told : (f : Transaction) (marked : ℕ) → AgreesWith f.tables (contents f) → TablesAgree f.tables (linked_view f marked)
tables_told f marked agrees = record {
  authorities = agrees.told;
  linked = agrees.linked;
  asking = agrees.asking;
  leading = agrees.leading;
  naming = agrees.naming;
  links_fit = agrees.links_fit;
  waits_fit = record { asking = agrees.waits_fit.asking; naming = agrees.waits_fit.naming };
}
