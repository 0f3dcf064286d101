-- The rows of an export. The rules are this project's own.
use Rattle.std.specs.Prelude.{◌≡◌, map}
use Rattle.catalogue_rules.specs.State.{State}
use Rattle.iso_export.specs.declared.rows.ExportRows.{ExportRows}
use Rattle.numbered_store.specs.Kept.{shown_row}

-- these are the rows of the state
pub record AreRowsOf (s : State) (rows : ExportRows) : Type 0 where
  pub authorities : map shown_row rows.authorities.entries ≡ s.authorities
  pub bibliographic : map shown_row rows.bibliographic.entries ≡ s.bibliographic
