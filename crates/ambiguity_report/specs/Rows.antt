-- The rows of a report. The rules are this project's own.
use Rattle.std.specs.Prelude.{◌≡◌, map}
use Rattle.catalogue_rules.specs.State.{State}
use Rattle.ambiguity_report.specs.declared.rows.ReportRows.{ReportRows}
use Rattle.numbered_store.specs.Kept.{shown_row}

-- these are the rows of the state
pub record AreRows (s : State) (rows : ReportRows) : Type 0 where
  pub authorities : map shown_row rows.authorities.entries ≡ s.authorities
  pub bibliographic : map shown_row rows.bibliographic.entries ≡ s.bibliographic
