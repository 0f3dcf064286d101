-- How many fields stand so. The rules are this project's own.
use Rattle.std.specs.Prelude.{◌≡◌, ℕ, ◌+◌, ◌^◌, ◌<◌, Bool, List, ◌++◌, length, codes}
use Rattle.std.specs.List.{sum_by, count_by}
use Rattle.std.specs.Fmt.{decimal}
use Rattle.marc_types.specs.declared.key.Class.{Class}
use Rattle.catalogue_rules.specs.State.{State, rows_of, linkable_authorities}
use Rattle.catalogue_rules.specs.Lines.{line}
use Rattle.catalogue_rules.specs.Output.{count_all}
use Rattle.catalogue_rules.specs.Receipt as definition
use Rattle.catalogue_rules.specs.Receipt.{is_linked, is_ambiguous, is_unlinked, count_standing}
use Rattle.catalogue_tables.specs.declared.standing.Standing.{Standing}
use Rattle.catalogue_core.specs.Standings.{is_linked_here, is_ambiguous_here, is_unlinked_here}
use Rattle.ambiguity_report.specs.declared.totals.Totals.{Totals}

-- nothing counted
abbrev pub no_totals : Totals
no_totals = record { linked = 0; ambiguous = 0; unlinked = 0 }

-- the fields of one more record, which stand so, are counted
pub record AddsRecord (standings : List Standing) (old new : Totals) : Type 0 where
  pub linked : new.linked ≡ old.linked + count_by is_linked_here standings
  pub ambiguous : new.ambiguous ≡ old.ambiguous + count_by is_ambiguous_here standings
  pub unlinked : new.unlinked ≡ old.unlinked + count_by is_unlinked_here standings
  pub few : length standings < 2 ^ 64

-- how many fields of a class stand so
abbrev pub count_in : (definition.Standing → Bool) → Class → State → ℕ
count_in test class s = sum_by (λ row. count_standing test (linkable_authorities s) class row.1) (rows_of class s)

-- how many fields of a class are linked, ambiguous, and heading fields without a link
pub record AreTotals (class : Class) (s : State) (totals : Totals) : Type 0 where
  pub linked : totals.linked ≡ count_in is_linked class s
  pub ambiguous : totals.ambiguous ≡ count_in is_ambiguous class s
  pub unlinked : totals.unlinked ≡ count_in is_unlinked class s

-- the same of all fields
pub record AreAllTotals (s : State) (totals : Totals) : Type 0 where
  pub linked : totals.linked ≡ count_all is_linked s
  pub ambiguous : totals.ambiguous ≡ count_all is_ambiguous s
  pub unlinked : totals.unlinked ≡ count_all is_unlinked s

-- the line of so many records, of so many fields
abbrev pub totals_text : ℕ → ℕ → Totals → List ℕ
totals_text authorities bibliographic totals =
    line (codes "TOTAL authorities=" ++ decimal authorities
    ++ codes " bibliographic=" ++ decimal bibliographic
    ++ codes " linked=" ++ decimal totals.linked
    ++ codes " ambiguous=" ++ decimal totals.ambiguous
    ++ codes " unlinked=" ++ decimal totals.unlinked)

-- two of each have room together
pub record HaveRoom (totals : Totals) : Type 0 where
  pub linked : totals.linked < 2 ^ 127
  pub ambiguous : totals.ambiguous < 2 ^ 127
  pub unlinked : totals.unlinked < 2 ^ 127
