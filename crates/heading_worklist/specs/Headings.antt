-- The open headings of a state: its heading fields that aren't linked. The rules are this project's own.
use Rattle.std.specs.Prelude.{ℕ, Bool, true, false, List, [], ◌∷◌, ◌++◌, Option, Some, None, option_and_then}
use Rattle.std.specs.List.{flat_map, filter_map, enumerate_from}
use Rattle.std.specs.Option.{option_map}
use Rattle.marc_types.specs.declared.key.Class.{Class}
use Rattle.marc_types.specs.declared.key.Class.TheVariants.{Authority, Bibliographic}
use Rattle.marc_types.specs.declared.key.Key.{Key}
use Rattle.marc_types.specs.declared.form.Kind.{Kind}
use Rattle.entry_record.specs.Authority.{Linkable, heading_kind, base_form, full_form}
use Rattle.catalogue_rules.specs.State.{KeptField, Row, State, rows_of, linkable_authorities}
use Rattle.heading_worklist.specs.Counts.{Compared}
use Rattle.catalogue_rules.specs.Receipt.{Standing, LinkedTo, AmbiguousAmong, WithoutLink, WithoutHeading, standing_of}

-- A heading field that isn't linked: its record's class and row, its number among the record's fields, the field with its tie, its kind,
-- and the keys of the authorities that it could be linked to (two or more where it is ambiguous, else none).
pub record OpenHeading : Type 0 where
  pub class : Class
  pub row : Row
  pub number : ℕ
  pub held : KeptField
  pub kind : Kind
  pub candidates : List Key

-- the candidates of a field that isn't linked
abbrev pub candidates_by : Standing → Option (List Key)
candidates_by (LinkedTo key) = None
candidates_by (AmbiguousAmong keys) = Some keys
candidates_by WithoutLink = Some []
candidates_by WithoutHeading = None

-- the open heading that a field is, if it is one
abbrev pub open_heading : List Linkable → Class → Row → ℕ × KeptField → Option OpenHeading
open_heading all class row numbered =
    option_and_then
    (λ kind. option_map
    (λ keys. record { class = class; row = row; number = numbered.0; held = numbered.1; kind = kind; candidates = keys })
    (candidates_by (standing_of all class numbered.1)))
    (heading_kind class numbered.1.field)

-- those of a record, fields ascending
abbrev pub open_in_row : List Linkable → Class → Row → List OpenHeading
open_in_row all class row = filter_map (open_heading all class row) (enumerate_from 0 row.1.fields)

-- those of a class, in key order
abbrev pub open_in_class : State → Class → List OpenHeading
open_in_class s class = flat_map (open_in_row (linkable_authorities s) class) (rows_of class s)

-- all open headings
abbrev pub open_headings : State → List OpenHeading
open_headings s = open_in_class s Authority ++ open_in_class s Bibliographic

-- there is a candidate
abbrev pub has_candidate : List Key → Bool
has_candidate [] = false
has_candidate (key ∷ keys) = true

-- it has candidates
abbrev pub is_ambiguous : OpenHeading → Bool
is_ambiguous x = has_candidate x.candidates

-- what counting and ordering look at
abbrev pub compared : OpenHeading → Compared
compared x = record {
  ambiguous = is_ambiguous x;
  full = full_form x.kind x.class x.held.field;
  base = base_form x.kind x.held.field;
  place = record { class = x.class; key = x.row.0; field = x.number };
}
