-- The open heading that a field is, as it is found. The rules are this project's own.
use Rattle.std.specs.Prelude.{ℕ, Bool, false, List, [], map, Option, Some, None, option_and_then, option_map}
use Rattle.marc_types.specs.declared.field.Field.{Field}
use Rattle.marc_types.specs.declared.key.Class.{Class}
use Rattle.marc_types.specs.declared.key.Key.{Key}
use Rattle.marc_types.specs.declared.form.Kind.{Kind}
use Rattle.entry_record.specs.Authority.{Linkable, base_form, full_form}
use Rattle.catalogue_rules.specs.Receipt.{standing_of}
use Rattle.catalogue_rules.specs.State.{KeptRecord, Row, State, linkable_authorities}
use Rattle.catalogue_rules.specs.Store.{field_at}
use Rattle.catalogue_tables.specs.declared.standing.Standing.{Standing}
use Rattle.catalogue_tables.specs.declared.standing.Standing.TheVariants.{Linked, Ambiguous, Unlinked, NoHeading}
use Rattle.heading_worklist.specs.Counts.{Compared}
use Rattle.heading_worklist.specs.Headings.{OpenHeading, candidates_by, compared, has_candidate, open_heading, open_in_row}
use Rattle.heading_worklist.specs.declared.forms.HeadingForms.{HeadingForms}

-- whether a field that stands so is ambiguous, where it is an open heading
abbrev pub open_state : Standing → Option Bool
open_state Linked = None
open_state (Ambiguous keys) = Some (has_candidate keys)
open_state Unlinked = Some false
open_state NoHeading = None

-- the candidates of a field that stands so, where it is an open heading
abbrev pub candidates_shown : Standing → Option (List Key)
candidates_shown Linked = None
candidates_shown (Ambiguous keys) = Some keys
candidates_shown Unlinked = Some []
candidates_shown NoHeading = None

-- the kind of a field as a heading, and its forms
abbrev pub forms_as : Class → Field → Kind → HeadingForms
forms_as class f kind = record { kind = kind; full = full_form kind class f; base = base_form kind f }

-- the open heading that the field at a place is, if it is one
abbrev pub open_at_field : List Linkable → Class → Row → ℕ → Option OpenHeading
open_at_field all class row place = option_and_then (λ h. open_heading all class row (place, h)) (field_at place row.1)

-- what counting and ordering look at of it
abbrev pub compared_at : State → Class → Row → ℕ → Option Compared
compared_at s class row place = option_map compared (open_at_field (linkable_authorities s) class row place)

-- and of the open headings of a record
abbrev pub compared_in : State → Class → Row → List Compared
compared_in s class row = map compared (open_in_row (linkable_authorities s) class row)

-- the candidates of the field at a place of a record, where it is an open heading
abbrev pub candidates_at : State → Class → KeptRecord → ℕ → Option (List Key)
candidates_at s class r place = option_and_then (λ h. candidates_by (standing_of (linkable_authorities s) class h)) (field_at place r)
