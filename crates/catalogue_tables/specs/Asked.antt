-- What the row of a heading field that waits says of it, in numbers.
use Rattle.std.specs.Prelude.{◌≡◌, ℕ, true, false, List, [], Option, None, Some}
use Rattle.std.specs.List.{list_any}
use Rattle.marc_types.specs.Fields.{subfields_of}
use Rattle.marc_types.specs.Order.{same_form}
use Rattle.marc_types.specs.declared.form.Form.{Form}
use Rattle.marc_types.specs.declared.form.Kind.{Kind}
use Rattle.marc_types.specs.declared.key.Class.{Class}
use Rattle.marc_types.specs.declared.key.Key.{Key}
use Rattle.numbering.specs.Numbers.{IsNumberOf}
use Rattle.wait_table.specs.declared.waiting.Asked.{Asked}
use Rattle.wait_table.specs.declared.waiting.Asked.TheVariants.{One, Two}
use Rattle.wait_table.specs.declared.waiting.Waiting.{Waiting}
use Rattle.heading_fields.specs.Numbers.{is_naming}
use Rattle.entry_record.specs.Authority.{base_form, full_form, heading_kind, is_valid_key}
use Rattle.catalogue_rules.specs.Choice.{asks_base}
use Rattle.catalogue_rules.specs.State.{KeptField}

-- the first form that is asked for, and the last one
abbrev pub first_of : Asked → ℕ
first_of (One form) = form
first_of (Two form base) = form

-- the number of the base form
abbrev pub last_of : Asked → ℕ
last_of (One form) = form
last_of (Two form base) = base

-- no `$0` of the field names a key
abbrev pub NamesNone : KeptField → Type 0
NamesNone h = (key : Key) → is_valid_key key ≡ true → list_any (is_naming key) (subfields_of h.field) ≡ false

-- the row of a heading field of a kind: the first form is its full form and, where it is looked up by its base, the last one its base
-- form; without keys it is one of a field that names none
pub record IsAskedBy (names : List Form) (class : Class) (kind : Kind) (h : KeptField) (row : Waiting) : Type 0 where
  pub full : IsNumberOf same_form names (full_form kind class h.field) (first_of row.forms)
  pub base : asks_base class h ≡ true → IsNumberOf same_form names (base_form kind h.field) (last_of row.forms)
  pub named : row.keys ≡ [] → NamesNone h

-- a field that waits is a heading with this row, and one without a row is none
abbrev pub IsRowOfField : List Form → Class → KeptField → Option Waiting → Type 0
IsRowOfField names class h None = heading_kind class h.field ≡ None
IsRowOfField names class h (Some row) = (kind : Kind) × (heading_kind class h.field ≡ Some kind) × IsAskedBy names class kind h row
