-- What an unlinked heading field waits for, as the code gives it.
use Rattle.std.specs.Prelude.{◌≡◌, Bool, true, List, [], Option, None, Some, if◌then◌else◌}
use Rattle.std.specs.List.{list_any}
use Rattle.marc_types.specs.declared.form.Form.{Form}
use Rattle.marc_types.specs.declared.form.Kind.{Kind}
use Rattle.marc_types.specs.declared.key.Class.{Class}
use Rattle.marc_types.specs.declared.key.Key.{Key}
use Rattle.marc_types.specs.Order.{same_key}
use Rattle.entry_record.specs.Authority.{full_form, is_valid_key}
use Rattle.catalogue_rules.specs.State.{KeptField}
use Rattle.catalogue_tables.specs.Waiting.{one_or_two}
use Rattle.linking_laws.specs.Waiting.{asked_forms, is_form_among, names_key}
use Rattle.linked_store.specs.Turning.{Wants}
use Rattle.linked_store.specs.declared.wanted.Sought.{Sought}
use Rattle.linked_store.specs.declared.wanted.Wanted.{Wanted}

-- one or two forms
abbrev pub forms_sought : Sought → List Form
forms_sought sought = one_or_two sought.form sought.other

-- the forms by which a field of a kind is looked up, its full form first
pub record AsksFor (class : Class) (kind : Kind) (h : KeptField) (sought : Sought) : Type 0 where
  pub asks : (form : Form) → is_form_among (forms_sought sought) form ≡ is_form_among (asked_forms class kind h) form
  pub full_first : sought.form ≡ full_form kind class h.field

-- the proper keys that a field names
abbrev pub NamesKeys : KeptField → List Key → Type 0
NamesKeys h keys = (key : Key) → is_valid_key key ≡ true → list_any (same_key key) keys ≡ names_key key h

-- what a field waits for is this, or nothing
abbrev pub IsWanted : Class → KeptField → Option Wanted → Type 0
IsWanted class h None = Wants class h [] []
IsWanted class h (Some wanted) = Wants class h (forms_sought wanted.sought) wanted.keys.items

-- the whole form of a subdivided field, and where it isn't whole its base form too
abbrev pub sought_by : Bool → Form → Form → Sought
sought_by is_whole form base = record { form = form; other = if is_whole then None else Some base }
