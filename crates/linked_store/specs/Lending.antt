-- The forms by which the fields of a new record are looked up, as its entry lends them.
use Rattle.std.specs.Prelude.{Bool, false, List, [], Option, None, Some, if◌then◌else◌}
use Rattle.std.specs.Option.{option_copied}
use Rattle.marc_types.specs.declared.form.Form.{Form}
use Rattle.marc_types.specs.declared.key.Class.{Class}
use Rattle.marc_types.specs.declared.key.Key.{Key}
use Rattle.catalogue_rules.specs.State.{KeptField}
use Rattle.linked_store.specs.Turning.{Wants}
use Rattle.linked_store.specs.Wanted.{NamesKeys, forms_sought, sought_by}
use Rattle.linked_store.specs.declared.lending.LentForms.{LentForms}
use Rattle.linked_store.specs.declared.wanted.Sought.{Sought}

-- the forms that are lent
abbrev pub forms_lent : LentForms → Sought
forms_lent lent = record { form = lent.form.now; other = option_copied lent.other }

-- both forms of a subdivided field, of which none is whole yet; of another the base form alone
abbrev pub both_or_base : Bool → Form → Form → Sought
both_or_base divided full base = if divided then sought_by false full base else record { form = base; other = None }

-- the field waits for these forms and for the keys that it names, or for nothing
abbrev pub LendsForms : Class → KeptField → Option Sought → Type 0
LendsForms class h None = Wants class h [] []
LendsForms class h (Some sought) = (keys : List Key) → NamesKeys h keys → Wants class h (forms_sought sought) keys
