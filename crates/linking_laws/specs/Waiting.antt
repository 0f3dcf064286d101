-- Which unlinked headings wait for an authority: by the forms that they ask for, and by the keys that they name. The rules are
-- this project's own.
use Rattle.std.specs.Prelude.{◌≡◌, Bool, true, false, ◌||◌, not, List, [], ◌∷◌, ◌++◌, filter, find, is_some, if◌then◌else◌}
use Rattle.std.specs.List.{list_any}
use Rattle.std.specs.Option.{option_map_or}
use Rattle.marc_types.specs.declared.key.Class.{Class}
use Rattle.marc_types.specs.declared.key.Key.{Key}
use Rattle.marc_types.specs.declared.form.Kind.{Kind}
use Rattle.marc_types.specs.declared.form.Form.{Form}
use Rattle.marc_types.specs.Fields.{subfields_of}
use Rattle.heading_fields.specs.Numbers.{is_naming}
use Rattle.entry_record.specs.Authority.{Linkable, heading_kind, base_form, full_form}
use Rattle.catalogue_rules.specs.State.{KeptField}
use Rattle.catalogue_rules.specs.Choice.{has_key, takes_subdivisions, asks_base}
use Rattle.marc_types.specs.Order.{same_form}
use Rattle.catalogue_rules.specs.Settle.{is_linked_to, awaits_key}

-- the full form of a field, where it takes subdivisions
abbrev pub asked_full : Class → Kind → KeptField → List Form
asked_full class kind h = if takes_subdivisions class h then full_form kind class h.field ∷ [] else []

-- the base form of a field, where it is looked up by its base
abbrev pub asked_base : Class → Kind → KeptField → List Form
asked_base class kind h = if asks_base class h then base_form kind h.field ∷ [] else []

-- the form is one of these
abbrev pub is_form_among : List Form → Form → Bool
is_form_among forms form = list_any (same_form form) forms

-- the same forms are in both lists
abbrev pub AreSameForms : List Form → List Form → Type 0
AreSameForms forms others = (form : Form) → is_form_among forms form ≡ is_form_among others form

-- the forms by which a field of a kind is looked up, equal ones once
unfoldable pub asked_forms : Class → Kind → KeptField → List Form
asked_forms class kind h =
    asked_full class kind h ++ filter (λ form. not (is_form_among (asked_full class kind h) form)) (asked_base class kind h)

-- one of these forms is looked up for the field
abbrev pub asks_for : List Form → Class → Kind → KeptField → Bool
asks_for forms class kind h = list_any (is_form_among forms) (asked_forms class kind h)

-- a `$0` of the field names the key, or the field awaits it
abbrev pub names_key : Key → KeptField → Bool
names_key key h = list_any (is_naming key) (subfields_of h.field) || awaits_key key h

-- a field of a kind asks for one of the forms or names the key
abbrev pub is_named : List Form → Key → Class → Kind → KeptField → Bool
is_named forms key class kind h = asks_for forms class kind h || names_key key h

-- an unlinked heading field that asks for one of the forms or names the key
unfoldable pub is_waiting_for : List Form → Key → Class → KeptField → Bool
is_waiting_for forms key class h =
    if is_some h.tie.key then false
    else option_map_or (λ kind. is_named forms key class kind h) (heading_kind class h.field) false

-- a field linked to the key, or waiting for it or for one of the forms
abbrev pub is_touched : List Form → Key → Class → KeptField → Bool
is_touched forms key class h = is_linked_to key h || is_waiting_for forms key class h

-- the forms under which an authority is found
abbrev pub forms_of : Linkable → List Form
forms_of c = c.established ∷ c.see_from

-- the forms of the authority under a key, or none
abbrev pub forms_under : Key → List Linkable → List Form
forms_under key authorities = option_map_or forms_of (find (has_key key) authorities) []

-- the forms under which the key's authority is found before or now
abbrev pub forms_touched : Key → List Linkable → List Linkable → List Form
forms_touched key before now = forms_under key before ++ forms_under key now

-- the authorities without those under one key
abbrev pub others_of : Key → List Linkable → List Linkable
others_of key authorities = filter (λ c. not (has_key key c)) authorities

-- where the authority is the key's, none of its forms is looked up for the field
abbrev pub IsUnasked : Key → Class → Kind → KeptField → Linkable → Type 0
IsUnasked key class kind h c = has_key key c ≡ true → asks_for (forms_of c) class kind h ≡ false
