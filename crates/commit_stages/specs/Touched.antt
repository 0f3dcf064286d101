-- What the choice makes of the fields that wait for an authority, or for one of some forms. The rules are this project's own.
use Rattle.std.specs.Prelude.{ℕ, List}
use Rattle.std.specs.Borrow.{Bor}
use Rattle.marc_types.specs.declared.form.Form.{Form}
use Rattle.marc_types.specs.declared.key.Class.{Class}
use Rattle.marc_types.specs.declared.key.Class.TheVariants.{Authority}
use Rattle.catalogue_rules.specs.State.{KeptField, linkable_authorities}
use Rattle.catalogue_tables.specs.Lent.{shown_forms}
use Rattle.linking_laws.specs.Stages.{choose_field}
use Rattle.linking_laws.specs.Visits.{choose_visits}
use Rattle.linked_store.specs.Linked.{Linked, key_of}

-- what it makes of a field, where it waits for the authority under the key that has the number, or for one of these forms
abbrev pub choose_for : List (Bor Form) → ℕ → Linked → Class → KeptField → KeptField
choose_for forms number x = choose_field (linkable_authorities x.state) (shown_forms forms) (key_of Authority number x.keys)

-- how many visits it takes
abbrev pub choose_visits_for : List (Bor Form) → ℕ → Linked → Class → KeptField → ℕ
choose_visits_for forms number x = choose_visits (linkable_authorities x.state) (shown_forms forms) (key_of Authority number x.keys)
