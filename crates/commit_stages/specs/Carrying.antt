-- The heading that a commit carries to the fields linked to its key.
use Rattle.std.specs.Prelude.{◌≡◌, ℕ, true, List, Some, find}
use Rattle.std.specs.Option.{option_map}
use Rattle.marc_types.specs.Valid.{is_field, is_text}
use Rattle.marc_types.specs.declared.field.Field.{Field}
use Rattle.marc_types.specs.declared.form.Kind.{Kind}
use Rattle.marc_types.specs.declared.key.Class.{Class}
use Rattle.marc_types.specs.declared.key.Key.{Key}
use Rattle.entry_record.specs.Authority.{Linkable}
use Rattle.catalogue_rules.specs.State.{KeptField, State, linkable_authorities}
use Rattle.catalogue_rules.specs.Choice.{has_key}
use Rattle.catalogue_rules.specs.Settle.{is_linked_to}
use Rattle.linking_laws.specs.Stages.{carry_by, carry_field}
use Rattle.linking_laws.specs.Visits.{carry_visits}
use Rattle.linking_laws.specs.Weights.{one_if}
use Rattle.linked_store.specs.Linked.{Linked}
use Rattle.commit_stages.specs.Choosing.{heading_under}

-- the kind and the heading of an authority
abbrev pub heading_in : Linkable → Kind × Field
heading_in c = (c.kind, c.heading)

-- the key's authority among these has this heading of this kind; key and heading can stand in a record
pub record IsHeadingOf (key : Key) (heading : Kind × Field) (all : List Linkable) : Type 0 where
  pub found : option_map heading_in (find (has_key key) all) ≡ Some heading
  pub proper : is_field heading.1 ≡ true
  pub code : is_text key.code ≡ true
  pub number : is_text key.number ≡ true

-- a heading stands under the number, and it is that of the key's authority
pub record CanCarry (key : Key) (number : ℕ) (x : Linked) : Type 0 where
  pub heading : Kind × Field
  pub under : heading_under number x ≡ Some heading
  pub is_of : IsHeadingOf key heading (linkable_authorities x.state)

-- what carrying makes of a field
abbrev pub carry_heading : Key → Kind × Field → Class → KeptField → KeptField
carry_heading key heading class h = carry_field key heading.1 heading.0 class h

-- what carrying makes of a field, from the heading of the key's authority in a state, if fields can be linked to it
abbrev pub carry_in : Key → State → Class → KeptField → KeptField
carry_in key s = carry_by key (find (has_key key) (linkable_authorities s))

-- how many visits it takes
abbrev pub carry_visits_in : Key → State → Class → KeptField → ℕ
carry_visits_in key s = carry_visits key (find (has_key key) (linkable_authorities s))

-- one visit where the field is linked to the key
abbrev pub linked_visits : Key → Class → KeptField → ℕ
linked_visits key class h = one_if (is_linked_to key h)
