-- The heading from which a link is written, and the link.
use Rattle.std.specs.Prelude.{ℕ, Bool, Option, option_and_then}
use Rattle.std.specs.Option.{option_map}
use Rattle.marc_types.specs.declared.field.Field.{Field}
use Rattle.marc_types.specs.declared.form.Kind.{Kind}
use Rattle.marc_types.specs.declared.key.Class.{Class}
use Rattle.marc_types.specs.declared.key.Class.TheVariants.{Authority}
use Rattle.catalogue_rules.specs.State.{KeptField, KeptRecord, fields_of}
use Rattle.field_settling.specs.Held.{governing_of, linked_by}
use Rattle.linked_store.specs.Linked.{Linked, key_of, record_at}

-- the heading of the authority record under the key that has the number, with its kind
abbrev pub heading_under : ℕ → Linked → Option (Kind × Field)
heading_under number x = option_and_then (λ (r : KeptRecord). governing_of (fields_of r)) (record_at Authority number x)

-- a field linked to the authority under the key that has the number, whole or by its base
abbrev pub linked_under : Class → Field → Bool → ℕ → Linked → Option KeptField
linked_under class field whole number x =
    option_map (λ (heading : Kind × Field). linked_by class field whole (key_of Authority number x.keys) heading.0 heading.1) (heading_under number x)
