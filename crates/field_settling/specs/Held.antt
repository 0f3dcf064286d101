-- What stages make of one field, and the heading from which it is written. The rules are those of `catalogue_rules`.
use Rattle.std.specs.Prelude.{Bool, List, Option, Some, None, option_and_then}
use Rattle.std.specs.Option.{option_map}
use Rattle.marc_types.specs.Fields.{tag_of}
use Rattle.marc_types.specs.declared.field.Field.{Field}
use Rattle.marc_types.specs.declared.form.Kind.{Kind}
use Rattle.marc_types.specs.declared.key.Class.{Class}
use Rattle.marc_types.specs.declared.key.Key.{Key}
use Rattle.heading_fields.specs.Tables.{authority_kind_of}
use Rattle.heading_fields.specs.Rewriting.{rewriting}
use Rattle.entry_record.specs.Authority.{heading_of}
use Rattle.catalogue_rules.specs.State.{KeptField, kept_field}
use Rattle.field_settling.specs.declared.held.Held.{Held}
use Rattle.field_settling.specs.declared.heading.Heading.{Heading}

-- the field and tie that are held
abbrev pub held_as : Held → KeptField
held_as held = kept_field held.field held.tie

-- a field linked to the key, and rewritten from a heading of a kind; it awaits nothing
abbrev pub linked_by : Class → Field → Bool → Key → Kind → Field → KeptField
linked_by class field whole key kind heading = record {
  field = rewriting field kind class heading key whole;
  tie = record { key = Some key; whole = whole; awaits = None };
}

-- the heading's kind and field
abbrev pub heading_as : Heading → Kind × Field
heading_as h = (h.kind, h.field.now)

-- a field with the kind of authority that its tag says
abbrev pub with_kind : Field → Option (Kind × Field)
with_kind f = option_map (λ kind. (kind, f)) (authority_kind_of (tag_of f))

-- the heading of an authority record, with its kind
abbrev pub governing_of : List Field → Option (Kind × Field)
governing_of fields = option_and_then with_kind (heading_of fields)
