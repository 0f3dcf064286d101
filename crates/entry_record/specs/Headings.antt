-- The forms of a heading field: its base form, and its full form where its subdivisions make that another one.
use Rattle.std.specs.Prelude.{Bool, ◌&&◌, Option, Some, None, if◌then◌else◌}
use Rattle.std.specs.Option.{option_map}
use Rattle.marc_types.specs.declared.field.Field.{Field}
use Rattle.marc_types.specs.declared.key.Class.{Class}
use Rattle.marc_types.specs.declared.key.Class.TheVariants.{Authority}
use Rattle.marc_types.specs.declared.form.Kind.{Kind}
use Rattle.marc_types.specs.declared.form.Form.{Form}
use Rattle.heading_fields.specs.Tables.{authority_kind_of, kind_of, is_subdividable}
use Rattle.heading_fields.specs.Parts.{is_subdivided}
use Rattle.marc_types.specs.Fields.{tag_of, subfields_of}
use Rattle.entry_record.specs.Authority.{base_form, full_form, has_form, is_see_from, is_kind, linkable_kind, option_filter}
use Rattle.entry_record.specs.declared.headings.HeadingForms.{HeadingForms}

-- the field takes subdivisions, and has one
abbrev pub is_divided : Class → Field → Bool
is_divided class f = is_subdividable class (tag_of f) && is_subdivided (subfields_of f)

-- the full form, where it isn't the base form
abbrev pub divided_form : Kind → Class → Field → Option Form
divided_form kind class f = if is_divided class f then Some (full_form kind class f) else None

-- the base form of a heading of the kind, and its full form where that is another
abbrev pub forms_of_kind : Class → Field → Kind → HeadingForms
forms_of_kind class f kind = record { base = base_form kind f; divided = divided_form kind class f }

-- the forms of a field of that kind, if it has one and its base form isn't empty
unfoldable pub filled_forms : Class → Field → Option Kind → Option HeadingForms
filled_forms class f kind = option_map (forms_of_kind class f) (option_filter (has_form f) kind)

-- the forms of a heading field
abbrev pub heading_forms : Class → Field → Option HeadingForms
heading_forms class f = filled_forms class f (kind_of class f)

-- the full form of an authority's field of that kind, unless its base form is empty
abbrev pub filled_full_form : Field → Kind → Option Form
filled_full_form f kind = if has_form f kind then Some (full_form kind Authority f) else None

-- the established form of a heading that fields are linked to
abbrev pub established_form : Field → Option Form
established_form heading = option_map (λ kind. full_form kind Authority heading) (linkable_kind heading)

-- a see from tracing whose tag is of that kind
abbrev pub is_tracing_tag : Kind → Field → Bool
is_tracing_tag kind f = is_see_from f && is_kind kind (authority_kind_of (tag_of f))
