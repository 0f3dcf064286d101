-- The headings of authorities, as a worklist shows and compares them. Source of the tags: MARC 21 Format for Authority Data (1XX heading).
use Rattle.std.specs.Prelude.{Option, option_and_then}
use Rattle.std.specs.Option.{option_map}
use Rattle.marc_types.specs.Fields.{tag_of}
use Rattle.marc_types.specs.declared.field.Field.{Field}
use Rattle.marc_types.specs.declared.form.Form.{Form}
use Rattle.marc_types.specs.declared.form.Kind.{Kind}
use Rattle.marc_types.specs.declared.key.Class.TheVariants.{Authority}
use Rattle.marc_types.specs.declared.key.Key.{Key}
use Rattle.heading_fields.specs.Tables.{authority_kind_of}
use Rattle.entry_record.specs.Authority.{full_form}
use Rattle.catalogue_rules.specs.State.{KeptRecord, State}
use Rattle.catalogue_rules.specs.Receipt.{kept_under}
use Rattle.heading_worklist.specs.Texts.{name_field}
use Rattle.heading_worklist.specs.declared.authorities.AuthorityHeading.{AuthorityHeading}

-- a field as the heading of a kind
abbrev pub as_heading : Field → Kind → AuthorityHeading
as_heading field kind = record { kind = kind; field = field }

-- the heading that a 1XX is, where its tag is of a kind
abbrev pub heading_as : Field → Option AuthorityHeading
heading_as field = option_map (as_heading field) (authority_kind_of (tag_of field))

-- the heading of an authority record: its first 1XX
abbrev pub heading_in : KeptRecord → Option AuthorityHeading
heading_in r = option_and_then (λ h. heading_as h.field) (name_field Authority r)

-- the heading of the authority record under a key
abbrev pub heading_under : State → Key → Option AuthorityHeading
heading_under s key = option_and_then heading_in (kept_under Authority key s)

-- the form by which its authority is found
abbrev pub form_of_heading : AuthorityHeading → Form
form_of_heading h = full_form h.kind Authority h.field
