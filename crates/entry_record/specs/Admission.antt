-- Which records a catalogue takes. The rules are this project's own: every kept record has to fit, whatever headings it is
-- given later.
use Rattle.std.specs.Prelude.{ℕ, ◌+◌, ◌*◌, ◌==◌, Bool, false, ◌&&◌, ◌||◌, not, nat_lt, List, Option, Some, None, if◌then◌else◌}
use Rattle.std.specs.List.{list_any, count_by}
use Rattle.std.specs.Option.{option_map_or, is_none}
use Rattle.marc_types.specs.Valid.{is_code, is_number, subfields_size}
use Rattle.marc_types.specs.declared.field.Leader.{Leader}
use Rattle.marc_types.specs.declared.field.Field.{Field}
use Rattle.marc_types.specs.declared.key.Class.{Class}
use Rattle.marc_types.specs.declared.refusal.Refusal.{Refusal}
use Rattle.marc_types.specs.declared.refusal.Refusal.TheVariants.{OtherType, NoNumber, BadCode, NoHeading, HeadingTooLong, NoRoom}
use Rattle.heading_fields.specs.Tables.{authority_kind_of}
use Rattle.heading_fields.specs.Parts.{base_part}
use Rattle.marc_types.specs.Fields.{tag_of}
use Rattle.iso2709_record.specs.Written.{record_length, field_length}
use Rattle.entry_record.specs.Identity.{class_of, is_known_type, is_deletion, control_number_of, code_of}
use Rattle.entry_record.specs.Authority.{longest_heading, is_see_from, heading_of, is_heading_field}

-- authority data that isn't a deletion
abbrev pub is_living_authority : Leader → Bool
is_living_authority l = (l.rtype == 122) && not (is_deletion l)

-- the length of a heading: that of its base part; a tag that is none of the eight kinds has none
abbrev pub heading_length : Field → ℕ
heading_length f = option_map_or (λ kind. subfields_size (base_part kind f)) (authority_kind_of (tag_of f)) 0

-- the base part of the heading is longer than 512
abbrev pub is_too_long : Field → Bool
is_too_long f = nat_lt longest_heading (heading_length f)

-- the heading or a see from tracing is too long
unfoldable pub has_long_heading : List Field → Bool
has_long_heading fields =
    option_map_or is_too_long (heading_of fields) false || list_any (λ f. is_see_from f && is_too_long f) fields

-- what a heading field may grow by: a heading of 512 and a `$0` of 84, rounded up
abbrev pub heading_growth : ℕ
heading_growth = 600

-- a field's written length, of a heading field with the 600 by which it may grow
abbrev pub grown_length : Class → Field → ℕ
grown_length class f = if is_heading_field class f then field_length f + heading_growth else field_length f

-- the record, or one of its fields, can become too long
unfoldable pub has_no_room : Class → List Field → Bool
has_no_room class fields =
    nat_lt 99999 (record_length fields + heading_growth * count_by (is_heading_field class) fields)
    || list_any (λ f. nat_lt 9999 (grown_length class f)) fields

-- the first reason for which a catalogue doesn't take a record of a file with this library code
unfoldable pub admission_refusal : List ℕ → Leader → List Field → Option Refusal
admission_refusal library l fields =
    if not (is_known_type l.rtype) then Some OtherType
    else if not (is_number (control_number_of fields)) then Some NoNumber
    else if not (is_code (code_of library fields)) then Some BadCode
    else if is_living_authority l && is_none (heading_of fields) then Some NoHeading
    else if is_living_authority l && has_long_heading fields then Some HeadingTooLong
    else if has_no_room (class_of l) fields then Some NoRoom
    else None
