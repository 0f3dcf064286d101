-- The tests that tell whether a row is sound alone. The rules are this project's own.
use Rattle.std.specs.Prelude.{ℕ, ◌==◌, ◌+◌, ◌*◌, Bool, ◌&&◌, ◌||◌, not, nat_le, List, length, Option, Some, None, is_some, if◌then◌else◌}
use Rattle.std.specs.List.{sum_by, list_all}
use Rattle.marc_types.specs.Valid.{is_code, is_number}
use Rattle.marc_types.specs.Fields.{tag_of}
use Rattle.marc_types.specs.declared.entry.Tie.{Tie}
use Rattle.marc_types.specs.declared.field.Field.{Field}
use Rattle.marc_types.specs.declared.field.Tag.{Tag}
use Rattle.marc_types.specs.declared.key.Class.{Class}
use Rattle.marc_types.specs.declared.key.Class.TheVariants.{Authority, Bibliographic}
use Rattle.heading_fields.specs.Tables.{is_subdividable}
use Rattle.iso2709_record.specs.Written.{record_length}
use Rattle.entry_record.specs.Authority.{is_heading_field}
use Rattle.entry_record.specs.Identity.{class_of, is_deletion}
use Rattle.catalogue_rules.specs.State.{KeptField, Row}
use Rattle.catalogue_rules.specs.Receipt.{same_class}
use Rattle.catalogue_rules.specs.Valid.{reach}

-- a heading field is a 5XX of an authority record, or a 1XX, 6XX, 7XX or 8XX of a bibliographic one
unfoldable pub may_be_heading : Class → Tag → Bool
may_be_heading Authority tag = tag.a == 53
may_be_heading Bibliographic tag = (tag.a == 49) || (tag.a == 54) || (tag.a == 55) || (tag.a == 56)

-- what a tie may say beside a field with this tag, which is a heading field or not
unfoldable pub suits_field : Class → Tag → Bool → Tie → Bool
suits_field class tag heading tie = (not tie.whole || is_subdividable class tag) && (not (is_some tie.awaits) || heading)

-- the field is sound alone: its tie says only what it may beside such a field
unfoldable pub is_sound_field : Class → KeptField → Bool
is_sound_field class h = suits_field class (tag_of h.field) (is_heading_field class h.field) h.tie

-- the longest that a field can become, where it is sound alone
unfoldable pub sound_reach : Class → KeptField → Option ℕ
sound_reach class h = if is_sound_field class h then Some (reach class h) else None

-- the field is sound alone, and never becomes too long
abbrev pub is_lasting : Class → KeptField → Bool
is_lasting class h = is_sound_field class h && nat_le (reach class h) 9999

-- each field is, and so is the record
unfoldable pub has_sound_fields : Class → List KeptField → Bool
has_sound_fields class fields =
    list_all (is_lasting class) fields && nat_le (26 + 12 * length fields + sum_by (reach class) fields) 99999

-- Neither the record nor a field of it can become too long: a field grows by no more than 596, the longest heading and a `$0` of the
-- longest code and number.
unfoldable pub is_short : List Field → Bool
is_short fields = nat_le (record_length fields) 9403 && nat_le (length fields) 151

-- the class and the key are those of a living record
unfoldable pub is_sound_row : Class → Row → Bool
is_sound_row class row =
    same_class (class_of row.1.leader) class && not (is_deletion row.1.leader) && is_code row.0.code && is_number row.0.number
    && has_sound_fields class row.1.fields
