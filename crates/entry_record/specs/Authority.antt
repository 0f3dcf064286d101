-- Authority records: the heading that one has, and the forms under which it is found. Source: MARC 21 Format for
-- Authority Data (1XX heading, 4XX see from tracings, 682 deleted heading information); which authorities fields are linked
-- to, and the bound on their headings' length, is this project's profile.
use Rattle.std.specs.Prelude.{ℕ, ◌==◌, Bool, true, false, ◌&&◌, not, nat_le, List, [], ◌∷◌, map, filter, find, Option, Some, None, is_some, if◌then◌else◌, option_and_then}
use Rattle.std.specs.List.{flat_map, before_first, after_first}
use Rattle.std.specs.Option.{option_map, option_map_or}
use Rattle.marc_types.specs.Valid.{is_code, is_number, subfields_size}
use Rattle.marc_types.specs.declared.field.Leader.{Leader}
use Rattle.marc_types.specs.declared.field.Subfield.{Subfield}
use Rattle.marc_types.specs.declared.field.Field.{Field}
use Rattle.marc_types.specs.declared.key.Class.TheVariants.{Authority}
use Rattle.marc_types.specs.declared.key.Class.{Class}
use Rattle.marc_types.specs.declared.key.Key.{Key}
use Rattle.marc_types.specs.declared.form.Kind.{Kind}
use Rattle.marc_types.specs.declared.form.Item.{Item}
use Rattle.marc_types.specs.declared.form.Form.{Form}
use Rattle.marc_types.specs.Order.{kind_rank, same_key}
use Rattle.heading_fields.specs.Tables.{authority_kind_of, kind_of}
use Rattle.heading_fields.specs.Parts.{base_part, full_part, is_subdivided}
use Rattle.marc_types.specs.Fields.{tag_of, subfields_of}
use Rattle.heading_fields.specs.Numbers.{without_blanks}
use Rattle.naco_form.specs.Form.{form_of}
use Rattle.entry_record.specs.Identity.{has_tag}

-- the longest heading: of the base part where a record is admitted, of the full part where an authority is linked to
abbrev pub longest_heading : ℕ
longest_heading = 512

-- a 1XX
abbrev pub is_heading : Field → Bool
is_heading f = (tag_of f).a == 49

-- a 4XX
abbrev pub is_see_from : Field → Bool
is_see_from f = (tag_of f).a == 52

-- the heading of an authority record: its first 1XX
abbrev pub heading_of : List Field → Option Field
heading_of fields = find is_heading fields

-- a form has no item
abbrev pub has_no_item : List Item → Bool
has_no_item [] = true
has_no_item (item ∷ items) = false

-- a form without items is empty
abbrev pub is_empty : Form → Bool
is_empty form = has_no_item form.items

-- the form of a field's base part
abbrev pub base_form : Kind → Field → Form
base_form kind f = form_of kind (base_part kind f)

-- the form of a field's full part
abbrev pub full_form : Kind → Class → Field → Form
full_form kind class f = form_of kind (full_part kind class f)

-- a value, if it passes
abbrev pub option_filter : {A : Type 0} → (A → Bool) → Option A → Option A
option_filter test None = None
option_filter test (Some x) = if test x then Some x else None

-- the base form of that kind isn't empty
unfoldable pub has_form : Field → Kind → Bool
has_form f kind = not (is_empty (base_form kind f))

-- the kind of a heading field: its tag is a heading tag of its class, and its base form isn't empty
unfoldable pub heading_kind : Class → Field → Option Kind
heading_kind class f = option_filter (has_form f) (kind_of class f)

-- the field has a heading tag of its class, and its base form isn't empty
abbrev pub is_heading_field : Class → Field → Bool
is_heading_field class f = is_some (heading_kind class f)

-- with its subdivisions the heading isn't too long
abbrev pub is_short_in_full : Field → Kind → Bool
is_short_in_full heading kind = nat_le (subfields_size (full_part kind Authority heading)) longest_heading

-- the kind of a heading that fields are linked to: one of the eight, its base form isn't empty, and it isn't too long in full
unfoldable pub linkable_kind : Field → Option Kind
linkable_kind heading =
    option_filter (λ kind. has_form heading kind && is_short_in_full heading kind) (authority_kind_of (tag_of heading))

-- whether two kinds are the same
abbrev pub same_kind : Kind → Kind → Bool
same_kind a b = kind_rank a == kind_rank b

-- there is a kind, and it is this one
abbrev pub is_kind : Kind → Option Kind → Bool
is_kind kind found = option_map_or (same_kind kind) found false

-- a tracing of a kind, with a base form that isn't empty
abbrev pub is_tracing_of : Kind → Field → Bool
is_tracing_of kind f = is_see_from f && is_kind kind (option_filter (has_form f) (authority_kind_of (tag_of f)))

-- the forms of its see from tracings of the heading's kind
unfoldable pub see_from_forms : Kind → List Field → List Form
see_from_forms kind fields = map (full_form kind Authority) (filter (is_tracing_of kind) fields)

-- an authority that fields are linked to: its heading, of a kind, and the forms under which it is found
pub record Linkable : Type 0 where
  pub key : Key
  pub kind : Kind
  pub heading : Field
  pub established : Form
  pub see_from : List Form

-- the authority of a key, its fields, its heading and the heading's kind
abbrev pub linkable_with : Key → List Field → Field → Kind → Linkable
linkable_with key fields heading kind = record {
  key = key;
  kind = kind;
  heading = heading;
  established = full_form kind Authority heading;
  see_from = see_from_forms kind fields;
}

-- the authority of a heading that can be linked to, or none
abbrev pub linkable_by : Key → List Field → Field → Option Linkable
linkable_by key fields heading = option_map (linkable_with key fields heading) (linkable_kind heading)

-- an authority is linkable where its heading is
unfoldable pub linkable_of : Key → List Field → Option Linkable
linkable_of key fields = option_and_then (linkable_by key fields) (heading_of fields)

-- its heading has no subdivision
abbrev pub is_bare : Linkable → Bool
is_bare c = not (is_subdivided (subfields_of c.heading))

-- a 682
abbrev pub is_replacement : Field → Bool
is_replacement f = has_tag 54 56 50 (tag_of f)

-- the record control numbers in the fields on a heading's deletion
abbrev pub replacement_numbers : List Field → List Subfield
replacement_numbers fields = filter (λ s. s.code == 48) (flat_map subfields_of (filter is_replacement fields))

-- `(`
abbrev pub is_left_parenthesis : ℕ → Bool
is_left_parenthesis b = b == 0x28

-- `)`
abbrev pub is_right_parenthesis : ℕ → Bool
is_right_parenthesis b = b == 0x29

-- a code up to the first right parenthesis, and the number behind it
abbrev pub key_split_at_parenthesis : List ℕ → Key
key_split_at_parenthesis text = record {
  code = before_first is_right_parenthesis text;
  number = after_first is_right_parenthesis text;
}

-- code and number obey the rules of keys
abbrev pub is_valid_key : Key → Bool
is_valid_key key = is_code key.code && is_number key.number

-- the key whose text this is, if there is one
unfoldable pub key_of_text : List ℕ → Option Key
key_of_text [] = None
key_of_text (b ∷ text) =
    if is_left_parenthesis b then option_filter is_valid_key (Some (key_split_at_parenthesis text)) else None

-- the text of the only `$0`, without its blanks; none where there is none or more than one
abbrev pub only_number_text : List Subfield → Option (List ℕ)
only_number_text (s ∷ []) = Some (without_blanks s.text)
only_number_text _ = None

-- the key that the only `$0` of the 682 fields names
abbrev pub replacement_key : List Field → Option Key
replacement_key fields = option_and_then key_of_text (only_number_text (replacement_numbers fields))

-- the successor of an authority record with leader 05 `x`: its replacement, unless that is its own key
unfoldable pub successor_of : Leader → Key → List Field → Option Key
successor_of l own fields =
    if (l.rtype == 122) && (l.status == 120)
    then option_filter (λ key. not (same_key own key)) (replacement_key fields)
    else None
