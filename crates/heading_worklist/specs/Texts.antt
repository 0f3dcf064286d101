-- Texts of headings and records, as a worklist shows them. Source of the tags and codes: MARC 21 (1XX, 245 `$a $b $n $p`, `$0`). Which
-- of them are shown, and how they are joined, is this project's own.
use Rattle.std.specs.Prelude.{ℕ, ◌==◌, Bool, ◌&&◌, ◌||◌, nat_le, List, [], filter, find, codes, take, map, Option}
use Rattle.std.specs.List.{join_by}
use Rattle.std.specs.Option.{option_map_or}
use Rattle.marc_types.specs.Fields.{tag_of, subfields_of}
use Rattle.marc_types.specs.declared.field.Field.{Field}
use Rattle.marc_types.specs.declared.field.Subfield.{Subfield}
use Rattle.marc_types.specs.declared.key.Class.{Class}
use Rattle.marc_types.specs.declared.key.Class.TheVariants.{Authority, Bibliographic}
use Rattle.marc_types.specs.declared.key.Key.{Key}
use Rattle.marc_types.specs.declared.form.Kind.{Kind}
use Rattle.marc_types.specs.declared.form.Kind.TheVariants.{Personal, Corporate, Meeting, Title, Chronological, Topical, Geographic, Genre}
use Rattle.heading_fields.specs.Parts.{full_part}
use Rattle.heading_fields.specs.Numbers.{key_text}
use Rattle.entry_record.specs.Authority.{is_heading}
use Rattle.entry_record.specs.Identity.{has_tag}
use Rattle.catalogue_rules.specs.State.{KeptField, KeptRecord}

-- how a list names a kind
abbrev pub kind_word : Kind → List ℕ
kind_word Personal = codes "personal"
kind_word Corporate = codes "corporate"
kind_word Meeting = codes "meeting"
kind_word Title = codes "title"
kind_word Chronological = codes "chronological"
kind_word Topical = codes "topical"
kind_word Geographic = codes "geographic"
kind_word Genre = codes "genre"

-- texts, a separator between each two
abbrev pub joined_by : List ℕ → List (List ℕ) → List ℕ
joined_by separator texts = join_by (λ text. text) separator texts

-- the texts of subfields
abbrev pub texts_of : List Subfield → List (List ℕ)
texts_of subs = map (λ s. s.text) subs

-- the texts of subfields, a blank between each two
abbrev pub joined : List Subfield → List ℕ
joined subs = joined_by (codes " ") (texts_of subs)

-- the text of a heading: its full part
abbrev pub heading_text : Kind → Class → Field → List ℕ
heading_text kind class f = joined (full_part kind class f)

-- `a` to `z`
abbrev pub is_letter : Subfield → Bool
is_letter s = nat_le 97 s.code && nat_le s.code 122

-- the text of a field: its subfields whose code is a letter
abbrev pub field_text : Field → List ℕ
field_text f = joined (filter is_letter (subfields_of f))

-- a 245
abbrev pub is_title : Field → Bool
is_title f = has_tag 50 52 53 (tag_of f)

-- `$a`, `$b`, `$n` or `$p`
abbrev pub is_of_title : Subfield → Bool
is_of_title s = (s.code == 97) || (s.code == 98) || (s.code == 110) || (s.code == 112)

-- the title of a 245
abbrev pub title_text : Field → List ℕ
title_text f = joined (filter is_of_title (subfields_of f))

-- what names a record: an authority's 1XX, a publication's 245
abbrev pub is_name : Class → Field → Bool
is_name Authority f = is_heading f
is_name Bibliographic f = is_title f

-- the text of what names a record
abbrev pub name_text : Class → Field → List ℕ
name_text Authority f = field_text f
name_text Bibliographic f = title_text f

-- the field that names a kept record: the first of these
abbrev pub name_field : Class → KeptRecord → Option KeptField
name_field class r = find (λ h. is_name class h.field) r.fields

-- what a kept record is called
abbrev pub name_of_kept : Class → KeptRecord → List ℕ
name_of_kept class r = option_map_or (λ h. name_text class h.field) (name_field class r) []

-- a `$0`
abbrev pub is_identifier : Subfield → Bool
is_identifier s = s.code == 48

-- texts in one cell are parted by ` | `
abbrev pub bar : List ℕ
bar = codes " | "

-- the texts of a field's `$0`
abbrev pub identifiers_text : Field → List ℕ
identifiers_text f = joined_by bar (texts_of (filter is_identifier (subfields_of f)))

-- of many keys a cell shows the first twenty
abbrev pub first_keys : List Key → List Key
first_keys keys = take 20 keys

-- the texts of keys
abbrev pub keys_text : List Key → List ℕ
keys_text keys = joined_by bar (map key_text (first_keys keys))
