-- What every state of a catalogue is, whatever was committed. The rules are this project's own.
use Rattle.std.specs.Prelude.{◌≡◌, ℕ, ◌+◌, ◌*◌, ◌≤◌, true, List, length, max, find, All, Option, Some, None, is_some, IfSome}
use Rattle.std.specs.List.{sum_by}
use Rattle.std.specs.List.Sorted.{IsStrictlySortedBy}
use Rattle.std.specs.Map.{keys_of}
use Rattle.std.specs.Option.{option_map_or}
use Rattle.marc_types.specs.Valid.{is_code, is_number, subfields_size}
use Rattle.marc_types.specs.Order.{key_cmp}
use Rattle.marc_types.specs.declared.field.Subfield.{Subfield}
use Rattle.marc_types.specs.declared.key.Class.{Class}
use Rattle.marc_types.specs.declared.key.Class.TheVariants.{Authority, Bibliographic}
use Rattle.marc_types.specs.declared.key.Key.{Key}
use Rattle.marc_types.specs.declared.form.Kind.{Kind}
use Rattle.heading_fields.specs.Parts.{base_part, field_part, field_outside}
use Rattle.marc_types.specs.Fields.{tag_of}
use Rattle.heading_fields.specs.Numbers.{unnumbered}
use Rattle.heading_fields.specs.Rewriting.{rewriting}
use Rattle.heading_fields.specs.Tables.{is_subdividable}
use Rattle.iso2709_record.specs.Written.{field_length}
use Rattle.entry_record.specs.Identity.{class_of}
use Rattle.entry_record.specs.Authority.{Linkable, longest_heading, heading_kind, is_heading_field}
use Rattle.catalogue_rules.specs.State.{KeptField, Row, State, linkable_authorities}
use Rattle.catalogue_rules.specs.Choice.{Choice, Link, Ambiguous, Unlinked, has_key, choice}
use Rattle.catalogue_rules.specs.Settle.{keeps_link}

-- of every row of either class
abbrev pub EachRow : (Class → Row → Type 0) → State → Type 0
EachRow P s = All (P Authority) s.authorities × All (P Bibliographic) s.bibliographic

-- of every field of every row
abbrev pub EachField : (Class → KeptField → Type 0) → State → Type 0
EachField P s = EachRow (λ class row. All (P class) row.1.fields) s

-- the keys ascend strictly
abbrev pub IsAscending : List Row → Type 0
IsAscending rows = IsStrictlySortedBy key_cmp (keys_of rows)

-- the record is of its list's class, and its key's code and number obey the rules of keys
pub record IsRow (class : Class) (row : Row) : Type 0 where
  pub class_is : class_of row.1.leader ≡ class
  pub code : is_code row.0.code ≡ true
  pub number : is_number row.0.number ≡ true

-- the base part of an authority's heading isn't too long
abbrev pub IsShort : Linkable → Type 0
IsShort c = subfields_size (base_part c.kind c.heading) ≤ longest_heading

-- Only a heading field is linked. Its authority is there, is linkable and of the field's kind, and the authority's heading is
-- bare where the field isn't whole.
pub record IsLink (authorities : List Linkable) (class : Class) (h : KeptField) (key : Key) : Type 0 where
  pub heading : is_heading_field class h.field ≡ true
  pub kept : keeps_link authorities class h key ≡ true
  pub unawaiting : h.tie.awaits ≡ None

-- only an unlinked heading field awaits a key, and only a field that takes subdivisions is whole
pub record IsTied (authorities : List Linkable) (class : Class) (h : KeptField) : Type 0 where
  pub linked : IfSome h.tie.key (IsLink authorities class h)
  pub awaits : is_some h.tie.awaits ≡ true → is_heading_field class h.field ≡ true
  pub whole : h.tie.whole ≡ true → is_subdividable class (tag_of h.field) ≡ true

-- the field equals its rewriting from an authority, whole or by its base as its tie says
abbrev pub IsRewrittenFrom : Class → KeptField → Linkable → Type 0
IsRewrittenFrom class h c = rewriting h.field c.kind class c.heading c.key h.tie.whole ≡ h.field

-- a linked field equals its rewriting from its authority
abbrev pub IsRewritten : List Linkable → Class → KeptField → Type 0
IsRewritten authorities class h = IfSome h.tie.key (λ key. IfSome (find (has_key key) authorities) (IsRewrittenFrom class h))

-- a choice that is no link
abbrev pub IsNoLink : Choice → Type 0
IsNoLink (Link c whole) = ⊥
IsNoLink (Ambiguous keys) = Unit {0}
IsNoLink Unlinked = Unit {0}

-- the choice of an unlinked heading field is no link
abbrev pub IsSettled : List Linkable → Class → KeptField → Type 0
IsSettled authorities class h =
    h.tie.key ≡ None → IfSome (heading_kind class h.field) (λ kind. IsNoLink (choice authorities class kind h))

-- only a heading field is linked
abbrev pub IsLinkOfHeading : Class → KeptField → Type 0
IsLinkOfHeading class h = is_some h.tie.key ≡ true → is_heading_field class h.field ≡ true

-- what a state has before it is settled: authorities in key order under proper keys, and links of heading fields alone
pub record IsReadyToSettle (s : State) : Type 0 where
  pub authorities_ascend : IsAscending s.authorities
  pub authority_rows : All (IsRow Authority) s.authorities
  pub links : EachField IsLinkOfHeading s

-- the subfields without each `$0` that names the linked key, where there is one
abbrev pub other_subfields : Option Key → List Subfield → List Subfield
other_subfields None subs = subs
other_subfields (Some key) subs = unnumbered key subs

-- two indicators and a terminator
abbrev pub frame_length : ℕ
frame_length = 3

-- a `$0` of the longest code and number
abbrev pub number_length : ℕ
number_length = 84

-- the longest that a heading field can become: what stands outside its part, its part or the longest heading, and a `$0`
abbrev pub heading_reach : Class → KeptField → Kind → ℕ
heading_reach class h kind =
    frame_length
    + subfields_size (other_subfields h.tie.key (field_outside h.tie.whole kind class h.field))
    + max (subfields_size (field_part h.tie.whole kind class h.field)) longest_heading
    + number_length

-- the longest that a field can become
unfoldable pub reach : Class → KeptField → ℕ
reach class h = option_map_or (heading_reach class h) (heading_kind class h.field) (field_length h.field)

-- the record fits, whatever headings it is given: a leader, a directory, its fields at their longest, and terminators
pub record HasRoom (class : Class) (row : Row) : Type 0 where
  pub record_fits : 26 + 12 * length row.1.fields + sum_by (reach class) row.1.fields ≤ 99999
  pub fields_fit : All (λ h. reach class h ≤ 9999) row.1.fields

-- A valid state: rows in key order under proper keys, short headings, links to authorities that are there, linked fields
-- rewritten, no unlinked field with a link to choose, and room in each record. (One tie per field holds by the form of rows.)
pub record IsValid (s : State) : Type 0 where
  pub authorities_ascend : IsAscending s.authorities
  pub bibliographic_ascend : IsAscending s.bibliographic
  pub rows : EachRow IsRow s
  pub headings : All IsShort (linkable_authorities s)
  pub ties : EachField (IsTied (linkable_authorities s)) s
  pub rewritten : EachField (IsRewritten (linkable_authorities s)) s
  pub settled : EachField (IsSettled (linkable_authorities s)) s
  pub room : EachRow HasRoom s
