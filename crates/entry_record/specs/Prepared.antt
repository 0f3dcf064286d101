-- What a catalogue asks of an entry: the forms of its authority and of its heading fields, and its successor.
use Rattle.std.specs.Prelude.{◌≡◌, ℕ, Bool, true, not, List, [], map, slice_get, Option, None, option_and_then}
use Rattle.std.specs.Option.{option_map, option_map_or}
use Rattle.marc_types.specs.Fields.{subfields_of}
use Rattle.marc_types.specs.declared.field.Field.{Field}
use Rattle.marc_types.specs.declared.key.Class.{Class}
use Rattle.marc_types.specs.declared.key.Class.TheVariants.{Authority, Bibliographic}
use Rattle.marc_types.specs.declared.key.Key.{Key}
use Rattle.marc_types.specs.declared.form.Form.{Form}
use Rattle.marc_types.specs.declared.entry.Entry.{Entry}
use Rattle.marc_types.specs.declared.record.Record.{Record}
use Rattle.heading_fields.specs.Parts.{is_subdivided}
use Rattle.entry_record.specs.Identity.{class_of, is_deletion, key_of}
use Rattle.entry_record.specs.Authority.{Linkable, linkable_of, base_form, full_form, heading_kind, heading_of, successor_of}
use Rattle.entry_record.specs.Headings.{heading_forms}
use Rattle.entry_record.specs.declared.facts.Facts.{Facts}

-- the authority that fields can be linked to, if the fields are those of one
abbrev pub authority_in : Class → Key → List Field → Option Linkable
authority_in Authority key fields = linkable_of key fields
authority_in Bibliographic key fields = None

-- the established form of an authority, where there is one
abbrev pub established_in : Option Linkable → Option Form
established_in authority = option_map (λ c. c.established) authority

-- an authority that isn't linkable has no see from forms
abbrev pub see_from_in : Option Linkable → List Form
see_from_in authority = option_map_or (λ c. c.see_from) authority []

-- the authority that an entry is, where it can be linked to
abbrev pub authority_of : Entry → Option Linkable
authority_of e = authority_in e.class e.key e.rec.fields

-- the established form of the entry's authority
abbrev pub established_of : Entry → Option Form
established_of e = established_in (authority_of e)

-- the see from forms of the entry's authority
abbrev pub see_from_of : Entry → List Form
see_from_of e = see_from_in (authority_of e)

-- the base form of a heading field, none of any other
abbrev pub heading_base_form : Class → Field → Option Form
heading_base_form class f = option_map (λ kind. base_form kind f) (heading_kind class f)

-- the full form of a heading field, none of any other
abbrev pub heading_full_form : Class → Field → Option Form
heading_full_form class f = option_map (λ kind. full_form kind class f) (heading_kind class f)

-- the base form of the heading field at a place, if there is one
unfoldable pub field_form_of : Entry → ℕ → Option Form
field_form_of e place = option_and_then (heading_base_form e.class) (slice_get e.rec.fields place)

-- the full form of the heading field at a place, if there is one
unfoldable pub full_form_of : Entry → ℕ → Option Form
full_form_of e place = option_and_then (heading_full_form e.class) (slice_get e.rec.fields place)

-- the key that the entry's authority hands its links on to
abbrev pub entry_successor : Entry → Option Key
entry_successor e = successor_of e.rec.leader e.key e.rec.fields

-- the heading of an authority's fields has no subdivision
abbrev pub has_bare_heading : List Field → Bool
has_bare_heading fields = option_map_or (λ f. not (is_subdivided (subfields_of f))) (heading_of fields) true

-- the entry that a loader brings: its file's piece of that ordinal, in no run yet
abbrev pub new_entry : List ℕ → ℕ → ℕ → Record → Entry
new_entry library loader ordinal rec = record {
  loader = loader;
  ordinal = ordinal;
  rec = rec;
  class = class_of rec.leader;
  key = key_of library rec.fields;
  run = 0;
  library = library;
}

-- the entry that stands for a record that is under its key already: no loader's, in no run
abbrev pub kept_entry : Class → Key → Record → Entry
kept_entry class key rec = record {
  loader = 0;
  ordinal = 0;
  rec = rec;
  class = class;
  key = key;
  run = 0;
  library = [];
}

-- what a commit asks of an entry of that class under that key, beside its record
pub record AreFacts (class : Class) (key : Key) (rec : Record) (facts : Facts) : Type 0 where
  pub deletes_is : facts.deletes ≡ is_deletion rec.leader
  pub bare_is : facts.bare ≡ has_bare_heading rec.fields
  pub established_is : facts.established ≡ established_in (authority_in class key rec.fields)
  pub see_from_is : facts.see_from ≡ see_from_in (authority_in class key rec.fields)
  pub headings_are : facts.headings ≡ map (heading_forms class) rec.fields
  pub successor_is : facts.successor ≡ successor_of rec.leader key rec.fields
