-- What a field's data says. Source: MARC 21 Specifications for Record Structure: a control field has a text, any other
-- field two indicators, and subfields that each begin with a delimiter and a code.
use Rattle.std.specs.Prelude.{◌≡◌, ℕ, true, List, [], ◌∷◌, Option, None, Some}
use Rattle.std.specs.List.{flat_map, list_all}
use Rattle.marc_types.specs.declared.field.Tag.{Tag}
use Rattle.marc_types.specs.declared.field.Subfield.{Subfield}
use Rattle.marc_types.specs.declared.field.Field.{Field}
use Rattle.marc_types.specs.Valid.{is_subfield, is_field}
use Rattle.iso2709_record.specs.declared.subfields.Cut.{Cut}
use Rattle.iso2709_record.specs.Written.{subfield_bytes, field_data}
use Rattle.marc_types.specs.Fields.{tag_of}

-- the bytes spell these subfields: valid ones, which written one after the other are the bytes
pub record Spells (subfields : List Subfield) (bytes : List ℕ) : Type 0 where
  pub valid : list_all is_subfield subfields ≡ true
  pub whole : flat_map subfield_bytes subfields ≡ bytes

-- the tag and the bytes before the terminator are those of this field: a valid one, which is written so
pub record IsFieldOf (tag : Tag) (bytes : List ℕ) (field : Field) : Type 0 where
  pub valid : is_field field ≡ true
  pub its_tag : tag_of field ≡ tag
  pub its_bytes : field_data field ≡ bytes

-- the cut off subfield is this one, and the bytes behind it spell the others
pub record CutsOff (subfield : Subfield) (others : List Subfield) (cut : Cut) : Type 0 where
  pub code : cut.code ≡ subfield.code
  pub text : cut.text.now ≡ subfield.text
  pub rest : Spells others cut.rest.now

-- a cut gives the first of the subfields, where there is one
abbrev pub IsFirstOf : List Subfield → Option Cut → Type 0
IsFirstOf [] None = Unit {0}
IsFirstOf [] (Some cut) = ⊥
IsFirstOf (subfield ∷ others) None = ⊥
IsFirstOf (subfield ∷ others) (Some cut) = CutsOff subfield others cut
