-- What the types of texts say of a field: each is UTF-8.
use Rattle.std.specs.Prelude.{ℕ, List, IsUtf8, All}
use Rattle.marc_types.specs.declared.field.Tag.{Tag}
use Rattle.marc_types.specs.declared.field.Subfield.{Subfield}
use Rattle.marc_types.specs.declared.field.Field.{Field}
use Rattle.marc_types.specs.declared.field.Field.TheVariants.{Control, Variable}
use Rattle.iso2709_record.specs.Spelling.{IsFieldOf}

-- the text of a subfield
abbrev pub HasUtf8Text : Subfield → Type 0
HasUtf8Text s = IsUtf8 s.text

-- the text of a control field, or each subfield's
abbrev pub HasUtf8Texts : Field → Type 0
HasUtf8Texts (Control tag text) = IsUtf8 text
HasUtf8Texts (Variable tag ind1 ind2 subs) = All HasUtf8Text subs

-- the tag and the bytes before the terminator are those of a field whose texts are UTF-8
pub record SpellsField (tag : Tag) (bytes : List ℕ) : Type 0 where
  pub field : Field
  pub is : IsFieldOf tag bytes field
  pub texts : HasUtf8Texts field
