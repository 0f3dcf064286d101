-- Subfields in the bytes of a data field. Source: MARC 21 Specifications for Record Structure, variable data fields.
use Rattle.std.specs.Prelude.{◌≡◌, ℕ, true, List, ◌∷◌, map}
use Rattle.std.specs.List.{flat_map, list_all}
use Rattle.marc_types.specs.Valid.{is_text, is_subfield}
use Rattle.marc_types.specs.declared.field.Subfield.{Subfield}

-- a delimiter, a code and a text
abbrev pub spelled : Subfield → List ℕ
spelled subfield = 0x1f ∷ subfield.code ∷ subfield.text

-- the bytes are these subfields, one behind the other
pub record Spells (bytes : List ℕ) (subfields : List Subfield) : Type 0 where
  pub spells : flat_map spelled subfields ≡ bytes
  pub valid : list_all is_subfield subfields ≡ true

-- a text without delimiters and terminators stays one; where the bytes are subfields, the text is as many, with the same codes
pub record KeepsSubfields (bytes text : List ℕ) : Type 0 where
  pub control : is_text bytes ≡ true → is_text text ≡ true
  pub «data» : (source : List Subfield) → Spells bytes source →
      (subfields : List Subfield) × Spells text subfields × (map (λ s. s.code) subfields ≡ map (λ s. s.code) source)
