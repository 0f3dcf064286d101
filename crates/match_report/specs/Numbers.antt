-- The numbers by which libraries name a book, in a record. Source: MARC 21 Format for Bibliographic Data, fields 020 (ISBN) and
-- 010 (Library of Congress control number, LCCN). The LCCN's structure has prefix, year and serial number with blanks that
-- fill its places; here it is any text that is a control number once its blanks are gone.
use Rattle.std.specs.Prelude.{ℕ, ◌==◌, List, [], ◌++◌, Option, Some, None, if◌then◌else◌}
use Rattle.std.specs.List.{flat_map, filter_map}
use Rattle.std.specs.Option.{option_map}
use Rattle.marc_types.specs.Valid.{is_number}
use Rattle.marc_types.specs.Fields.{tag_of, subfields_of}
use Rattle.marc_types.specs.declared.field.Field.{Field}
use Rattle.marc_types.specs.declared.field.Subfield.{Subfield}
use Rattle.heading_fields.specs.Numbers.{without_blanks}
use Rattle.entry_record.specs.Identity.{has_tag}
use Rattle.match_report.specs.Isbn.{isbn_of}
use Rattle.match_report.specs.declared.number.Number.{Number}
use Rattle.match_report.specs.declared.number.Number.TheVariants.{Isbn, Lccn}

-- a text without its blanks, where that has 1 to 64 graphic characters
abbrev pub lccn_of : List ℕ → Option (List ℕ)
lccn_of text = if is_number (without_blanks text) then Some (without_blanks text) else None

-- the number of a `$a`
abbrev pub isbn_of_subfield : Subfield → Option Number
isbn_of_subfield s = if s.code == 97 then option_map (λ text. Isbn text) (isbn_of s.text) else None

-- the LCCN of a `$a`, where it is one
abbrev pub lccn_of_subfield : Subfield → Option Number
lccn_of_subfield s = if s.code == 97 then option_map (λ text. Lccn text) (lccn_of s.text) else None

-- the numbers of a field: of a 020, and of a 010
unfoldable pub isbns_of_field : Field → List Number
isbns_of_field f = if has_tag 48 50 48 (tag_of f) then filter_map isbn_of_subfield (subfields_of f) else []

-- the LCCNs of a 010, in its order
unfoldable pub lccns_of_field : Field → List Number
lccns_of_field f = if has_tag 48 49 48 (tag_of f) then filter_map lccn_of_subfield (subfields_of f) else []

-- the numbers of a record's fields: those of the 020 fields, then those of the 010 fields, each in their order
unfoldable pub numbers_of : List Field → List Number
numbers_of fields = flat_map isbns_of_field fields ++ flat_map lccns_of_field fields
