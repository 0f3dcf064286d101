-- The lines of fields, by what stands beside each field. The rules are this project's own.
use Rattle.std.specs.Prelude.{ℕ, ◌+◌, List, [], ◌∷◌, ◌++◌, map, codes}
use Rattle.std.specs.Fmt.{decimal}
use Rattle.std.specs.List.{flat_map, enumerate_from}
use Rattle.std.specs.Option.{option_map_or}
use Rattle.marc_types.specs.Fields.{tag_of}
use Rattle.marc_types.specs.declared.field.Tag.{Tag}
use Rattle.marc_types.specs.declared.key.Class.{Class}
use Rattle.marc_types.specs.declared.key.Key.{Key}
use Rattle.marc_types.specs.declared.entry.Tie.{Tie}
use Rattle.heading_fields.specs.Numbers.{key_text}
use Rattle.catalogue_rules.specs.State.{KeptField, KeptRecord, Row, State, rows_of, linkable_authorities}
use Rattle.catalogue_rules.specs.Lines.{line, then_word, then_words}
use Rattle.catalogue_rules.specs.Output.{class_letter, tag_text, ambiguous_line}
use Rattle.catalogue_tables.specs.declared.standing.Standing.{Standing}
use Rattle.catalogue_tables.specs.declared.standing.Standing.TheVariants.{Linked, Ambiguous, Unlinked, NoHeading}

-- a field with this tag as lines name it: its record's class and key, its tag, and its place in the record, from 0
abbrev pub place_text : Class → Key → ℕ → Tag → List ℕ
place_text class key place tag = then_words (class_letter class ∷ key_text key ∷ tag_text tag ∷ decimal place ∷ [])

-- the line of a field with this tag that stands so
abbrev pub ambiguous_text : Class → Key → ℕ → Tag → Standing → List ℕ
ambiguous_text class key place tag Linked = []
ambiguous_text class key place tag (Ambiguous keys) = line (codes "AMBIGUOUS" ++ place_text class key place tag ++ then_words (map key_text keys))
ambiguous_text class key place tag Unlinked = []
ambiguous_text class key place tag NoHeading = []

-- the line of a field with this tag and tie
abbrev pub awaits_text : Class → Key → ℕ → Tag → Tie → List ℕ
awaits_text class key place tag tie =
    option_map_or (λ awaited. line (codes "AWAITS" ++ place_text class key place tag ++ then_word (key_text awaited))) tie.awaits []

-- the line of two authorities of which the first is found under the other's established form
abbrev pub cross_text : Key → Key → List ℕ
cross_text first second = line (codes "CROSS" ++ then_words (key_text first ∷ key_text second ∷ []))

-- the tags of a record's fields
abbrev pub tags_of : KeptRecord → List Tag
tags_of r = map (λ h. tag_of h.field) r.fields

-- the lines of fields with these tags from a place on, each by what stands beside it
abbrev pub lines_beside : {X : Type 0} → (ℕ → Tag → X → List ℕ) → ℕ → List Tag → List X → List ℕ
lines_beside line_of place [] xs = []
lines_beside line_of place (tag ∷ tags) [] = []
lines_beside line_of place (tag ∷ tags) (x ∷ xs) = line_of place tag x ++ lines_beside line_of (place + 1) tags xs

-- the lines of a record's fields, each by what stands beside it
abbrev pub record_lines : {X : Type 0} → (ℕ → Tag → X → List ℕ) → KeptRecord → List X → List ℕ
record_lines line_of r xs = lines_beside line_of 0 (tags_of r) xs

-- the lines of a record's fields
abbrev pub row_lines : (Class → Key → ℕ → KeptField → List ℕ) → Class → Row → List ℕ
row_lines line_of class row = flat_map (λ numbered. line_of class row.0 numbered.0 numbered.1) (enumerate_from 0 row.1.fields)

-- the lines of the fields of a class's records
abbrev pub rows_lines : (Class → Key → ℕ → KeptField → List ℕ) → Class → List Row → List ℕ
rows_lines line_of class rows = flat_map (row_lines line_of class) rows

-- the lines of a class's ambiguous fields
abbrev pub ambiguous_in_class : Class → State → List ℕ
ambiguous_in_class class s = rows_lines (ambiguous_line (linkable_authorities s)) class (rows_of class s)
