-- The export and the report of a state. Source of the exported form: ISO 2709, as the MARC 21 Specifications for Record
-- Structure use it. The report's lines are this project's own.
use Rattle.std.specs.Prelude.{ℕ, ◌+◌, Bool, true, false, ◌&&◌, not, List, [], ◌∷◌, ◌++◌, length, map, filter, codes, if◌then◌else◌}
use Rattle.std.specs.List.{flat_map, enumerate_from, sum_by}
use Rattle.std.specs.Option.{option_map_or}
use Rattle.std.specs.Fmt.{decimal}
use Rattle.marc_types.specs.declared.field.Tag.{Tag}
use Rattle.marc_types.specs.declared.key.Class.{Class}
use Rattle.marc_types.specs.declared.key.Class.TheVariants.{Authority, Bibliographic}
use Rattle.marc_types.specs.declared.key.Key.{Key}
use Rattle.marc_types.specs.Fields.{tag_of}
use Rattle.heading_fields.specs.Numbers.{key_text}
use Rattle.iso2709_record.specs.Written.{record_bytes}
use Rattle.marc_types.specs.Order.{same_key}
use Rattle.entry_record.specs.Authority.{Linkable}
use Rattle.catalogue_rules.specs.State.{KeptField, Row, State, fields_of, rows_of, linkable_authorities}
use Rattle.catalogue_rules.specs.Choice.{is_established, is_see_from_form, keys_of_linkable}
use Rattle.catalogue_rules.specs.Receipt.{Standing, LinkedTo, AmbiguousAmong, WithoutLink, WithoutHeading, standing_of, is_linked, is_ambiguous, is_unlinked, count_standing}
use Rattle.catalogue_rules.specs.Lines.{line, then_word, then_words}

-- the written form of a kept record
abbrev pub written_row : Row → List ℕ
written_row row = record_bytes row.1.leader (fields_of row.1)

-- the written forms of the rows whose key is kept, in their order
abbrev pub export_of_rows : (Key → Bool) → List Row → List ℕ
export_of_rows keep rows = flat_map written_row (filter (λ row. keep row.0) rows)

-- the written forms of the records whose key is kept, authorities first, each class in key order
unfoldable pub export_of : (Key → Bool) → State → List ℕ
export_of keep s = export_of_rows keep s.authorities ++ export_of_rows keep s.bibliographic

-- every key is kept
abbrev pub all_keys : Key → Bool
all_keys key = true

-- how lines name a class
abbrev pub class_letter : Class → List ℕ
class_letter Authority = codes "A"
class_letter Bibliographic = codes "B"

-- the three characters of a tag
abbrev pub tag_text : Tag → List ℕ
tag_text t = t.a ∷ t.b ∷ t.c ∷ []

-- a field, as lines name it: its record's class and key, its tag, and its place in the record, from 0
abbrev pub place_words : Class → Key → ℕ → KeptField → List ℕ
place_words class key place h =
    then_words (class_letter class ∷ key_text key ∷ tag_text (tag_of h.field) ∷ decimal place ∷ [])

-- the lines of each field, records of class Authority first, each class in key order, fields ascending
abbrev pub field_lines : (Class → Key → ℕ → KeptField → List ℕ) → State → List ℕ
field_lines lines_of s = class_lines Authority ++ class_lines Bibliographic where
  row_lines : Class → Row → List ℕ
  row_lines class row = flat_map (λ numbered. lines_of class row.0 numbered.0 numbered.1) (enumerate_from 0 row.1.fields)

  class_lines : Class → List ℕ
  class_lines class = flat_map (row_lines class) (rows_of class s)

-- the AMBIGUOUS line of a field that stands so: one where it is ambiguous
abbrev pub ambiguous_line_by : Class → Key → ℕ → KeptField → Standing → List ℕ
ambiguous_line_by class key place h (LinkedTo linked) = []
ambiguous_line_by class key place h (AmbiguousAmong keys) =
    line (codes "AMBIGUOUS" ++ place_words class key place h ++ then_words (map key_text keys))
ambiguous_line_by class key place h WithoutLink = []
ambiguous_line_by class key place h WithoutHeading = []

-- the line of an ambiguous field
abbrev pub ambiguous_line : List Linkable → Class → Key → ℕ → KeptField → List ℕ
ambiguous_line authorities class key place h = ambiguous_line_by class key place h (standing_of authorities class h)

-- the line of a field that awaits a key
abbrev pub awaits_line : Class → Key → ℕ → KeptField → List ℕ
awaits_line class key place h =
    option_map_or (λ awaited. line (codes "AWAITS" ++ place_words class key place h ++ then_word (key_text awaited))) h.tie.awaits []

-- the lines of all ambiguous fields
abbrev pub ambiguous_lines : State → List ℕ
ambiguous_lines s = field_lines (ambiguous_line (linkable_authorities s)) s

-- the lines of all fields that await a key
abbrev pub awaiting_lines : State → List ℕ
awaiting_lines s = field_lines awaits_line s

-- the keys of all authorities that share the established form of one
abbrev pub keys_sharing_form_of : Linkable → List Linkable → List Key
keys_sharing_form_of c authorities = keys_of_linkable (filter (is_established c.established) authorities)

-- a key is the least of two or more, which are in order
abbrev pub is_least_of : Key → List Key → Bool
is_least_of key (least ∷ other ∷ keys) = same_key key least
is_least_of key _ = false

-- the line of a group of two or more keys stands at its least key
abbrev pub shared_line : Key → List Key → List ℕ
shared_line key keys = if is_least_of key keys then line (codes "SHARED" ++ then_words (map key_text keys)) else []

-- a line for each established form that two or more authorities share
abbrev pub shared_lines : List Linkable → List ℕ
shared_lines authorities = flat_map (λ c. shared_line c.key (keys_sharing_form_of c authorities)) authorities

-- the CROSS line of two authorities: one where the first has the second's established form as a see-from form
abbrev pub cross_line : Linkable → Linkable → List ℕ
cross_line x y =
    if not (same_key x.key y.key) && is_see_from_form y.established x
    then line (codes "CROSS" ++ then_words (key_text x.key ∷ key_text y.key ∷ [])) else []

-- a line for each pair of authorities of which the first is found under the other's established form
abbrev pub cross_lines : List Linkable → List ℕ
cross_lines authorities = flat_map (λ x. flat_map (cross_line x) authorities) authorities

-- how many fields of a state stand so
abbrev pub count_all : (Standing → Bool) → State → ℕ
count_all test s = count_in Authority + count_in Bibliographic where
  count_in : Class → ℕ
  count_in class = sum_by (λ row. count_standing test (linkable_authorities s) class row.1) (rows_of class s)

-- the TOTAL line: how many records of each class, and how many headings stand in each way
abbrev pub total_line : State → List ℕ
total_line s =
    line (codes "TOTAL authorities=" ++ decimal (length s.authorities)
    ++ codes " bibliographic=" ++ decimal (length s.bibliographic)
    ++ codes " linked=" ++ decimal (count_all is_linked s)
    ++ codes " ambiguous=" ++ decimal (count_all is_ambiguous s)
    ++ codes " unlinked=" ++ decimal (count_all is_unlinked s))

-- the report of a state
unfoldable pub report_of : State → List ℕ
report_of s =
    let authorities = linkable_authorities s in
    ambiguous_lines s ++ shared_lines authorities ++ cross_lines authorities ++ awaiting_lines s ++ total_line s
