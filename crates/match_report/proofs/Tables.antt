-- The table after a history has the numbers of the records that are then kept.
use Rattle.std.proofs.Common.{◌≡◌, ◌∙◌, ℕ, Bool, true, false, cond, ◌&&◌, ◌==◌, List, [], ◌∷◌, ◌++◌, map, refl, sym, ap, if◌then◌else◌}
use Rattle.std.specs.Prelude.{fold, is_none}
use Rattle.std.specs.List.{flat_map}
use Rattle.std.specs.BTreeMap.{insert_entry}
use Rattle.std.specs.Map.{remove_entry}
use Rattle.std.proofs.lemmas.Bool.{and_parts}
use Rattle.std.specs.Cmp.{unsigned_Decides}
use Rattle.marc_types.specs.Order.{key_cmp, same_key}
use Rattle.marc_types.specs.Fields.{tag_of}
use Rattle.marc_types.specs.declared.field.Field.{Field}
use Rattle.marc_types.specs.declared.field.Field.TheVariants.{Control, Variable}
use Rattle.marc_types.specs.declared.field.Tag.{Tag}
use Rattle.marc_types.specs.declared.key.Class.TheVariants.{Bibliographic}
use Rattle.marc_types.specs.declared.entry.Entry.{Entry}
use Rattle.heading_fields.specs.Tables.{kind_by_tag}
use Rattle.entry_record.specs.Identity.{has_tag, is_deletion}
use Rattle.catalogue_rules.specs.State.{Row, fields_of, rows_of}
use Rattle.catalogue_rules.specs.Receipt.{same_class}
use Rattle.catalogue_rules.specs.Settle.{Arrival, arrival_of, state_after, state_of}
use Rattle.catalogue_rules.specs.Committed.{Committed, is_plain, plain_fields, plain_of_kept, plain_of_committed, take_in_class, committed_after}
use Rattle.catalogue_rules.proofs.Kept.{kept_as_committed}
use Rattle.catalogue_rules.proofs.Maps.{map_inserted, map_removed}
use Rattle.match_report.specs.Numbers.{isbns_of_field, lccns_of_field, numbers_of}
use Rattle.match_report.specs.Groups.{RecordNumbers, matches_of, lines_of}
use Rattle.match_report.specs.Matches.{numbered_row, numbered_rows, take_numbers, table_after, match_report_of}
use Rattle.match_report.specs.declared.number.Number.{Number}

-- ---- numbers stand in fields that are no headings

equal_is : (a b : ℕ) → (a == b) ≡ true → a ≡ b
equal_is a b h = (unsigned_Decides a b).0 h

no_kind : (t : Tag) (ind2 : ℕ) → t.a ≡ 48 → is_none (kind_by_tag Bibliographic t ind2) ≡ true
unfolding kind_by_tag
no_kind t ind2 e = rw e refl

plain_by_tag : (b c : ℕ) (f : Field) → has_tag 48 b c (tag_of f) ≡ true → is_plain Bibliographic f ≡ true
plain_by_tag b c (Control tag text) h = refl
plain_by_tag b c (Variable tag ind1 ind2 subs) h =
    no_kind tag ind2 (equal_is tag.a 48 (and_parts (tag.a == 48) (tag.b == b) (and_parts ((tag.a == 48) && (tag.b == b)) (tag.c == c) h).0).0)

-- of a field that is a heading nothing is found
abbrev FindsPlain : (Field → List Number) → Type 0
FindsPlain found = (f : Field) → is_plain Bibliographic f ≡ false → found f ≡ []

true_false : (b : Bool) → b ≡ true → b ≡ false → ⊥
true_false b t f = cc

isbns_by : (f : Field) (b : Bool) → has_tag 48 50 48 (tag_of f) ≡ b → is_plain Bibliographic f ≡ false → isbns_of_field f ≡ []
unfolding isbns_of_field
isbns_by f true e h = absurd (true_false (is_plain Bibliographic f) (plain_by_tag 50 48 f e) h)
isbns_by f false e h = rw e refl

finds_isbns : FindsPlain isbns_of_field
finds_isbns f h = isbns_by f (has_tag 48 50 48 (tag_of f)) refl h

lccns_by : (f : Field) (b : Bool) → has_tag 48 49 48 (tag_of f) ≡ b → is_plain Bibliographic f ≡ false → lccns_of_field f ≡ []
unfolding lccns_of_field
lccns_by f true e h = absurd (true_false (is_plain Bibliographic f) (plain_by_tag 49 48 f e) h)
lccns_by f false e h = rw e refl

finds_lccns : FindsPlain lccns_of_field
finds_lccns f h = lccns_by f (has_tag 48 49 48 (tag_of f)) refl h

found_in_plain : (found : Field → List Number) → FindsPlain found → (fields : List Field) → flat_map found (plain_fields Bibliographic fields) ≡ flat_map found fields
found_in_plain found none [] = refl
found_in_plain found none (f ∷ fields) = at (is_plain Bibliographic f) refl (found_in_plain found none fields)
  where
    at : (b : Bool) → is_plain Bibliographic f ≡ b → flat_map found (plain_fields Bibliographic fields) ≡ flat_map found fields →
        flat_map found (cond b (f ∷ plain_fields Bibliographic fields) (plain_fields Bibliographic fields)) ≡ found f ++ flat_map found fields
    at true e ih = ap (λ l. found f ++ l) ih
    at false e ih = ih ∙ ap (λ l. l ++ flat_map found fields) (sym (none f e))

numbers_in_plain : (fields : List Field) → numbers_of (plain_fields Bibliographic fields) ≡ numbers_of fields
unfolding numbers_of
numbers_in_plain fields =
    ap (λ l. l ++ flat_map lccns_of_field (plain_fields Bibliographic fields)) (found_in_plain isbns_of_field finds_isbns fields)
    ∙ ap (λ l. flat_map isbns_of_field fields ++ l) (found_in_plain lccns_of_field finds_lccns fields)

-- ---- the table is that of the committed records

abbrev numbered : Committed → RecordNumbers
numbered row = (row.0, numbers_of row.1)

one_taken : (rows : List Committed) (a : Arrival) → take_numbers (map numbered rows) a ≡ map numbered (take_in_class Bibliographic rows a)
one_taken rows a = at (same_class a.class Bibliographic) (is_deletion a.leader)
  where
    at : (own deletion : Bool) →
        (if own then (if deletion then remove_entry (same_key a.key) (map numbered rows) else insert_entry key_cmp (map numbered rows) a.key (numbers_of a.fields)) else map numbered rows)
        ≡ map numbered (if own then (if deletion then remove_entry (same_key a.key) rows else insert_entry key_cmp rows a.key a.fields) else rows)
    at true true = sym (map_removed numbers_of (same_key a.key) rows)
    at true false = sym (map_inserted numbers_of key_cmp rows a.key a.fields)
    at false deletion = refl

all_taken : (history : List Arrival) (rows : List Committed) → fold take_numbers (map numbered rows) history ≡ map numbered (fold (take_in_class Bibliographic) rows history)
all_taken [] rows = refl
all_taken (a ∷ history) rows = ap (λ l. fold take_numbers l history) (one_taken rows a) ∙ all_taken history (take_in_class Bibliographic rows a)

kept_numbers : (rows : List Row) → map numbered_row rows ≡ map numbered (map (plain_of_kept Bibliographic) rows)
kept_numbers [] = refl
kept_numbers (row ∷ rows) =
    ap (λ ns. (row.0, ns) ∷ map numbered_row rows) (sym (numbers_in_plain (fields_of row.1)))
    ∙ ap (λ l. numbered (plain_of_kept Bibliographic row) ∷ l) (kept_numbers rows)

committed_numbers : (rows : List Committed) → map numbered (map (plain_of_committed Bibliographic) rows) ≡ map numbered rows
committed_numbers [] = refl
committed_numbers (row ∷ rows) =
    ap (λ ns. (row.0, ns) ∷ map numbered (map (plain_of_committed Bibliographic) rows)) (numbers_in_plain row.1)
    ∙ ap (λ l. numbered row ∷ l) (committed_numbers rows)

pub table_is_of_state : (history : List Entry) → table_after history ≡ numbered_rows (state_of history)
unfolding table_after committed_after
table_is_of_state history =
    let arrivals = map arrival_of history in
    all_taken arrivals []
    ∙ sym (committed_numbers (fold (take_in_class Bibliographic) [] arrivals))
    ∙ sym (ap (map numbered) (kept_as_committed Bibliographic arrivals))
    ∙ sym (kept_numbers (rows_of Bibliographic (state_after arrivals)))

pub lines_are_of_state : (history : List Entry) → lines_of (matches_of (table_after history)) ≡ match_report_of (state_of history)
unfolding match_report_of
lines_are_of_state history = ap (λ rows. lines_of (matches_of rows)) (table_is_of_state history)
