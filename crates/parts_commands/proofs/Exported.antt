-- The pieces of an export are the written forms of its rows.
use Rattle.std.proofs.Common.{◌≡◌, ◌≢◌, ◌∙◌, ℕ, ◌+◌, ◌-◌, ◌<◌, ◌≤◌, ◌==◌, Bool, true, false, true≢false, nat_lt, List, [], ◌∷◌, ◌++◌, length, map, take, get_or, Some, None, refl, sym, ap, subst, arith, append_assoc, eqb-true, length-take}
use Rattle.std.specs.Prelude.{All, ◌||◌, ◌/◌, not, if◌then◌else◌}
use Rattle.std.specs.List.{flat_map, list_all}
use Rattle.std.proofs.lemmas.Bool.{and_parts, eq-eqb}
use Rattle.std.proofs.lemmas.Grind.{flat_map-append}
use Rattle.std.proofs.lemmas.List.{take_more, get_or-take, take_all, map-append}
use Rattle.std.proofs.lemmas.List.Elements.{All-nil, All-cons, All-head, All-tail, All-from_get_or, All-filter}
use Rattle.marc_types.specs.Valid.{is_digit, is_record}
use Rattle.marc_types.specs.declared.entry.Entry.{Entry}
use Rattle.marc_types.specs.declared.key.Key.{Key}
use Rattle.marc_types.specs.declared.field.Field.{Field}
use Rattle.marc_types.specs.declared.field.Leader.{Leader}
use Rattle.marc_types.specs.declared.key.Class.{Class}
use Rattle.marc_types.specs.declared.key.Class.TheVariants.{Authority, Bibliographic}
use Rattle.iso2709_record.specs.Layout.{number}
use Rattle.iso2709_record.specs.Faults.{IsSound, ends_once, has_bad_length}
use Rattle.iso2709_record.specs.Written.{digit, five_digits, fits, leader_bytes, record_bytes, record_length}
use Rattle.iso2709_record.proofs.Endings.{unmarked_before}
use Rattle.iso2709_record.proofs.Lengths.{fits_parts, length-record_bytes}
use Rattle.iso2709_record.proofs.ReadAgain.{written_is_sound}
use Rattle.iso2709_record.proofs.Sound.{sound_size}
use Rattle.marc_stream.specs.Pieces.{Item, first_items, is_line_end, item_at, items, items_behind, longest_piece, record_terminator}
use Rattle.marc_stream.specs.Window.{BeginsItem, IsEnded}
use Rattle.marc_stream.proofs.Items.{items_cut}
use Rattle.marc_stream.proofs.Scans.{item_ended, refusal_none}
use Rattle.entry_record.specs.History.{IsAdmitted}
use Rattle.entry_record.specs.Identity.{class_of}
use Rattle.catalogue_rules.specs.Output.{all_keys, export_of, export_of_rows, written_row}
use Rattle.catalogue_rules.specs.Settle.{state_of}
use Rattle.catalogue_rules.specs.State.{Row, State, fields_of}
use Rattle.catalogue_rules.specs.Valid.{EachRow, IsAscending, IsRow, IsValid}
use Rattle.catalogue_rules.proofs.Fitting.{valid_fits}
use Rattle.catalogue_rules.proofs.States.{every_state_valid}
use Rattle.catalogue_parts.specs.Parts.{Part, AreJobsOf, before, cut, every_record, ranges, rows_in}
use Rattle.catalogue_parts.proofs.Jobs.{jobs_cut}
use Rattle.catalogue_parts.proofs.Ranges.{rows_in_turn}
use Rattle.parts_commands.specs.Exports.{AreJoinedTo, IsRecordItem, authorities_of, behind_authorities, bytes_of, is_authority, joined_exports, pieces_of, records_of}
use Rattle.parts_commands.specs.Jobs.{AreRecords}
use Rattle.parts_commands.specs.Reports.{FileOf}
use Rattle.parts_commands.proofs.Items.{authorities_first, behind_first, behind_itself, is_false, is_true, no_authorities_first}

-- ---- a piece that is cut as it is, whatever follows

record IsWholePiece (piece : List ℕ) : Type 0 where
  begins : BeginsItem piece
  ended : IsEnded piece
  short : length piece ≤ longest_piece

no_line_end : (d : ℕ) → 48 ≤ d → is_line_end d ≡ false
no_line_end d least = by (d == 10) (d == 13) refl refl
  where
    by : (a b : Bool) → (d == 10) ≡ a → (d == 13) ≡ b → (a || b) ≡ false
    by true b e f = absurd (omega (arith, least, eqb-true d 10 e))
    by false true e f = absurd (omega (arith, least, eqb-true d 13 f))
    by false false e f = refl

written_begins : (l : Leader) (fs : List Field) → BeginsItem (record_bytes l fs)
unfolding record_bytes leader_bytes five_digits
written_begins l fs = no_line_end (digit (record_length fs / 10000)) (omega arith)

written_type : (l : Leader) (fs : List Field) → get_or (record_bytes l fs) 6 0 ≡ l.rtype
unfolding record_bytes leader_bytes five_digits
written_type l fs = refl

last_true : (a b c d : Bool) → d ≡ true → (a || b || c || d) ≡ true
last_true true b c d e = refl
last_true false true c d e = refl
last_true false false true d e = refl
last_true false false false d e = e

bad_length_of : (bytes : List ℕ) → ends_once record_terminator bytes ≡ false → has_bad_length bytes ≡ true
unfolding has_bad_length
bad_length_of bytes none =
    last_true (nat_lt (length bytes) 26) (not (list_all is_digit (take 5 bytes))) (not (number (take 5 bytes) == length bytes))
    (not (ends_once record_terminator bytes)) (ap not none)

ends_once_of : (bytes : List ℕ) → IsSound bytes → ends_once record_terminator bytes ≡ true
ends_once_of bytes sound = by (ends_once record_terminator bytes) refl
  where
    by : (b : Bool) → ends_once record_terminator bytes ≡ b → ends_once record_terminator bytes ≡ true
    by true e = e
    by false e = absurd (true≢false (sym (bad_length_of bytes e) ∙ sound.directory.whole.good_length))

last_is_mark : (bytes : List ℕ) → ends_once record_terminator bytes ≡ true → get_or bytes (length bytes - 1) 0 ≡ record_terminator
unfolding ends_once
last_is_mark bytes once = eqb-true (get_or bytes (length bytes - 1) 0) record_terminator (and_parts _ _ (and_parts _ _ once).0).1

ended_of : (bytes : List ℕ) → 0 < length bytes → ends_once record_terminator bytes ≡ true → IsEnded bytes
ended_of bytes some once =
    let n : ℕ = length bytes - 1 in
    let size : n + 1 ≡ length bytes = omega arith in
    record {
      front = take n bytes;
      ended = sym (take_all (n + 1) bytes (omega arith)) ∙ take_more bytes n 0 (omega arith) ∙ ap (λ b. take n bytes ++ b ∷ []) (last_is_mark bytes once);
      none = All-from_get_or (λ b. b ≢ record_terminator) (take n bytes) 0 (λ i within same.
          let below : i < n = omega (arith, within, length-take n bytes) in
          let here : get_or bytes i 0 ≡ record_terminator = sym (get_or-take n bytes i 0 below) ∙ same in
          true≢false (sym (eq-eqb (get_or bytes i 0) record_terminator here) ∙ unmarked_before record_terminator bytes i once below));
    }

written_whole : (l : Leader) (fs : List Field) → is_record l fs ≡ true → fits fs ≡ true → IsWholePiece (record_bytes l fs)
written_whole l fs valid fit =
    let sound = written_is_sound l fs valid fit in
    record {
      begins = written_begins l fs;
      ended = ended_of (record_bytes l fs) (omega (arith, sound_size (record_bytes l fs) sound)) (ends_once_of (record_bytes l fs) sound);
      short = omega (arith, (fits_parts fs fit).0, length-record_bytes l fs);
    }

-- ---- whole pieces, one behind the other

next_item : (before offset : ℕ) (piece rest : List ℕ) → IsWholePiece piece
    → items_behind before offset (piece ++ rest) ≡ item_at (before + 1) (offset + 0) piece ∷ items_behind (before + 1) (offset + 0 + length piece) rest
next_item before offset piece rest whole = items_cut before offset [] piece rest (All-nil (λ b. is_line_end b ≡ true)) whole.begins (item_ended piece rest whole.ended)

no_items : (before offset : ℕ) → items_behind before offset [] ≡ []
unfolding items_behind first_items
no_items before offset = refl

abbrev IsAuthorityPiece : List ℕ → Type 0
IsAuthorityPiece piece = IsWholePiece piece × (is_authority piece ≡ true)

abbrev IsRecordPiece : List ℕ → Type 0
IsRecordPiece piece = IsWholePiece piece × (is_authority piece ≡ false)

item_is_piece : (number offset : ℕ) (piece : List ℕ) → IsWholePiece piece → (item_at number offset piece).refusal ≡ None
item_is_piece number offset piece whole = refusal_none piece whole.short whole.ended

pub record AreParted (authorities records : List (List ℕ)) (items : List Item) : Type 0 where
  pub front : authorities_of items ≡ authorities
  pub behind : records_of items ≡ records
  pub sound : All IsRecordItem (behind_authorities items)

-- records alone
records_alone : (before offset : ℕ) (pieces : List (List ℕ)) → All IsRecordPiece pieces → pieces_of (items_behind before offset (bytes_of pieces)) ≡ pieces
records_alone before offset [] all = ap pieces_of (no_items before offset)
records_alone before offset (piece ∷ pieces) all =
    let whole = (All-head IsRecordPiece piece pieces all).0 in
    ap pieces_of (next_item before offset piece (bytes_of pieces) whole)
    ∙ ap (λ l. piece ∷ l) (records_alone (before + 1) (offset + 0 + length piece) pieces (All-tail IsRecordPiece piece pieces all))

all_records : (before offset : ℕ) (pieces : List (List ℕ)) → All IsRecordPiece pieces → All IsRecordItem (items_behind before offset (bytes_of pieces))
all_records before offset [] all = subst (All IsRecordItem) (sym (no_items before offset)) (All-nil IsRecordItem)
all_records before offset (piece ∷ pieces) all =
    let first = All-head IsRecordPiece piece pieces all in
    let item : Item = item_at (before + 1) (offset + 0) piece in
    let rest : List Item = items_behind (before + 1) (offset + 0 + length piece) (bytes_of pieces) in
    subst (All IsRecordItem) (sym (next_item before offset piece (bytes_of pieces) first.0))
    (All-cons IsRecordItem item rest (item_is_piece (before + 1) (offset + 0) piece first.0, first.1)
    (all_records (before + 1) (offset + 0 + length piece) pieces (All-tail IsRecordPiece piece pieces all)))

parted_records : (before offset : ℕ) (pieces : List (List ℕ)) → All IsRecordPiece pieces → AreParted [] pieces (items_behind before offset (bytes_of pieces))
parted_records before offset [] all = record {
  front = ap authorities_of (no_items before offset);
  behind = ap records_of (no_items before offset);
  sound = subst (All IsRecordItem) (sym (ap behind_authorities (no_items before offset))) (All-nil IsRecordItem);
}
parted_records before offset (piece ∷ pieces) all =
    let first = All-head IsRecordPiece piece pieces all in
    let item : Item = item_at (before + 1) (offset + 0) piece in
    let rest : List Item = items_behind (before + 1) (offset + 0 + length piece) (bytes_of pieces) in
    let here : items_behind before offset (piece ++ bytes_of pieces) ≡ item ∷ rest = next_item before offset piece (bytes_of pieces) first.0 in
    record {
      front = ap authorities_of here ∙ no_authorities_first item rest (is_false item first.1);
      behind = ap records_of here ∙ ap pieces_of (behind_itself item rest (is_false item first.1)) ∙ ap pieces_of (sym here) ∙ records_alone before offset (piece ∷ pieces) all;
      sound = subst (All IsRecordItem) (here ∙ sym (behind_itself item rest (is_false item first.1)) ∙ sym (ap behind_authorities here))
          (all_records before offset (piece ∷ pieces) all);
    }

-- authorities, and then records
parted : (before offset : ℕ) (authorities records : List (List ℕ)) → All IsAuthorityPiece authorities → All IsRecordPiece records
    → AreParted authorities records (items_behind before offset (bytes_of authorities ++ bytes_of records))
parted before offset [] records all others = parted_records before offset records others
parted before offset (piece ∷ authorities) records all others =
    let first = All-head IsAuthorityPiece piece authorities all in
    let more : List ℕ = bytes_of authorities ++ bytes_of records in
    let item : Item = item_at (before + 1) (offset + 0) piece in
    let rest : List Item = items_behind (before + 1) (offset + 0 + length piece) more in
    let here : items_behind before offset ((piece ++ bytes_of authorities) ++ bytes_of records) ≡ item ∷ rest =
    ap (items_behind before offset) (append_assoc piece (bytes_of authorities) (bytes_of records)) ∙ next_item before offset piece more first.0 in
    let is = is_true item (item_is_piece (before + 1) (offset + 0) piece first.0) first.1 in
    let others_parted = parted (before + 1) (offset + 0 + length piece) authorities records (All-tail IsAuthorityPiece piece authorities all) others in
    record {
      front = ap authorities_of here ∙ authorities_first item rest is ∙ ap (λ l. piece ∷ l) others_parted.front;
      behind = ap records_of here ∙ ap pieces_of (behind_first item rest is) ∙ others_parted.behind;
      sound = subst (All IsRecordItem) (sym (ap behind_authorities here ∙ behind_first item rest is)) others_parted.sound;
    }

-- ---- a state's export

-- a row of its class that can be written
pub record IsWritable (class : Class) (row : Row) : Type 0 where
  pub row_is : IsRow class row
  pub fit : fits (fields_of row.1) ≡ true
  pub valid : is_record row.1.leader (fields_of row.1) ≡ true

all_three : (class : Class) (rows : List Row) → All (IsRow class) rows → All (λ row. fits (fields_of row.1) ≡ true) rows
    → All (λ row. is_record row.1.leader (fields_of row.1) ≡ true) rows → All (IsWritable class) rows
all_three class [] are fit valid = All-nil (IsWritable class)
all_three class (row ∷ rows) are fit valid =
    All-cons (IsWritable class) row rows
    (record {
      row_is = All-head (IsRow class) row rows are;
      fit = All-head (λ (r : Row). fits (fields_of r.1) ≡ true) row rows fit;
      valid = All-head (λ (r : Row). is_record r.1.leader (fields_of r.1) ≡ true) row rows valid;
    })
    (all_three class rows (All-tail (IsRow class) row rows are) (All-tail (λ (r : Row). fits (fields_of r.1) ≡ true) row rows fit)
    (All-tail (λ (r : Row). is_record r.1.leader (fields_of r.1) ≡ true) row rows valid))

pub writable : (s : State) → IsValid s → AreRecords s → EachRow IsWritable s
writable s valid records =
    let fit = valid_fits s valid in
    (all_three Authority s.authorities valid.rows.0 fit.0 records.0, all_three Bibliographic s.bibliographic valid.rows.1 fit.1 records.1)

type_of_class : (l : Leader) → (class_of l ≡ Authority → (l.rtype == 122) ≡ true) × (class_of l ≡ Bibliographic → (l.rtype == 122) ≡ false)
type_of_class l = by (l.rtype == 122)
  where
    by : (b : Bool) → ((if b then Authority else Bibliographic) ≡ Authority → b ≡ true) × ((if b then Authority else Bibliographic) ≡ Bibliographic → b ≡ false)
    by true = ((λ e. refl), λ e. let no : Authority ≡ Bibliographic = e in cc)
    by false = ((λ e. let no : Bibliographic ≡ Authority = e in cc), λ e. refl)

authority_pieces : (rows : List Row) → All (IsWritable Authority) rows → All IsAuthorityPiece (map written_row rows)
authority_pieces [] all = All-nil IsAuthorityPiece
authority_pieces (row ∷ rows) all =
    let first = All-head (IsWritable Authority) row rows all in
    All-cons IsAuthorityPiece (written_row row) (map written_row rows) (
      written_whole row.1.leader (fields_of row.1) first.valid first.fit,
      ap (λ b. b == 122) (written_type row.1.leader (fields_of row.1)) ∙ (type_of_class row.1.leader).0 first.row_is.class_is,
    )
    (authority_pieces rows (All-tail (IsWritable Authority) row rows all))

record_pieces : (rows : List Row) → All (IsWritable Bibliographic) rows → All IsRecordPiece (map written_row rows)
record_pieces [] all = All-nil IsRecordPiece
record_pieces (row ∷ rows) all =
    let first = All-head (IsWritable Bibliographic) row rows all in
    All-cons IsRecordPiece (written_row row) (map written_row rows) (
      written_whole row.1.leader (fields_of row.1) first.valid first.fit,
      ap (λ b. b == 122) (written_type row.1.leader (fields_of row.1)) ∙ (type_of_class row.1.leader).1 first.row_is.class_is,
    )
    (record_pieces rows (All-tail (IsWritable Bibliographic) row rows all))

written_bytes : (rows : List Row) → export_of_rows all_keys rows ≡ bytes_of (map written_row rows)
written_bytes [] = refl
written_bytes (row ∷ rows) = ap (λ l. written_row row ++ l) (written_bytes rows)

export_bytes : (s : State) → export_of all_keys s ≡ bytes_of (map written_row s.authorities) ++ bytes_of (map written_row s.bibliographic)
unfolding export_of
export_bytes s = λ i. written_bytes s.authorities i ++ written_bytes s.bibliographic i

pub export_parted : (s : State) → EachRow IsWritable s → AreParted (map written_row s.authorities) (map written_row s.bibliographic) (items (export_of all_keys s))
export_parted s each =
    subst (λ bytes. AreParted (map written_row s.authorities) (map written_row s.bibliographic) (items bytes)) (sym (export_bytes s))
    (parted 0 0 (map written_row s.authorities) (map written_row s.bibliographic) (authority_pieces s.authorities each.0) (record_pieces s.bibliographic each.1))

-- ---- the parts of a state

pub cut_writable : (mine : Part) (s : State) → EachRow IsWritable s → EachRow IsWritable (cut mine s)
cut_writable mine s each = (each.0, All-filter (λ (row : Row). mine row.0) (IsWritable Bibliographic) s.bibliographic each.1)

abbrev pub exports_of : State → List Part → List (List ℕ)
exports_of s parts = map (λ mine. export_of all_keys (cut mine s)) parts

rows_more : (rows more : List Row) → bytes_of (map written_row rows) ++ bytes_of (map written_row more) ≡ bytes_of (map written_row (rows ++ more))
rows_more rows more = sym (ap bytes_of (map-append written_row rows more) ∙ flat_map-append (λ piece. piece) (map written_row rows) (map written_row more))

records_of_parts : (s : State) → EachRow IsWritable s → (parts : List Part)
    → flat_map (λ export. bytes_of (records_of (items export))) (exports_of s parts) ≡ bytes_of (map written_row (flat_map (λ mine. rows_in mine s.bibliographic) parts))
records_of_parts s each [] = refl
records_of_parts s each (mine ∷ parts) =
    let first = export_parted (cut mine s) (cut_writable mine s each) in
    (λ i. bytes_of (first.behind i) ++ records_of_parts s each parts i)
    ∙ rows_more (rows_in mine s.bibliographic) (flat_map (λ m. rows_in m s.bibliographic) parts)

pub first_of_parts : (s : State) → EachRow IsWritable s → (bounds : List Key)
    → authorities_of (items (get_or (exports_of s (ranges bounds)) 0 [])) ≡ map written_row s.authorities
first_of_parts s each [] = (export_parted (cut every_record s) (cut_writable every_record s each)).front
first_of_parts s each (bound ∷ bounds) = (export_parted (cut (before bound) s) (cut_writable (before bound) s each)).front

-- what is joined of the exports of parts is the whole's
pub parts_joined : (s : State) → EachRow IsWritable s → IsAscending s.bibliographic → (bounds : List Key) → joined_exports (exports_of s (ranges bounds)) ≡ export_of all_keys s
parts_joined s each ascend bounds =
    (λ i. bytes_of (first_of_parts s each bounds i) ++ records_of_parts s each (ranges bounds) i)
    ∙ ap (λ rows. bytes_of (map written_row s.authorities) ++ bytes_of (map written_row rows)) (rows_in_turn bounds s.bibliographic ascend)
    ∙ sym (export_bytes s)

pub exports_are : (file : FileOf) (names exports : List (List ℕ)) (states : List State) → map file names ≡ map Some exports
    → map file names ≡ map (λ s. Some (export_of all_keys s)) states → exports ≡ map (λ s. export_of all_keys s) states
exports_are file names exports states there are = by exports states (sym there ∙ are)
  where
    by : (es : List (List ℕ)) (ss : List State) → map Some es ≡ map (λ s. Some (export_of all_keys s)) ss → es ≡ map (λ s. export_of all_keys s) ss
    by [] [] e = refl
    by [] (s ∷ ss) e = let both : [] ≡ Some (export_of all_keys s) ∷ map (λ t. Some (export_of all_keys t)) ss = e in cc
    by (x ∷ es) [] e = let both : Some x ∷ map Some es ≡ [] = e in cc
    by (x ∷ es) (s ∷ ss) e =
        let both : Some x ∷ map Some es ≡ Some (export_of all_keys s) ∷ map (λ t. Some (export_of all_keys t)) ss = e in
        let head : x ≡ export_of all_keys s = cc in
        let tail : map Some es ≡ map (λ t. Some (export_of all_keys t)) ss = cc in
        λ i. head i ∷ by es ss tail i

pub map_map : {A B C : Type 0} (f : A → B) (g : B → C) (xs : List A) → map (λ x. g (f x)) xs ≡ map g (map f xs)
map_map f g [] = refl
map_map f g (x ∷ xs) = ap (λ l. g (f x) ∷ l) (map_map f g xs)

pub due_of_whole : (file : FileOf) (names : List (List ℕ)) (due : List ℕ) (bounds : List Key) (whole : List Entry) (jobs : List (List Entry)) → All IsAdmitted whole
    → AreRecords (state_of whole) → AreJobsOf whole (ranges bounds) jobs → map file names ≡ map (λ job. Some (export_of all_keys (state_of job))) jobs
    → AreJoinedTo file names due → due ≡ export_of all_keys (state_of whole)
due_of_whole file names due bounds whole jobs a records rest are so =
    let s : State = state_of whole in
    let valid = every_state_valid whole a in
    let states = jobs_cut whole (ranges bounds) jobs a rest in
    let exports = exports_are file names so.exports (map state_of jobs) so.there (are ∙ map_map state_of (λ t. Some (export_of all_keys t)) jobs)
    ∙ ap (map (λ t. export_of all_keys t)) states ∙ sym (map_map (λ mine. cut mine s) (λ t. export_of all_keys t) (ranges bounds)) in
    so.due_is ∙ ap joined_exports exports ∙ parts_joined s (writable s valid records) valid.bibliographic_ascend bounds
