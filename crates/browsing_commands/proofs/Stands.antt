-- The table of a catalogue, made of the authorities that stand.
use Rattle.std.proofs.Common.{◌≡◌, ◌∙◌, ℕ, true, List, [], ◌∷◌, ◌++◌, length, map, Option, Less, Greater, refl, sym, ap, subst, append-nil, append_assoc}
use Rattle.std.specs.Prelude.{All}
use Rattle.std.specs.List.{AllByRecursion}
use Rattle.std.specs.Ordering.{ordering_reverse}
use Rattle.std.specs.BTreeMap.{insert_entry}
use Rattle.std.specs.Map.{keys_of}
use Rattle.std.specs.List.Sorted.{IsStrictlySortedBy}
use Rattle.marc_types.specs.Order.{key_cmp, key_cmp_total}
use Rattle.marc_types.specs.declared.entry.Entry.{Entry}
use Rattle.marc_types.specs.declared.field.Leader.{Leader}
use Rattle.marc_types.specs.declared.field.Field.{Field}
use Rattle.marc_types.specs.declared.key.Key.{Key}
use Rattle.marc_types.specs.declared.refusal.Refusal.{Refusal}
use Rattle.iso2709_record.specs.Written.{fits, record_bytes}
use Rattle.iso2709_record.specs.Texts.{HasUtf8Texts}
use Rattle.reading.specs.Reading.{IsReadAs, IsRefusedAs}
use Rattle.reading.proofs.Written.{written_reads}
use Rattle.reading.proofs.OneReading.{one_fields, read_or_refused}
use Rattle.catalogue_rules.specs.State.{State, Row, KeptRecord, fields_of}
use Rattle.catalogue_rules.specs.Settle.{state_of}
use Rattle.catalogue_rules.specs.Valid.{IsValid}
use Rattle.heading_rows.specs.Listing.{BrowseTable, Listed, listing_of_state, row_in, table_of}
use Rattle.heading_rows.specs.declared.row.BrowseRow.{BrowseRow}
use Rattle.heading_rows.proofs.Tables.{table_is_of_state}
use Rattle.numbered_store.specs.Kept.{kept_record}
use Rattle.numbered_store.specs.declared.kept.StoredRecord.{StoredRecord}
use Rattle.numbered_store.proofs.Tied.{kept_fields}
use Rattle.numbered_store.proofs.Keeping.{proper_kept}

itself : (kept : StoredRecord) → All HasUtf8Texts (fields_of (kept_record kept))
    → IsReadAs (record_bytes (kept_record kept).leader (fields_of (kept_record kept))) (kept_record kept).leader (fields_of (kept_record kept))
itself kept utf8 =
    let fit : fits (fields_of (kept_record kept)) ≡ true = ap fits (kept_fields kept) ∙ kept.fit in
    written_reads (kept_record kept).leader (fields_of (kept_record kept)) (proper_kept kept) fit utf8

-- what was written of a kept record is read as that record
pub read_again : (kept : StoredRecord) (leader : Leader) (fields : List Field) → All HasUtf8Texts (fields_of (kept_record kept))
    → IsReadAs (record_bytes (kept_record kept).leader (fields_of (kept_record kept))) leader fields → fields ≡ fields_of (kept_record kept)
read_again kept leader fields utf8 reads =
    one_fields _ leader (kept_record kept).leader fields (fields_of (kept_record kept)) reads (itself kept utf8)

-- and so it isn't refused
pub never_refused : (kept : StoredRecord) (refusal : Refusal) → All HasUtf8Texts (fields_of (kept_record kept))
    → IsRefusedAs (record_bytes (kept_record kept).leader (fields_of (kept_record kept))) refusal → ⊥
never_refused kept refusal utf8 refused = read_or_refused _ (kept_record kept).leader (fields_of (kept_record kept)) refusal (itself kept utf8) refused

-- ---- a listing in key order, made by putting one authority behind another

-- the authorities with their rows
abbrev pub listed : List Row → List Listed
listed rows = map (λ (row : Row). (row.0, row_in row.0 (fields_of row.1))) rows

at_key : (P : Key → Type 0) (keys rest : List Key) (key : Key) → AllByRecursion P (keys ++ key ∷ rest) → P key
at_key P [] rest key all = all.0
at_key P (k ∷ keys) rest key all = at_key P keys rest key all.1

greater : (x y : Key) → key_cmp x y ≡ Less → key_cmp y x ≡ Greater
greater x y less = key_cmp_total.antisymm y x ∙ ap ordering_reverse less

-- what stands before all others goes to the end
put_last : (l : List Listed) (key : Key) (row : Option BrowseRow) (rest : List Key) → IsStrictlySortedBy key_cmp (keys_of l ++ key ∷ rest)
    → insert_entry key_cmp l key row ≡ l ++ (key, row) ∷ []
unfolding IsStrictlySortedBy
put_last [] key row rest sorted = refl
put_last (e ∷ l) key row rest sorted =
    let less : key_cmp e.0 key ≡ Less = at_key (λ y. key_cmp e.0 y ≡ Less) (keys_of l) rest key sorted.0 in
    rw (greater e.0 key less) (ap (λ l. e ∷ l) (put_last l key row rest sorted.1))

keys_listed : (rows : List Row) → keys_of (listed rows) ≡ keys_of rows
keys_listed [] = refl
keys_listed (row ∷ rows) = ap (λ keys. row.0 ∷ keys) (keys_listed rows)

keys_append : (l m : List Listed) → keys_of (l ++ m) ≡ keys_of l ++ keys_of m
keys_append [] m = refl
keys_append (e ∷ l) m = ap (λ keys. e.0 ∷ keys) (keys_append l m)

-- the listing with the authorities that are to come is that of the state
pub record IsListing (s : State) (listing : List Listed) (rows : List Row) : Type 0 where
  pub all : listing ++ listed rows ≡ listing_of_state s

pub listing_begins : (s : State) (rows : List Row) → rows ≡ s.authorities → IsListing s [] rows
listing_begins s rows is = record { all = ap listed is }

pub listing_goes_on : (s : State) (old new : List Listed) (rows rest : List Row) (key : Key) (kept : KeptRecord) → IsValid s
    → IsListing s old rows → rows ≡ (key, kept) ∷ rest → new ≡ insert_entry key_cmp old key (row_in key (fields_of kept)) → IsListing s new rest
listing_goes_on s old new rows rest key kept valid is more put =
    let row = row_in key (fields_of kept) in
    let whole : old ++ (key, row) ∷ listed rest ≡ listing_of_state s = ap (λ rows. old ++ listed rows) (sym more) ∙ is.all in
    let sorted : IsStrictlySortedBy key_cmp (keys_of (listing_of_state s)) = subst (IsStrictlySortedBy key_cmp) (sym (keys_listed s.authorities)) valid.authorities_ascend in
    let by_keys : IsStrictlySortedBy key_cmp (keys_of old ++ key ∷ keys_of (listed rest)) =
    subst (IsStrictlySortedBy key_cmp) (keys_append old ((key, row) ∷ listed rest)) (subst (λ l. IsStrictlySortedBy key_cmp (keys_of l)) (sym whole) sorted) in
    record {
      all = ap (λ l. l ++ listed rest) (put ∙ put_last old key row (keys_of (listed rest)) by_keys)
          ∙ (append_assoc old ((key, row) ∷ []) (listed rest) ∙ whole);
    }

-- none is to come: it is the table of the history
pub listing_ends : (history : List Entry) (s : State) (listing : List Listed) (rows : List Row) (table : BrowseTable) (count : ℕ) → s ≡ state_of history
    → IsListing s listing rows → rows ≡ [] → count ≡ length history → table ≡ record { upto = count; listing = listing } → table ≡ table_of history
listing_ends history s listing rows table count state is none counted so =
    let all : listing ≡ listing_of_state (state_of history) =
    sym (append-nil listing) ∙ (ap (λ rows. listing ++ listed rows) (sym none) ∙ (is.all ∙ ap listing_of_state state)) in
    let make : ℕ → List Listed → BrowseTable = λ n l. record { upto = n; listing = l } in
    so ∙ (ap (λ n. make n listing) counted ∙ (ap (λ l. make (length history) l) all ∙ sym (table_is_of_state history)))
