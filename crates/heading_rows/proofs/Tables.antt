-- The rows of a table are those of the state behind the entries that it took.
use Rattle.std.proofs.Common.{◌≡◌, ◌∙◌, ℕ, ◌+◌, Bool, true, false, cond, List, [], ◌∷◌, map, length, refl, sym, ap, subst, arith, zero-add, Option, Some, None, Less, Equal, Greater, Ordering, is_eq, if◌then◌else◌}
use Rattle.std.specs.Prelude.{fold, is_none, option_and_then}
use Rattle.std.specs.Option.{option_map}
use Rattle.std.specs.List.{cons_option, filter_map}
use Rattle.std.specs.BTreeMap.{insert_entry}
use Rattle.std.specs.Map.{remove_entry}
use Rattle.std.specs.Ordering.{match_ordering}
use Rattle.std.specs.Cmp.{unsigned_Decides}
use Rattle.marc_types.specs.Order.{key_cmp, key_Decides, same_key}
use Rattle.marc_types.specs.declared.field.Field.{Field}
use Rattle.marc_types.specs.declared.field.Field.TheVariants.{Control, Variable}
use Rattle.marc_types.specs.declared.field.Tag.{Tag}
use Rattle.marc_types.specs.declared.form.Kind.{Kind}
use Rattle.marc_types.specs.declared.key.Class.TheVariants.{Authority}
use Rattle.marc_types.specs.declared.key.Key.{Key}
use Rattle.marc_types.specs.declared.entry.Entry.{Entry}
use Rattle.heading_fields.specs.Tables.{kind_by_tag}
use Rattle.entry_record.specs.Identity.{is_deletion}
use Rattle.entry_record.specs.Authority.{Linkable, full_form, heading_of, is_heading, linkable_by, linkable_kind, linkable_of, linkable_with}
use Rattle.catalogue_rules.specs.State.{Row, fields_of, row_linkable, rows_of}
use Rattle.catalogue_rules.specs.Receipt.{same_class}
use Rattle.catalogue_rules.specs.Settle.{Arrival, arrival_of, state_after, state_of}
use Rattle.catalogue_rules.specs.Committed.{Committed, is_plain, plain_fields, plain_of_kept, plain_of_committed, take_in_class, committed_after}
use Rattle.catalogue_rules.proofs.Kept.{kept_as_committed}
use Rattle.heading_rows.specs.Rows.{browse_row, in_order, row_of, rows_of_state}
use Rattle.heading_rows.specs.Listing.{BrowseTable, Listed, change_of, changed, empty_table, IsKeyed, listing_after, listing_of_state, row_in, rows_of_listing, table_of, take_arrival, take_entry}
use Rattle.heading_rows.specs.declared.row.BrowseRow.{BrowseRow}
use Rattle.heading_rows.specs.declared.heading.Change.TheVariants.{Nothing, TakenAway, Kept}

-- ---- an authority's heading is a field that linking leaves alone

no_kind : (t : Tag) (ind2 : ℕ) → t.a ≡ 49 → is_none (kind_by_tag Authority t ind2) ≡ true
unfolding kind_by_tag
no_kind t ind2 e = rw e refl

plain_heading : (f : Field) → is_heading f ≡ true → is_plain Authority f ≡ true
plain_heading (Control tag text) h = refl
plain_heading (Variable tag ind1 ind2 subs) h = no_kind tag ind2 ((unsigned_Decides tag.a 49).0 h)

true_false : (b : Bool) → b ≡ true → b ≡ false → ⊥
true_false b t f = cc

heading_in_plain : (fields : List Field) → heading_of (plain_fields Authority fields) ≡ heading_of fields
heading_in_plain [] = refl
heading_in_plain (f ∷ fields) = at (is_plain Authority f) refl (is_heading f) refl (heading_in_plain fields)
  where
    at : (p : Bool) → is_plain Authority f ≡ p → (h : Bool) → is_heading f ≡ h → heading_of (plain_fields Authority fields) ≡ heading_of fields →
        heading_of (cond p (f ∷ plain_fields Authority fields) (plain_fields Authority fields)) ≡ cond (is_heading f) (Some f) (heading_of fields)
    at true e h d ih = ap (λ o. cond (is_heading f) (Some f) o) ih
    at false e true d ih = absurd (true_false (is_plain Authority f) (plain_heading f d) e)
    at false e false d ih = ih ∙ ap (λ b. cond b (Some f) (heading_of fields)) (sym d)

abbrev row_by_kind : Key → Field → Option Kind → Option BrowseRow
row_by_kind key heading kind = option_map (λ kind. browse_row (full_form kind Authority heading) key) kind

abbrev row_by : Key → Option Field → Option BrowseRow
row_by key heading = option_and_then (λ f. row_by_kind key f (linkable_kind f)) heading

by_kind : (key : Key) (fields : List Field) (f : Field) (kind : Option Kind) → option_map row_of (option_map (linkable_with key fields f) kind) ≡ row_by_kind key f kind
by_kind key fields f None = refl
by_kind key fields f (Some kind) = refl

by_heading : (key : Key) (fields : List Field) (heading : Option Field) → option_map row_of (option_and_then (linkable_by key fields) heading) ≡ row_by key heading
by_heading key fields None = refl
by_heading key fields (Some f) = by_kind key fields f (linkable_kind f)

row_is : (key : Key) (fields : List Field) → row_in key fields ≡ row_by key (heading_of fields)
unfolding row_in linkable_of
row_is key fields = by_heading key fields (heading_of fields)

row_in_plain : (key : Key) (fields : List Field) → row_in key (plain_fields Authority fields) ≡ row_in key fields
row_in_plain key fields = row_is key (plain_fields Authority fields) ∙ ap (row_by key) (heading_in_plain fields) ∙ sym (row_is key fields)

-- ---- a row is one of its own key's

keyed_kind : (key : Key) (f : Field) (kind : Option Kind) → IsKeyed key (row_by_kind key f kind)
keyed_kind key f None = tt
keyed_kind key f (Some kind) = refl

keyed_by : (key : Key) (heading : Option Field) → IsKeyed key (row_by key heading)
keyed_by key None = tt
keyed_by key (Some f) = keyed_kind key f (linkable_kind f)

pub row_keyed : (key : Key) (fields : List Field) → IsKeyed key (row_in key fields)
row_keyed key fields = subst (IsKeyed key) (sym (row_is key fields)) (keyed_by key (heading_of fields))

kept_by : (key : Key) (fields : List Field) (row : Option BrowseRow) (own deletion : Bool) →
    Kept row ≡ (if own then (if deletion then TakenAway else Kept (row_in key fields)) else Nothing) → IsKeyed key row
kept_by key fields row true true e = absurd cc
kept_by key fields row true false e =
    let same : row ≡ row_in key fields = cc in subst (IsKeyed key) (sym same) (row_keyed key fields)
kept_by key fields row false deletion e = absurd cc

-- what an entry brings is a row of its own key
pub kept_keyed : (a : Arrival) (row : Option BrowseRow) → Kept row ≡ change_of a → IsKeyed a.key row
unfolding change_of
kept_keyed a row e = kept_by a.key a.fields row (same_class a.class Authority) (is_deletion a.leader) e

-- ---- the authorities are those of the committed records

abbrev listed : Committed → Listed
listed row = (row.0, row_in row.0 row.1)

listed_inserted : (rows : List Committed) (key : Key) (fields : List Field) →
    map listed (insert_entry key_cmp rows key fields) ≡ insert_entry key_cmp (map listed rows) key (row_in key fields)
listed_inserted [] key fields = refl
listed_inserted (row ∷ rows) key fields = at (key_cmp key row.0) refl (listed_inserted rows key fields)
  where
    at : (o : Ordering) → key_cmp key row.0 ≡ o → map listed (insert_entry key_cmp rows key fields) ≡ insert_entry key_cmp (map listed rows) key (row_in key fields) →
        map listed (match_ordering o ((key, fields) ∷ row ∷ rows) ((row.0, fields) ∷ rows) (row ∷ insert_entry key_cmp rows key fields))
        ≡ match_ordering o ((key, row_in key fields) ∷ listed row ∷ map listed rows) ((row.0, row_in key fields) ∷ map listed rows)
        (listed row ∷ insert_entry key_cmp (map listed rows) key (row_in key fields))
    at Less e ih = refl
    at Equal e ih = ap (λ k. (row.0, row_in k fields) ∷ map listed rows) (sym ((key_Decides key row.0).0 (ap is_eq e)))
    at Greater e ih = ap (λ l. listed row ∷ l) ih

listed_removed : (test : Key → Bool) (rows : List Committed) → map listed (remove_entry test rows) ≡ remove_entry test (map listed rows)
listed_removed test [] = refl
listed_removed test (row ∷ rows) = at (test row.0) (listed_removed test rows)
  where
    at : (b : Bool) → map listed (remove_entry test rows) ≡ remove_entry test (map listed rows) →
        map listed (cond b rows (row ∷ remove_entry test rows)) ≡ cond b (map listed rows) (listed row ∷ remove_entry test (map listed rows))
    at true ih = refl
    at false ih = ap (λ l. listed row ∷ l) ih

one_taken : (rows : List Committed) (a : Arrival) → take_arrival (map listed rows) a ≡ map listed (take_in_class Authority rows a)
unfolding change_of
one_taken rows a = at (same_class a.class Authority) (is_deletion a.leader)
  where
    at : (own deletion : Bool) →
        changed a.key (if own then (if deletion then TakenAway else Kept (row_in a.key a.fields)) else Nothing) (map listed rows)
        ≡ map listed (if own then (if deletion then remove_entry (same_key a.key) rows else insert_entry key_cmp rows a.key a.fields) else rows)
    at true true = sym (listed_removed (same_key a.key) rows)
    at true false = sym (listed_inserted rows a.key a.fields)
    at false deletion = refl

all_taken : (history : List Arrival) (rows : List Committed) → fold take_arrival (map listed rows) history ≡ map listed (fold (take_in_class Authority) rows history)
all_taken [] rows = refl
all_taken (a ∷ history) rows = ap (λ l. fold take_arrival l history) (one_taken rows a) ∙ all_taken history (take_in_class Authority rows a)

abbrev listed_row : Row → Listed
listed_row row = (row.0, row_in row.0 (fields_of row.1))

kept_listed : (rows : List Row) → map listed_row rows ≡ map listed (map (plain_of_kept Authority) rows)
kept_listed [] = refl
kept_listed (row ∷ rows) =
    ap (λ r. (row.0, r) ∷ map listed_row rows) (sym (row_in_plain row.0 (fields_of row.1)))
    ∙ ap (λ l. listed (plain_of_kept Authority row) ∷ l) (kept_listed rows)

committed_listed : (rows : List Committed) → map listed (map (plain_of_committed Authority) rows) ≡ map listed rows
committed_listed [] = refl
committed_listed (row ∷ rows) =
    ap (λ r. (row.0, r) ∷ map listed (map (plain_of_committed Authority) rows)) (row_in_plain row.0 row.1)
    ∙ ap (λ l. listed row ∷ l) (committed_listed rows)

listing_is_of_state : (history : List Entry) → listing_after history ≡ map listed_row (state_of history).authorities
unfolding listing_after committed_after
listing_is_of_state history =
    let arrivals = map arrival_of history in
    all_taken arrivals []
    ∙ sym (committed_listed (fold (take_in_class Authority) [] arrivals))
    ∙ sym (ap (map listed) (kept_as_committed Authority arrivals))
    ∙ sym (kept_listed (rows_of Authority (state_after arrivals)))

-- ---- and so are the rows

one_row : (o : Option Linkable) (cs : List Linkable) → cons_option (option_map row_of o) (map row_of cs) ≡ map row_of (cons_option o cs)
one_row None cs = refl
one_row (Some c) cs = refl

linkable_rows : (rows : List Row) → filter_map (λ e. e.1) (map listed_row rows) ≡ map row_of (filter_map row_linkable rows)
unfolding row_in
linkable_rows [] = refl
linkable_rows (row ∷ rows) =
    ap (cons_option (option_map row_of (row_linkable row))) (linkable_rows rows) ∙ one_row (row_linkable row) (filter_map row_linkable rows)

listing_is : (t : BrowseTable) (history : List Entry) → (fold take_entry t history).listing ≡ fold take_arrival t.listing (map arrival_of history)
listing_is t [] = refl
listing_is t (e ∷ history) = listing_is (take_entry t e) history

counted : (t : BrowseTable) (history : List Entry) → (fold take_entry t history).upto ≡ t.upto + length history
counted t [] = omega arith
counted t (e ∷ history) = omega (arith, counted (take_entry t e) history)

pub upto_is_length : (history : List Entry) → (table_of history).upto ≡ length history
unfolding table_of
upto_is_length history = counted empty_table history ∙ zero-add (length history)

pub table_listing : (history : List Entry) → (table_of history).listing ≡ listing_after history
unfolding table_of listing_after
table_listing history = listing_is empty_table history

table_by : (t : BrowseTable) (count : ℕ) (listing : List Listed) → t.upto ≡ count → t.listing ≡ listing → t ≡ record { upto = count; listing = listing }
table_by t count listing one other =
    let table : ℕ → List Listed → BrowseTable = λ n l. record { upto = n; listing = l } in
    ap (λ n. table n t.listing) one ∙ ap (λ l. table count l) other

-- the table of a history is that of the authorities that stand behind it
pub table_is_of_state : (history : List Entry) → table_of history ≡ record { upto = length history; listing = listing_of_state (state_of history) }
table_is_of_state history =
    table_by (table_of history) (length history) (listing_of_state (state_of history)) (upto_is_length history) (table_listing history ∙ listing_is_of_state history)

pub rows_are_of_state : (history : List Entry) → rows_of_listing (table_of history).listing ≡ rows_of_state (state_of history)
unfolding rows_of_listing
rows_are_of_state history =
    ap (λ l. in_order (filter_map (λ e. e.1) l)) (table_listing history ∙ listing_is_of_state history)
    ∙ ap in_order (linkable_rows (state_of history).authorities)
