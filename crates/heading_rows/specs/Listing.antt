-- A table of rows that each entry changes, without a catalogue: which authorities are there, and which of them have a row.
use Rattle.std.specs.Prelude.{◌≡◌, ℕ, ◌+◌, Bool, false, List, [], map, fold, Option, Some, None, IfSome, if◌then◌else◌}
use Rattle.std.specs.List.{filter_map}
use Rattle.std.specs.Option.{option_flatten, option_map}
use Rattle.std.specs.BTreeMap.{insert_entry}
use Rattle.std.specs.Map.{keys_of, lookup, remove_entry}
use Rattle.std.specs.Set.{is_member}
use Rattle.std.specs.List.Sorted.{IsStrictlySortedBy}
use Rattle.marc_types.specs.Order.{key_cmp, same_key}
use Rattle.marc_types.specs.declared.field.Field.{Field}
use Rattle.marc_types.specs.declared.key.Class.TheVariants.{Authority}
use Rattle.marc_types.specs.declared.key.Key.{Key}
use Rattle.marc_types.specs.declared.form.Form.{Form}
use Rattle.marc_types.specs.declared.entry.Entry.{Entry}
use Rattle.entry_record.specs.Identity.{is_deletion}
use Rattle.entry_record.specs.Authority.{linkable_of}
use Rattle.catalogue_rules.specs.State.{Row, State, fields_of}
use Rattle.catalogue_rules.specs.Receipt.{same_class}
use Rattle.catalogue_rules.specs.Settle.{Arrival, arrival_of}
use Rattle.heading_rows.specs.Rows.{row_of, in_order, same_row, page_of}
use Rattle.heading_rows.specs.declared.row.BrowseRow.{BrowseRow}
use Rattle.heading_rows.specs.declared.row.BrowsePage.{BrowsePage}
use Rattle.heading_rows.specs.declared.heading.Change.{Change}
use Rattle.heading_rows.specs.declared.heading.Change.TheVariants.{Nothing, TakenAway, Kept}

-- the key of an authority, and its row where fields can be linked to it
abbrev pub Listed : Type 0
Listed = Key × Option BrowseRow

-- the row of an authority's fields, if they have one
unfoldable pub row_in : Key → List Field → Option BrowseRow
row_in key fields = option_map row_of (linkable_of key fields)

-- what an entry does to the authorities: a record comes in, a deletion takes one away, and publications do nothing
unfoldable pub change_of : Arrival → Change
change_of a =
    if same_class a.class Authority
    then (if is_deletion a.leader then TakenAway else Kept (row_in a.key a.fields))
    else Nothing

-- an authority comes into its key's place, or what stands there goes
abbrev pub changed : Key → Change → List Listed → List Listed
changed key Nothing listing = listing
changed key TakenAway listing = remove_entry (same_key key) listing
changed key (Kept row) listing = insert_entry key_cmp listing key row

-- the listing behind one more arrival
abbrev pub take_arrival : List Listed → Arrival → List Listed
take_arrival listing a = changed a.key (change_of a) listing

-- the authorities after a history
unfoldable pub listing_after : List Entry → List Listed
listing_after history = fold take_arrival [] (map arrival_of history)

-- the rows of authorities, in order
unfoldable pub rows_of_listing : List Listed → List BrowseRow
rows_of_listing listing = in_order (filter_map (λ e. e.1) listing)

-- the authorities of a state, each with its row
abbrev pub listing_of_state : State → List Listed
listing_of_state s = map (λ (row : Row). (row.0, row_in row.0 (fields_of row.1))) s.authorities

-- a table: how many entries it has taken, and the authorities that are there
pub record BrowseTable : Type 0 where
  pub upto : ℕ
  pub listing : List Listed

-- the table behind one more entry
abbrev pub take_entry : BrowseTable → Entry → BrowseTable
take_entry t e = record { upto = t.upto + 1; listing = take_arrival t.listing (arrival_of e) }

-- the table of no entry
abbrev pub empty_table : BrowseTable
empty_table = record { upto = 0; listing = [] }

-- the table of a list of entries
unfoldable pub table_of : List Entry → BrowseTable
table_of history = fold take_entry empty_table history

-- whether a row is this one, if there is one
abbrev pub is_row : Option BrowseRow → BrowseRow → Bool
is_row None q = false
is_row (Some r) q = same_row r q

-- whether both are there and the same
abbrev pub is_same : Option BrowseRow → Option BrowseRow → Bool
is_same None other = false
is_same (Some r) None = false
is_same (Some r) (Some q) = same_row r q

-- the row under a key, if an authority is there and has one
abbrev pub row_under : List Listed → Key → Option BrowseRow
row_under listing key = option_flatten (lookup (same_key key) listing)

-- the row is one of its own key's
abbrev pub IsKeyed : Key → Option BrowseRow → Type 0
IsKeyed key row = IfSome row (λ r. r.key ≡ key)

-- the authorities stand in key order, and these are their rows, in some order
pub record AreRowsOf (listing : List Listed) (rows : List BrowseRow) : Type 0 where
  pub ascending : IsStrictlySortedBy key_cmp (keys_of listing)
  pub keyed : (key : Key) → IsKeyed key (row_under listing key)
  pub members : (q : BrowseRow) → is_member same_row rows q ≡ is_row (row_under listing q.key) q

-- a page of a table
abbrev pub page_at : BrowseTable → Form → ℕ → BrowsePage
page_at t from most = record { upto = t.upto; rows = page_of (rows_of_listing t.listing) from most }
