-- The rows that a reader browses: the established headings of a catalogue in order, each with its authority's key. Headings are
-- compared by their forms (NACO Authority File Comparison Rules, as this project's profile); the order of the rows is this project's.
use Rattle.std.specs.Prelude.{ℕ, Bool, not, List, [], map, filter, fold, take}
use Rattle.std.specs.BTreeSet.{insert_key}
use Rattle.std.specs.declared.cmp.Ordering.{Ordering}
use Rattle.std.specs.Ordering.{on, then_cmp, is_lt, eq_by_cmp}
use Rattle.std.specs.Cmp.{IsTotalOrder, then_total, on_total}
use Rattle.marc_types.specs.Order.{form_cmp, form_cmp_total, key_cmp, key_cmp_total}
use Rattle.marc_types.specs.declared.form.Form.{Form}
use Rattle.marc_types.specs.declared.key.Key.{Key}
use Rattle.entry_record.specs.Authority.{Linkable}
use Rattle.catalogue_rules.specs.State.{State, linkable_authorities}
use Rattle.heading_rows.specs.declared.row.BrowseRow.{BrowseRow}

-- a row of a form and a key
abbrev pub browse_row : Form → Key → BrowseRow
browse_row form key = record { form = form; key = key }

-- by the form (its kind, then its items by code and by the bytes of the text, a front first), then by the key
unfoldable pub row_cmp : BrowseRow → BrowseRow → Ordering
row_cmp = then_cmp (on (λ r. r.form) form_cmp) (on (λ r. r.key) key_cmp)

pub row_cmp_total : IsTotalOrder row_cmp
unfolding row_cmp
row_cmp_total = then_total (on_total (λ r. r.form) form_cmp_total) (on_total (λ r. r.key) key_cmp_total)

-- whether two rows are the same
abbrev pub same_row : BrowseRow → BrowseRow → Bool
same_row = eq_by_cmp row_cmp

-- each row once, in their order
unfoldable pub in_order : List BrowseRow → List BrowseRow
in_order rows = fold (insert_key row_cmp) [] rows

-- the row of an authority that fields can be linked to
abbrev pub row_of : Linkable → BrowseRow
row_of c = browse_row c.established c.key

-- the rows of a state: those of its linkable authorities
abbrev pub rows_of_state : State → List BrowseRow
rows_of_state s = in_order (map row_of (linkable_authorities s))

-- the row stands before a form
abbrev pub is_before : Form → BrowseRow → Bool
is_before from r = is_lt (form_cmp r.form from)

-- the first rows whose form isn't before a form, so many of them
unfoldable pub page_of : List BrowseRow → Form → ℕ → List BrowseRow
page_of rows from most = take most (filter (λ r. not (is_before from r)) rows)
