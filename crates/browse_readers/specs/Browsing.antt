-- What readers of established headings are shown.
use Rattle.std.specs.Prelude.{ℕ, ◌+◌, ◌-◌, ◌^◌, ◌≤◌, Bool, min, List, length}
use Rattle.marc_types.specs.declared.form.Form.{Form}
use Rattle.marc_types.specs.declared.entry.Entry.{Entry}
use Rattle.catalogue_rules.specs.Settle.{state_of}
use Rattle.heading_rows.specs.Rows.{page_of, rows_of_state}
use Rattle.heading_rows.specs.declared.row.BrowsePage.{BrowsePage}

-- the page of a list of entries: the first rows, from a form on, of the state behind it, and its length
unfoldable pub page_after : List Entry → Form → ℕ → BrowsePage
page_after entries from most = record { upto = length entries; rows = page_of (rows_of_state (state_of entries)) from most }

-- a count went up by one, or stands at its greatest
abbrev pub Rose : ℕ → ℕ → Type 0
Rose before now = min (before + 1) (2 ^ 64 - 1) ≤ now

-- a writer: the list that it has taken, and whether memory failed it
pub record Writing : Type 0 where
  pub taken : List Entry
  pub spent : Bool
