-- The list of the headings of a journal. The rules are this project's own.
use Rattle.std.specs.Prelude.{ℕ, List}
use Rattle.std.specs.List.{flat_map}
use Rattle.marc_types.specs.declared.entry.Entry.{Entry}
use Rattle.command_words.specs.Look.{HeadingRange}
use Rattle.catalogue_rules.specs.Settle.{state_of}
use Rattle.catalogue_rules.specs.State.{State}
use Rattle.heading_list.specs.Lines.{linked_to, row_line}
use Rattle.heading_list.specs.Rows.{first_rows}
use Rattle.heading_list.specs.Typed.{typed_form}

-- the list of a state's headings of a kind from a typed heading on: a line for each of the first rows, so many of them
unfoldable pub headings_of : HeadingRange → State → List ℕ
headings_of range s = flat_map (λ r. row_line (linked_to r.key s) r) (first_rows (typed_form range.kind range.from) range.most s)

-- what is due of a history: the list of the headings of the state behind it
abbrev pub headings_due : HeadingRange → List Entry → List ℕ
headings_due range entries = headings_of range (state_of entries)
