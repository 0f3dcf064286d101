-- The bytes of the lines of a catalogue, as far as they are kept. The list is this project's own.
use Rattle.std.specs.Prelude.{ℕ, Bool, List, Option}
use Rattle.std.specs.Borrow.{Bor}
use Rattle.std.specs.List.{filter_map, flat_map}
use Rattle.std.specs.Option.{option_copied}
use Rattle.marc_types.specs.declared.key.Key.{Key}
use Rattle.catalogue_rules.specs.State.{State}
use Rattle.heading_worklist.specs.Counting.{kept_in}
use Rattle.heading_worklist.specs.Counts.{Counted}
use Rattle.heading_worklist.specs.Csv.{line_bytes, list_bytes}
use Rattle.heading_worklist.specs.Lines.{crossing_among, crossing_line, crossing_lines, group_lines, lines_across, member_line, shared_lines}
use Rattle.heading_worklist.specs.Worklist.{counted_lines, lines_behind}

-- all keys, or those with a code that is lent
abbrev pub kept_by : Option (Bor (List ℕ)) → Key → Bool
kept_by code = kept_in (option_copied code)

-- the bytes of a worklist, of which these open headings were counted
abbrev pub worklist_bytes : Option (Bor (List ℕ)) → State → List Counted → List ℕ
worklist_bytes code s found = list_bytes (lines_behind (kept_by code) s found)

-- those of the open headings
abbrev pub counted_bytes : Option (Bor (List ℕ)) → State → List Counted → List ℕ
counted_bytes code s found = flat_map line_bytes (counted_lines (kept_by code) s found)

-- those of the authorities that share a heading
abbrev pub shared_bytes : Option (Bor (List ℕ)) → State → List ℕ
shared_bytes code s = flat_map line_bytes (shared_lines (kept_by code) s)

-- those of such a group, at the key of one of them
abbrev pub group_bytes : Option (Bor (List ℕ)) → State → Key → List Key → List ℕ
group_bytes code s own group = flat_map line_bytes (group_lines (kept_by code) s own group)

-- of each in the group
abbrev pub members_bytes : State → List Key → List ℕ
members_bytes s group = flat_map line_bytes (filter_map (member_line s group) group)

-- those of the authorities that are found under the headings of others
abbrev pub crossings_bytes : Option (Bor (List ℕ)) → State → List ℕ
crossings_bytes code s = flat_map line_bytes (crossing_lines (kept_by code) s)

-- of one and those others, where one of them is kept
abbrev pub crossing_bytes : Option (Bor (List ℕ)) → State → Key → List Key → List ℕ
crossing_bytes code s own others = flat_map line_bytes (crossing_among (kept_by code) s own others)

-- of one and those others
abbrev pub across_bytes : State → Key → List Key → List ℕ
across_bytes s own others = flat_map line_bytes (lines_across s own others)

-- of the others alone
abbrev pub others_bytes : State → List Key → List Key → List ℕ
others_bytes s own others = flat_map line_bytes (filter_map (crossing_line s own) others)
