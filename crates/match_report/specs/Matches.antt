-- The match report: which bibliographic records of a state share a number. The rules are this project's own.
use Rattle.std.specs.Prelude.{ℕ, List, [], map, fold, if◌then◌else◌}
use Rattle.std.specs.BTreeMap.{insert_entry}
use Rattle.std.specs.Map.{remove_entry}
use Rattle.marc_types.specs.Order.{key_cmp, same_key}
use Rattle.marc_types.specs.declared.key.Class.TheVariants.{Bibliographic}
use Rattle.marc_types.specs.declared.entry.Entry.{Entry}
use Rattle.entry_record.specs.Identity.{is_deletion}
use Rattle.catalogue_rules.specs.State.{Row, State, fields_of}
use Rattle.catalogue_rules.specs.Receipt.{same_class}
use Rattle.catalogue_rules.specs.Settle.{Arrival, arrival_of}
use Rattle.match_report.specs.Numbers.{numbers_of}
use Rattle.match_report.specs.Groups.{RecordNumbers, matches_of, lines_of}

-- the key of a kept record, and its numbers
abbrev pub numbered_row : Row → RecordNumbers
numbered_row row = (row.0, numbers_of (fields_of row.1))

-- the numbers of all bibliographic records of a state, by a scan of them
abbrev pub numbered_rows : State → List RecordNumbers
numbered_rows s = map numbered_row s.bibliographic

-- the match report of a state
unfoldable pub match_report_of : State → List ℕ
match_report_of s = lines_of (matches_of (numbered_rows s))

-- a bibliographic record brings its numbers into its key's place, in place of those that stood there; a deletion takes them away
abbrev pub take_numbers : List RecordNumbers → Arrival → List RecordNumbers
take_numbers rows a =
    if same_class a.class Bibliographic
    then (if is_deletion a.leader then remove_entry (same_key a.key) rows else insert_entry key_cmp rows a.key (numbers_of a.fields))
    else rows

-- the table after a history
unfoldable pub table_after : List Entry → List RecordNumbers
table_after history = fold take_numbers [] (map arrival_of history)
