-- A history is taken entry by entry.
use Rattle.std.proofs.Common.{◌≡◌, ◌∙◌, List, [], ◌∷◌, ◌++◌, map, sym, ap}
use Rattle.std.specs.Prelude.{fold}
use Rattle.std.proofs.lemmas.List.{map-append}
use Rattle.std.proofs.lemmas.List.Sums.{fold-append}
use Rattle.marc_types.specs.declared.entry.Entry.{Entry}
use Rattle.catalogue_rules.specs.Settle.{arrival_of}
use Rattle.match_report.specs.Groups.{RecordNumbers, lines_of, matches_of}
use Rattle.match_report.specs.Matches.{take_numbers, table_after}
use Rattle.match_report.proofs.Tables.{lines_are_of_state}
use Rattle.archive_commands.specs.Telling.{matches_due}

pub table_behind : (before : List Entry) (e : Entry) (old now : List RecordNumbers) → old ≡ table_after before → now ≡ take_numbers old (arrival_of e)
    → now ≡ table_after (before ++ e ∷ [])
unfolding table_after
table_behind before e old now so_far put =
    put ∙ ap (λ rows. take_numbers rows (arrival_of e)) so_far
    ∙ sym (fold-append take_numbers [] (map arrival_of before) (arrival_of e ∷ []))
    ∙ ap (fold take_numbers []) (sym (map-append arrival_of before (e ∷ [])))

-- a table that took a history has the lines that are due of it
pub due_of_table : (table : List RecordNumbers) (entries : List Entry) → table ≡ table_after entries → lines_of (matches_of table) ≡ matches_due entries
due_of_table table entries is = ap (λ rows. lines_of (matches_of rows)) is ∙ lines_are_of_state entries
