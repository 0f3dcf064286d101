-- How the commands end that tell which records of a journal share a number, and which headings it has. The rules of headings are this project's own.
use Rattle.std.specs.Prelude.{ℕ, List}
use Rattle.marc_types.specs.declared.entry.Entry.{Entry}
use Rattle.command_words.specs.Asked.{range_asked}
use Rattle.command_words.specs.Look.{HeadingRange}
use Rattle.command_words.specs.declared.asked.HeadingRange.{HeadingRange as Asked}
use Rattle.catalogue_rules.specs.Settle.{state_of}
use Rattle.console_lines.specs.Ends.{Outcome}
use Rattle.archive_commands.specs.Reads.{ReadsJournal}
use Rattle.heading_list.specs.Telling.{headings_due}
use Rattle.match_report.specs.Matches.{match_report_of}

-- what is due of a history: the match report of the state behind it
abbrev pub matches_due : List Entry → List ℕ
matches_due entries = match_report_of (state_of entries)

-- The command `matches`: which records of a journal share a number is written into the file OUT, and the journal keeps its history.
abbrev pub TellsMatches : List ℕ → List ℕ → Outcome → Type 0
TellsMatches journal out o = ReadsJournal journal out matches_due o

-- what is due of a history: the list of its headings for a range, as that is asked for
abbrev pub list_due : Asked → List Entry → List ℕ
list_due range entries = headings_due (range_asked range) entries

-- The command `headings`: the list of a journal's headings of a kind is written into the file OUT, and the journal keeps its history.
abbrev pub TellsHeadings : List ℕ → List ℕ → HeadingRange → Outcome → Type 0
TellsHeadings journal out range o = ReadsJournal journal out (headings_due range) o

-- the same for a range as it is asked for
abbrev pub TellsList : List ℕ → List ℕ → Asked → Outcome → Type 0
TellsList journal out range o = TellsHeadings journal out (range_asked range) o
