-- How each command ends.
use Rattle.std.specs.Prelude.{◌≡◌, ◌≢◌, ℕ, List, [], ◌∷◌, Some, None}
use Rattle.outside.specs.Room.{SameBut}
use Rattle.command_words.specs.declared.library.Library.{Library}
use Rattle.command_words.specs.Command.{Command, Pass, Run, Load, Browse, Export, Report, Make, Verify, VerifyPoint, VerifyDigest, Matches, Holdings, Headings, Worklist, Migrate, Salvage, Checkpoint, Quick, QuickReport, Read, ReadHoldings, ReadWorklist, Refused as RefusedOf, Totals as TotalsOf, Join, Split, Help, Version, libraries_of, names_of}
use Rattle.console_lines.specs.Ends.{Outcome, end_status}
use Rattle.console_lines.specs.declared.end.End.{End}
use Rattle.console_lines.specs.declared.end.End.TheVariants.{Told}
use Rattle.console_lines.specs.declared.fault.Fault.TheVariants.{Usage}
use Rattle.archive_commands.specs.Reads as reads
use Rattle.archive_commands.specs.Reads.{Reads}
use Rattle.plain_commands.specs.Passing.{Passes}
use Rattle.plain_commands.specs.Making.{Makes}
use Rattle.plain_commands.specs.GivingBack.{GivesBack}
use Rattle.reading_commands.specs.Unheld.{AttachesUnheld}
use Rattle.reading_commands.specs.Looking.{LooksInto, look_due}
use Rattle.parts_commands.specs.Joining.{Joins}
use Rattle.parts_commands.specs.Telling.{TellsTotals}
use Rattle.split_command.specs.Names.{split_names}
use Rattle.split_command.specs.Splitting.{Splits}
use Rattle.journal_verification.specs.Verifying.{Verifies}
use Rattle.journal_verification.specs.Comparing.{VerifiesDigest}
use Rattle.archive_commands.specs.Telling.{TellsMatches}
use Rattle.archive_commands.specs.Telling.{TellsHeadings}
use Rattle.holdings_command.specs.Attaching.{AttachesHoldings}
use Rattle.worklist_command.specs.Unheld.{ListsUnheld}
use Rattle.worklist_command.specs.Working.{MakesWorklist}
use Rattle.migrate_command.specs.Migrates.{Migrates}
use Rattle.salvage_command.specs.Salvages.{Salvages}
use Rattle.checkpoint_commands.specs.Checkpoints.{Checkpoints}
use Rattle.checkpoint_commands.specs.Quick.{ExportsQuickly}
use Rattle.point_verification.specs.Verifying.{VerifiesPoint}
use Rattle.program_help.specs.Telling.{help_text, version_text, Tells}
use Rattle.loading_commands.specs.Loading.{Loads, Runs}
use Rattle.browsing_commands.specs.Browses.{Browses}

-- how the command of some words ended
abbrev pub Ends : List (List ℕ) → Command → Outcome → Type 0
Ends words (Pass out) o = (library : Library) → libraries_of words ≡ library ∷ [] → Passes library out o
Ends words (Run journal out report files) o = Runs (libraries_of words) journal out report o
Ends words (Load journal files) o = Loads (libraries_of words) journal o
Ends words (Browse journal out report pages files) o = Browses (libraries_of words) journal out report pages o
Ends words (Export journal out code) o = Reads journal out (reads.Export code) o
Ends words (Report journal out) o = Reads journal out reads.Report o
Ends words (Make seed count out) o = Makes seed count out o
Ends words (Verify journal) o = Verifies journal o
Ends words (VerifyPoint journal point) o = VerifiesPoint journal point o
Ends words (VerifyDigest journal count digest) o = VerifiesDigest journal count digest o
Ends words (Matches journal out) o = TellsMatches journal out o
Ends words (Holdings journal out rest code) o = (library : Library) → libraries_of words ≡ library ∷ [] → AttachesHoldings journal out rest library code o
Ends words (Headings journal range out) o = TellsHeadings journal out range o
Ends words (Worklist journal list page code) o = MakesWorklist journal list page code o
Ends words (Migrate from into) o = Migrates from into o
Ends words (Salvage journal into) o = Salvages journal into o
Ends words (Checkpoint journal point) o = Checkpoints journal point o
Ends words (Quick journal point out) o = ExportsQuickly journal point out None o
Ends words (QuickReport journal point out report) o = ExportsQuickly journal point out (Some report) o
Ends words (Read look journal out) o = LooksInto journal out (look_due look) o
Ends words (ReadHoldings journal out rest code) o = (library : Library) → libraries_of words ≡ library ∷ [] → AttachesUnheld journal out rest library code o
Ends words (ReadWorklist journal list page code) o = ListsUnheld journal list page code o
Ends words (RefusedOf out) o = (library : Library) → libraries_of words ≡ library ∷ [] → GivesBack library out o
Ends words (TotalsOf first reports) o = TellsTotals first reports o
Ends words (Join out exports) o = Joins out exports o
Ends words (Split count prefix files) o = Splits count prefix (libraries_of words) o
Ends words (Help topic) o = Tells (help_text topic) o
Ends words Version o = Tells version_text o

-- the files that a command may change: its log and outputs, and those of `split`, whose names have more than the words
abbrev pub touched : Command → List (List ℕ)
touched (Split count prefix files) = split_names prefix count files
touched command = names_of command

-- a command of some words was carried out: no name is left open, no file changes but its log and outputs, and it ended as it does, and
-- not as words end that are no command
pub record CarriesOut (words : List (List ℕ)) (command : Command) (o : Outcome) : Type 0 where
  pub closed : (name : List ℕ) → o.new.open_as name ≡ None
  pub apart : SameBut o.old o.new (touched command)
  pub ends : Ends words command o
  pub no_usage : o.end ≢ Told Usage

-- the same with its exit status, which is the end as a number
abbrev pub EndsWith : List (List ℕ) → Command → ℕ → (End → Outcome) → Type 0
EndsWith words command status o = (end : End) × (status ≡ end_status end) × Ends words command (o end)
