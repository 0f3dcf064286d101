-- A command over objects that keep a promise: an input has no fault; an output, a log or the console has none before it has so many
-- bytes, and those are more than is due there, of a log and the console behind what they have. The rules are this project's own.
use Rattle.std.specs.Prelude.{◌≡◌, ◌⊎◌, ℕ, ◌+◌, ◌<◌, ◌≤◌, max, true, List, [], ◌∷◌, ◌++◌, length, All, Option, Some, None, IsSomeAnd}
use Rattle.std.specs.List.{sum_by}
use Rattle.marc_types.specs.declared.entry.Entry.{Entry}
use Rattle.outside.specs.Room.{RoomView, ReadsAlways, HoldsUpTo}
use Rattle.marc_stream.specs.Pieces.{items}
use Rattle.workload.specs.Workload.{workload_bytes}
use Rattle.commit_journal.specs.declared.format.TheConstants.{BLANK_LENGTH}
use Rattle.command_words.specs.declared.library.Library.{Library}
use Rattle.command_words.specs.Command.{Command, Pass, Run, Load, Browse, Export, Report, Make, Verify, VerifyPoint, VerifyDigest, Matches, Holdings, Headings, Worklist, Migrate, Salvage as SalvageOf, Checkpoint, Quick, QuickReport, Read, ReadHoldings, ReadWorklist, Refused as RefusedOf, Totals as TotalsOf, Join, Split, Help, Version, libraries_of}
use Rattle.file_entries.specs.Files.{IsJudged}
use Rattle.file_entries.specs.declared.refused.RefusedItem.{RefusedItem}
use Rattle.entry_record.specs.History.{IsMerged}
use Rattle.durable_catalogue.specs.Images.{framed_lengths}
use Rattle.durable_catalogue.specs.Logs.{HasHistory}
use Rattle.journal_files.specs.Journals.{journal_limits, log_bytes}
use Rattle.archive_commands.specs.Reads as reads
use Rattle.catalogue_parts.specs.Joined.{line_of_totals}
use Rattle.catalogue_parts.specs.declared.totals.Totals.{Totals}
use Rattle.parts_commands.specs.Reports.{AreJoined}
use Rattle.plain_commands.specs.Making.{workload_line}
use Rattle.plain_commands.specs.Passing.{FileDue, results, export_due}
use Rattle.plain_commands.specs.GivingBack.{refused_due}
use Rattle.reading_commands.specs.Looking.{look_due}
use Rattle.journal_verification.specs.Contents.{IsVerified}
use Rattle.journal_verification.specs.declared.verified.Verified.{Verified}
use Rattle.journal_verification.specs.Verifying.{verified_lines}
use Rattle.journal_verification.specs.Digests.{IsDigestOf, digest_line}
use Rattle.sound_frames.specs.Sound.{SoundPart, IsSoundOf}
use Rattle.salvage_command.specs.Told.{salvaged_lines}
use Rattle.holdings.specs.declared.holding.Holding.{Holding}
use Rattle.file_holdings.specs.Files.{AreHoldings}
use Rattle.file_holdings.specs.declared.refused.RefusedHolding.{RefusedHolding}
use Rattle.catalogue_rules.specs.Settle.{state_of}
use Rattle.catalogue_rules.specs.Output.{all_keys, export_of, report_of}
use Rattle.holdings_command.specs.Attaching as attaching
use Rattle.archive_commands.specs.Telling.{matches_due}
use Rattle.heading_list.specs.Telling.{headings_due}
use Rattle.worklist_command.specs.Working.{list_due}
use Rattle.worklist_page.specs.Page.{page_of}
use Rattle.migrate_command.specs.Migrates.{migrated_line}
use Rattle.console_lines.specs.Lines.{resumed_line}
use Rattle.checkpoint_commands.specs.Quick.{IsResumedFrom}
use Rattle.point_verification.specs.Verifying.{AreOwn}
use Rattle.program_help.specs.Telling.{help_text, version_text}
use Rattle.loading_commands.specs.Console.{console_of}
use Rattle.loading_commands.specs.Merged.{AreJudged}
use Rattle.heading_rows.specs.declared.row.BrowsePage.{BrowsePage}
use Rattle.browsing_commands.specs.Pages.{ArePagesOf, pages_text}
use Rattle.union_top.specs.Fits.{Fits}
use Rattle.union_top.specs.Complete.{Around}

-- the room promises that reading these libraries' files never fails
abbrev pub AreReadAlways : RoomView → List Library → Type 0
AreReadAlways room libraries = All (λ library. room.promise library.file ≡ ReadsAlways) libraries

-- the room promises that the output of that name holds more bytes than these, and than an output of it had that failed
pub record HoldsOutput (room : RoomView) (name bytes : List ℕ) : Type 0 where
  pub most : ℕ
  pub promised : room.promise name ≡ HoldsUpTo most
  pub failed : room.failed_at name < most
  pub due : length bytes < most

-- the room promises that the log of that name holds more than so many bytes behind those of now, or behind a blank log
pub record HoldsLog (room : RoomView) (name : List ℕ) (added : ℕ) : Type 0 where
  pub most : ℕ
  pub promised : room.promise name ≡ HoldsUpTo most
  pub due : max BLANK_LENGTH (length (log_bytes room name)) + added < most

-- The console tells its bytes, has no fault before it has so many, as a sure sink has none whatever it was told, and holds this text
-- behind those of before.
pub record HoldsText (a : Around) (text : List ℕ) : Type 0 where
  pub most : ℕ
  pub sure : (a.faults_now ≡ 0) ⊎ ((bytes : List ℕ) → a.now ≡ Some bytes → most ≤ length bytes)
  pub before : List ℕ
  pub tells : a.told ≡ Some before
  pub due : length before + length text < most

-- what may come of the one file of a pass
pub record PassCase (room : RoomView) (libraries : List Library) : Type 0 where
  pub library : Library
  pub named : libraries ≡ library ∷ []
  pub accepted : List Entry
  pub refused : List RefusedItem
  pub judged : IsSomeAnd (room.file library.file) (λ bytes. IsJudged library.code 0 (items bytes) accepted refused)

-- what may come of files that are loaded into a journal: their accepted entries are merged behind its history in any order that
-- loading may take
pub record LoadCase (room : RoomView) (journal : List ℕ) (libraries : List Library) : Type 0 where
  pub before : List Entry
  pub added : List Entry
  pub accepted : List (List Entry)
  pub refused : List (List RefusedItem)
  pub was : HasHistory before (log_bytes room journal)
  pub judged : AreJudged room 0 libraries accepted refused
  pub merged : IsMerged before accepted added

-- what may come of a journal that has such entries, and of the one file of holdings
pub record HoldingsCase (room : RoomView) (has : List Entry → Type 0) (libraries : List Library) : Type 0 where
  pub library : Library
  pub named : libraries ≡ library ∷ []
  pub entries : List Entry
  pub was : has entries
  pub accepted : List Holding
  pub refused : List RefusedHolding
  pub judged : IsSomeAnd (room.file library.file) (λ bytes. AreHoldings library.code (items bytes) accepted refused)

-- and what is due then
abbrev pub holdings_due : {room : RoomView} {has : List Entry → Type 0} {libraries : List Library} → Option (List ℕ) → HoldingsCase room has libraries
    → attaching.Due
holdings_due code c = attaching.due_of c.library.file code (state_of c.entries) c.accepted c.refused

-- the log of that name has these entries
abbrev pub LogHas : RoomView → List ℕ → List Entry → Type 0
LogHas room journal entries = HasHistory entries (log_bytes room journal)

-- a file of that name is there, and its bytes have these entries
abbrev pub FileHas : RoomView → List ℕ → List Entry → Type 0
FileHas room journal entries = IsSomeAnd (room.file journal) (HasHistory entries)

-- the file is read, what is due of it is written, and the console is told of it
pub record IsSurePass (due : FileDue) (libraries : List Library) (out : List ℕ) (a : Around) : Type 0 where
  pub inputs : AreReadAlways a.old libraries
  pub output : (c : PassCase a.old libraries) (bytes : List ℕ) → a.old.file c.library.file ≡ Some bytes → HoldsOutput a.old out (due bytes c.accepted c.refused)
  pub console : (c : PassCase a.old libraries) → HoldsText a (results c.library.file c.accepted c.refused)

-- the workload is written, in a room that tells its files, and the console is told of it
pub record IsSureMake (seed count : ℕ) (out : List ℕ) (a : Around) : Type 0 where
  pub tells : a.old.tells ≡ true
  pub output : HoldsOutput a.old out (workload_bytes seed count)
  pub console : HoldsText a (workload_line seed count)

-- a journal is only read, and what is due of its history is written
pub record IsSureReading (due : List Entry → List ℕ) (journal out : List ℕ) (a : Around) : Type 0 where
  pub log : HoldsLog a.old journal 0
  pub output : (entries : List Entry) → HasHistory entries (log_bytes a.old journal) → HoldsOutput a.old out (due entries)

-- a journal is only read, and the list and the page that are due of its history are written
pub record IsSureWorklist (journal list page : List ℕ) (code : Option (List ℕ)) (a : Around) : Type 0 where
  pub log : HoldsLog a.old journal 0
  pub output : (entries : List Entry) → HasHistory entries (log_bytes a.old journal) → HoldsOutput a.old list (list_due code entries)
  pub page_output : (entries : List Entry) → HasHistory entries (log_bytes a.old journal) → HoldsOutput a.old page (page_of entries)

-- the journal is an input, and what is due of its history is written
pub record IsSureLook (due : List Entry → List ℕ) (journal out : List ℕ) (a : Around) : Type 0 where
  pub input : a.old.promise journal ≡ ReadsAlways
  pub output : (bytes : List ℕ) (entries : List Entry) → a.old.file journal ≡ Some bytes → HasHistory entries bytes → HoldsOutput a.old out (due entries)

-- the journal is an input, and the list and the page that are due of its history are written
pub record IsSureWorklistUnheld (journal list page : List ℕ) (code : Option (List ℕ)) (a : Around) : Type 0 where
  pub input : a.old.promise journal ≡ ReadsAlways
  pub output : (bytes : List ℕ) (entries : List Entry) → a.old.file journal ≡ Some bytes → HasHistory entries bytes → HoldsOutput a.old list (list_due code entries)
  pub page_output : (bytes : List ℕ) (entries : List Entry) → a.old.file journal ≡ Some bytes → HasHistory entries bytes → HoldsOutput a.old page (page_of entries)

-- the journal is an input, and the console is told what it has
pub record IsSureVerify (journal : List ℕ) (a : Around) : Type 0 where
  pub input : a.old.promise journal ≡ ReadsAlways
  pub console : (v : Verified) → IsSomeAnd (a.old.file journal) (λ log. IsVerified log v) → HoldsText a (verified_lines v)

-- the journal and the log of checkpoints are inputs, and the console is told how many entries the checkpoint holds that is the journal's
-- own
pub record IsSureVerifyPoint (journal point : List ℕ) (a : Around) : Type 0 where
  pub input : a.old.promise journal ≡ ReadsAlways
  pub point_input : a.old.promise point ≡ ReadsAlways
  pub console : (bytes point_bytes : List ℕ) (held count : ℕ) → a.old.file journal ≡ Some bytes → a.old.file point ≡ Some point_bytes
      → AreOwn (journal_limits a.old) bytes point_bytes held count → HoldsText a (resumed_line held count)

-- the journal is an input, and the console is told the digest of its first so many entries
pub record IsSureVerifyDigest (journal : List ℕ) (count : ℕ) (digits : List ℕ) (a : Around) : Type 0 where
  pub input : a.old.promise journal ≡ ReadsAlways
  pub console : (bytes : List ℕ) (own : IsDigestOf count digits bytes) → a.old.file journal ≡ Some bytes → HoldsText a (digest_line own.digest count)

-- the file is read; both outputs of a journal that has such entries are written, and the console is told of the file
pub record IsSureAttaching (has : List Entry → Type 0) (libraries : List Library) (out rest : List ℕ) (code : Option (List ℕ)) (a : Around) : Type 0 where
  pub inputs : AreReadAlways a.old libraries
  pub output : (c : HoldingsCase a.old has libraries) → HoldsOutput a.old out (holdings_due code c).out
  pub rest_output : (c : HoldingsCase a.old has libraries) → HoldsOutput a.old rest (holdings_due code c).rest
  pub console : (c : HoldingsCase a.old has libraries) → HoldsText a (holdings_due code c).text

-- the journal is only read, and both outputs are written as above
pub record IsSureHoldings (libraries : List Library) (journal out rest : List ℕ) (code : Option (List ℕ)) (a : Around) : Type 0 where
  pub log : HoldsLog a.old journal 0
  pub attaching : IsSureAttaching (LogHas a.old journal) libraries out rest code a

-- the journal is an input, and both outputs are written as above
pub record IsSureUnheld (libraries : List Library) (journal out rest : List ℕ) (code : Option (List ℕ)) (a : Around) : Type 0 where
  pub input : a.old.promise journal ≡ ReadsAlways
  pub attaching : IsSureAttaching (FileHas a.old journal) libraries out rest code a

-- the old journal is only read, and the new one gains a frame for each entry that the history has behind its own; the console is told
-- how many there are
pub record IsSureMigrate (from into : List ℕ) (a : Around) : Type 0 where
  pub log : HoldsLog a.old from 0
  pub new_log : (entries more : List Entry) → HasHistory entries (log_bytes a.old into) → HasHistory (entries ++ more) (log_bytes a.old from)
      → HoldsLog a.old into (framed_lengths more)
  pub console : (history : List Entry) → HasHistory history (log_bytes a.old from) → HoldsText a (migrated_line (length history))

-- the damaged journal is an input, and the new one gains a frame for each sound entry behind its own; the console is told of them and of the
-- damages
pub record IsSureSalvage (journal into : List ℕ) (a : Around) : Type 0 where
  pub input : a.old.promise journal ≡ ReadsAlways
  pub new_log : (bytes : List ℕ) (all : SoundPart) (entries more : List Entry) → a.old.file journal ≡ Some bytes → IsSoundOf bytes all
      → HasHistory entries (log_bytes a.old into) → entries ++ more ≡ all.entries → HoldsLog a.old into (framed_lengths more)
  pub console : (bytes : List ℕ) (all : SoundPart) → a.old.file journal ≡ Some bytes → IsSoundOf bytes all → HoldsText a (salvaged_lines bytes all)

-- both logs are only read, what is due of them is written, and the console is told of how many entries the checkpoint spared
pub record IsSureQuick (journal point out : List ℕ) (a : Around) : Type 0 where
  pub log : HoldsLog a.old journal 0
  pub point_log : HoldsLog a.old point 0
  pub output : (r : IsResumedFrom journal point a.old) → HoldsOutput a.old out (export_of all_keys r.state)
  pub console : (r : IsResumedFrom journal point a.old) → HoldsText a (resumed_line r.taken (length r.history))

-- the same, and the report of the same state is written
pub record IsSureQuickReport (journal point out report : List ℕ) (a : Around) : Type 0 where
  pub quick : IsSureQuick journal point out a
  pub report_output : (r : IsResumedFrom journal point a.old) → HoldsOutput a.old report (report_of r.state)

-- the files are read, the journal gains a frame for each accepted entry at most, and the console is told of the files
pub record IsSureLoad (libraries : List Library) (journal : List ℕ) (a : Around) : Type 0 where
  pub inputs : AreReadAlways a.old libraries
  pub log : (accepted : List (List Entry)) (refused : List (List RefusedItem)) → AreJudged a.old 0 libraries accepted refused
      → HoldsLog a.old journal (sum_by framed_lengths accepted)
  pub console : (c : LoadCase a.old journal libraries) → HoldsText a (console_of c.before c.added libraries c.accepted c.refused)

-- the same, and the export and the report of the history that it makes are written
pub record IsSureRun (libraries : List Library) (journal out report : List ℕ) (a : Around) : Type 0 where
  pub load : IsSureLoad libraries journal a
  pub output : (c : LoadCase a.old journal libraries) → HoldsOutput a.old out (reads.due_of (reads.Export None) (c.before ++ c.added))
  pub report_output : (c : LoadCase a.old journal libraries) → HoldsOutput a.old report (reads.due_of reads.Report (c.before ++ c.added))

-- the same, and any pages of that history are written
pub record IsSureBrowse (libraries : List Library) (journal out report pages : List ℕ) (a : Around) : Type 0 where
  pub run : IsSureRun libraries journal out report a
  pub pages_output : (c : LoadCase a.old journal libraries) (due : List BrowsePage) → ArePagesOf (length c.before) (c.before ++ c.added) due
      → HoldsOutput a.old pages (pages_text due)

-- the reports are read, and the console is told what they come to
pub record IsSureTotals (first : List ℕ) (reports : List (List ℕ)) (a : Around) : Type 0 where
  pub inputs : All (λ name. a.old.promise name ≡ ReadsAlways) (first ∷ reports)
  pub console : (whole : Totals) → AreJoined a.old.file first reports whole → HoldsText a (line_of_totals whole)

-- what the command of some words uses keeps its promise, and holds what is due; of no room is it said that it holds a checkpoint, what is joined
-- of exports, or the parts of files
abbrev pub HoldsAll : List (List ℕ) → Command → Around → Type 0
HoldsAll words (Pass out) a = IsSurePass export_due (libraries_of words) out a
HoldsAll words (Run journal out report files) a = IsSureRun (libraries_of words) journal out report a
HoldsAll words (Load journal files) a = IsSureLoad (libraries_of words) journal a
HoldsAll words (Browse journal out report pages files) a = IsSureBrowse (libraries_of words) journal out report pages a
HoldsAll words (Export journal out code) a = IsSureReading (reads.due_of (reads.Export code)) journal out a
HoldsAll words (Report journal out) a = IsSureReading (reads.due_of reads.Report) journal out a
HoldsAll words (Make seed count out) a = IsSureMake seed count out a
HoldsAll words (Verify journal) a = IsSureVerify journal a
HoldsAll words (VerifyPoint journal point) a = IsSureVerifyPoint journal point a
HoldsAll words (VerifyDigest journal count digest) a = IsSureVerifyDigest journal count digest a
HoldsAll words (Matches journal out) a = IsSureReading matches_due journal out a
HoldsAll words (Holdings journal out rest code) a = IsSureHoldings (libraries_of words) journal out rest code a
HoldsAll words (Headings journal range out) a = IsSureReading (headings_due range) journal out a
HoldsAll words (Worklist journal list page code) a = IsSureWorklist journal list page code a
HoldsAll words (Migrate from into) a = IsSureMigrate from into a
HoldsAll words (SalvageOf journal into) a = IsSureSalvage journal into a
HoldsAll words (Checkpoint journal point) a = ⊥
HoldsAll words (Quick journal point out) a = IsSureQuick journal point out a
HoldsAll words (QuickReport journal point out report) a = IsSureQuickReport journal point out report a
HoldsAll words (Read look journal out) a = IsSureLook (look_due look) journal out a
HoldsAll words (ReadHoldings journal out rest code) a = IsSureUnheld (libraries_of words) journal out rest code a
HoldsAll words (ReadWorklist journal list page code) a = IsSureWorklistUnheld journal list page code a
HoldsAll words (RefusedOf out) a = IsSurePass refused_due (libraries_of words) out a
HoldsAll words (TotalsOf first reports) a = IsSureTotals first reports a
HoldsAll words (Join out exports) a = ⊥
HoldsAll words (Split count prefix files) a = ⊥
HoldsAll words (Help topic) a = HoldsText a (help_text topic)
HoldsAll words Version a = HoldsText a version_text

-- the command of some words fits, over objects that keep such promises
pub record IsSure (words : List (List ℕ)) (command : Command) (a : Around) : Type 0 where
  pub fits : Fits words command a.old
  pub holds : HoldsAll words command a
