-- What a request of the program asks for.
use Rattle.std.specs.Prelude.{◌≡◌, ℕ, List, [], ◌∷◌, length, map, Option, Some, None, IsSomeAnd, MatchOption, Result, MatchResult}
use Rattle.std.specs.Option.{option_copied}
use Rattle.command_words.specs.Command.{Command, command_of, unheld, libraries_of, words_of_files, split_at_equals, ReadsFiles}
use Rattle.command_words.specs.Command as command
use Rattle.command_words.specs.Look as wanted
use Rattle.command_words.specs.declared.asked.Look.{Look}
use Rattle.command_words.specs.declared.asked.Look.TheVariants as look
use Rattle.command_words.specs.declared.library.Library.{Library}
use Rattle.command_words.specs.declared.asked.AloneRequest.{AloneRequest}
use Rattle.command_words.specs.declared.asked.AloneRequest.TheVariants.{Pass, Held, Make, Verify, VerifyDigest, Migrate, Salvage, Point, Unheld, Refused, Parts, Help, Version}
use Rattle.command_words.specs.declared.asked.HeldLook.{HeldLook}
use Rattle.command_words.specs.declared.asked.HeldLook.TheVariants.{Export, Report, Matches, Holdings, Headings, Worklist}
use Rattle.command_words.specs.declared.asked.PointRequest.{PointRequest}
use Rattle.command_words.specs.declared.asked.PointRequest.TheVariants as point
use Rattle.command_words.specs.declared.asked.PartsRequest.{PartsRequest}
use Rattle.command_words.specs.declared.asked.PartsRequest.TheVariants as parts
use Rattle.command_words.specs.declared.asked.UnheldLook.{UnheldLook}
use Rattle.command_words.specs.declared.asked.UnheldLook.TheVariants as read
use Rattle.command_words.specs.declared.asked.HeadingRange.{HeadingRange}
use Rattle.command_words.specs.declared.asked.HoldingsRequest.{HoldingsRequest}
use Rattle.command_words.specs.declared.asked.LoadRequest.{LoadRequest}
use Rattle.command_words.specs.declared.asked.BrowseRequest.{BrowseRequest}
use Rattle.command_words.specs.declared.asked.Outputs.{Outputs}
use Rattle.command_words.specs.declared.asked.Request.{Request}
use Rattle.command_words.specs.declared.asked.Request.TheVariants.{Alone, Load, Browse}
use Rattle.command_words.specs.declared.asked.Unasked.{Unasked}
use Rattle.command_words.specs.declared.asked.Unasked.TheVariants.{Usage, NoMemory}

-- a range of headings, as a command has it
abbrev pub range_asked : HeadingRange → wanted.HeadingRange
range_asked range = record { kind = range.kind; from = range.from.now; most = range.most }

-- what is looked for, as a command has it
abbrev pub look_asked : Look → wanted.Look
look_asked (look.Export code) = wanted.Export (option_copied code)
look_asked look.Report = wanted.Report
look_asked look.Matches = wanted.Matches
look_asked (look.Headings range) = wanted.Headings (range_asked range)

-- the command that a look into a held journal is
abbrev pub held_asked : HeldLook → Command
held_asked (Export journal out code) = command.Export journal.now out.now (option_copied code)
held_asked (Report journal out) = command.Report journal.now out.now
held_asked (Matches journal out) = command.Matches journal.now out.now
held_asked (Holdings r) = command.Holdings r.journal.now r.out.now r.rest.now (option_copied r.code)
held_asked (Headings journal range out) = command.Headings journal.now (range_asked range) out.now
held_asked (Worklist journal list page code) = command.Worklist journal.now list.now page.now (option_copied code)

-- the command over a log of checkpoints that a request is
abbrev pub point_asked : PointRequest → Command
point_asked (point.Verify journal log) = command.VerifyPoint journal.now log.now
point_asked (point.Checkpoint journal log) = command.Checkpoint journal.now log.now
point_asked (point.Quick journal log out) = command.Quick journal.now log.now out.now
point_asked (point.QuickReport journal log out report) = command.QuickReport journal.now log.now out.now report.now

-- the command that a look into a journal is which isn't held
abbrev pub unheld_asked : UnheldLook → Command
unheld_asked (read.Read look journal out) = command.Read (look_asked look) journal.now out.now
unheld_asked (read.Holdings r) = command.ReadHoldings r.journal.now r.out.now r.rest.now (option_copied r.code)
unheld_asked (read.Worklist journal list page code) = command.ReadWorklist journal.now list.now page.now (option_copied code)

-- the command over the parts of a catalogue that a request is
abbrev pub parts_asked : PartsRequest → Command
parts_asked (parts.Totals first reports) = command.Totals first.now reports.now
parts_asked (parts.Join out exports) = command.Join out.now exports.now
parts_asked (parts.Split count prefix libraries) = command.Split count prefix.now (length libraries)

-- the command that a request is which starts no threads
abbrev pub alone_asked : AloneRequest → Command
alone_asked (Pass library out) = command.Pass out.now
alone_asked (Held look) = held_asked look
alone_asked (Make seed count out) = command.Make seed count out.now
alone_asked (Verify journal) = command.Verify journal.now
alone_asked (VerifyDigest journal count digest) = command.VerifyDigest journal.now count digest.now
alone_asked (Migrate old new) = command.Migrate old.now new.now
alone_asked (Salvage journal new) = command.Salvage journal.now new.now
alone_asked (Point request) = point_asked request
alone_asked (Unheld look) = unheld_asked look
alone_asked (Refused library out) = command.Refused out.now
alone_asked (Parts request) = parts_asked request
alone_asked (Help topic) = command.Help topic
alone_asked Version = command.Version

-- a loading of so many files into a journal, with outputs or with none
abbrev pub loading_of : List ℕ → ℕ → Option Outputs → Command
loading_of journal files None = command.Load journal files
loading_of journal files (Some outputs) = command.Run journal outputs.out.now outputs.report.now files

-- the command that a request is which loads files
abbrev pub load_asked : LoadRequest → Command
load_asked r = loading_of r.journal.now (length r.libraries) r.outputs

-- the command that a request is which loads files while a reader pages through the headings
abbrev pub browse_asked : BrowseRequest → Command
browse_asked r = command.Browse r.journal.now r.outputs.out.now r.outputs.report.now r.pages.now (length r.libraries)

-- the command that a request is
abbrev pub command_asked : Request → Command
command_asked (Alone r) = alone_asked r
command_asked (Load r) = load_asked r
command_asked (Browse r) = browse_asked r

-- the library that a look into a held journal has of its file
abbrev pub held_libraries : HeldLook → List Library
held_libraries (Export journal out code) = []
held_libraries (Report journal out) = []
held_libraries (Matches journal out) = []
held_libraries (Holdings r) = r.library ∷ []
held_libraries (Headings journal range out) = []
held_libraries (Worklist journal list page code) = []

-- the library that one into a journal has which isn't held
abbrev pub unheld_libraries : UnheldLook → List Library
unheld_libraries (read.Read look journal out) = []
unheld_libraries (read.Holdings r) = r.library ∷ []
unheld_libraries (read.Worklist journal list page code) = []

-- the libraries that one over the parts of a catalogue has of its files
abbrev pub parts_libraries : PartsRequest → List Library
parts_libraries (parts.Totals first reports) = []
parts_libraries (parts.Join out exports) = []
parts_libraries (parts.Split count prefix libraries) = libraries

-- the libraries that a request which starts no threads has of its files
abbrev pub alone_libraries : AloneRequest → List Library
alone_libraries (Pass library out) = library ∷ []
alone_libraries (Held look) = held_libraries look
alone_libraries (Make seed count out) = []
alone_libraries (Verify journal) = []
alone_libraries (VerifyDigest journal count digest) = []
alone_libraries (Migrate old new) = []
alone_libraries (Salvage journal new) = []
alone_libraries (Point request) = []
alone_libraries (Unheld look) = unheld_libraries look
alone_libraries (Refused library out) = library ∷ []
alone_libraries (Parts request) = parts_libraries request
alone_libraries (Help topic) = []
alone_libraries Version = []

-- the libraries that a request has of its files
abbrev pub libraries_asked : Request → List Library
libraries_asked (Alone r) = alone_libraries r
libraries_asked (Load r) = r.libraries
libraries_asked (Browse r) = r.libraries

-- Some words ask for this: it is their command, and its libraries are those of their files.
pub record AsksFor (words : List (List ℕ)) (request : Request) : Type 0 where
  pub command : command_of words ≡ Some (command_asked request)
  pub libraries : libraries_asked request ≡ libraries_of words

-- why nothing is asked for: there is no command, or it reads files of libraries
abbrev pub IsUnasked : Unasked → Option Command → Type 0
IsUnasked Usage asked = asked ≡ None
IsUnasked NoMemory asked = IsSomeAnd asked ReadsFiles

-- The words behind a verb, whose command is `asked`, ask for this: it is that command, and its libraries are those of their words
-- `CODE=FILE`.
pub record IsFor (words : List (List ℕ)) (asked : Option Command) (request : Request) : Type 0 where
  pub command : asked ≡ Some (command_asked request)
  pub libraries : (verb : List ℕ) → libraries_asked request ≡ map split_at_equals (words_of_files (verb ∷ words) (Some (command_asked request)))

-- what these words come to
abbrev pub IsAskedBy : Result Request Unasked → List (List ℕ) → Option Command → Type 0
IsAskedBy answer words asked = MatchResult answer (IsFor words asked) (λ why. IsUnasked why asked)

-- The words behind a verb, whose command is `asked`, ask for this, which starts no threads: it is that command, and its libraries are those
-- of their words `CODE=FILE`.
pub record IsAloneFor (words : List (List ℕ)) (asked : Option Command) (request : AloneRequest) : Type 0 where
  pub command : asked ≡ Some (alone_asked request)
  pub libraries : (verb : List ℕ) → alone_libraries request ≡ map split_at_equals (words_of_files (verb ∷ words) (Some (alone_asked request)))

-- what these words come to, where their command starts no threads
abbrev pub IsAloneAskedBy : Result AloneRequest Unasked → List (List ℕ) → Option Command → Type 0
IsAloneAskedBy answer words asked = MatchResult answer (IsAloneFor words asked) (λ why. IsUnasked why asked)

-- the same request of a journal that isn't held, with the same libraries; none where its command doesn't only look into a journal
abbrev pub IsUnheld : AloneRequest → Option AloneRequest → Type 0
IsUnheld asked answer = MatchOption answer (unheld (alone_asked asked) ≡ None)
    (λ request. (unheld (alone_asked asked) ≡ Some (alone_asked request)) × (alone_libraries request ≡ alone_libraries asked))

-- the look into a held journal reads no file of a library
abbrev pub IsFilelessLook : HeldLook → Type 0
IsFilelessLook (Export journal out code) = Unit {0}
IsFilelessLook (Report journal out) = Unit {0}
IsFilelessLook (Matches journal out) = Unit {0}
IsFilelessLook (Holdings r) = ⊥
IsFilelessLook (Headings journal range out) = Unit {0}
IsFilelessLook (Worklist journal list page code) = Unit {0}

-- nor does one into a journal that isn't held
abbrev pub IsFilelessUnheld : UnheldLook → Type 0
IsFilelessUnheld (read.Read look journal out) = Unit {0}
IsFilelessUnheld (read.Holdings r) = ⊥
IsFilelessUnheld (read.Worklist journal list page code) = Unit {0}

-- nor does the command over the parts of a catalogue
abbrev pub IsFilelessParts : PartsRequest → Type 0
IsFilelessParts (parts.Totals first reports) = Unit {0}
IsFilelessParts (parts.Join out exports) = Unit {0}
IsFilelessParts (parts.Split count prefix libraries) = ⊥

-- the request is of a command that reads no file of a library
abbrev pub IsFileless : AloneRequest → Type 0
IsFileless (Pass library out) = ⊥
IsFileless (Held look) = IsFilelessLook look
IsFileless (Make seed count out) = Unit {0}
IsFileless (Verify journal) = Unit {0}
IsFileless (VerifyDigest journal count digest) = Unit {0}
IsFileless (Migrate old new) = Unit {0}
IsFileless (Salvage journal new) = Unit {0}
IsFileless (Point request) = Unit {0}
IsFileless (Unheld look) = IsFilelessUnheld look
IsFileless (Refused library out) = ⊥
IsFileless (Parts request) = IsFilelessParts request
IsFileless (Help topic) = Unit {0}
IsFileless Version = Unit {0}

-- such a request is that command; there is none where there is no command
abbrev pub AsksAlone : Option AloneRequest → Option Command → Type 0
AsksAlone answer asked = MatchOption answer (asked ≡ None) (λ request. (asked ≡ Some (alone_asked request)) × IsFileless request)
