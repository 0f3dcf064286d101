-- How the command ends that writes a journal's records with the holdings of a file. The rules are this project's own.
use Rattle.std.specs.Prelude.{◌≡◌, ◌≢◌, ◌⊎◌, ℕ, Bool, true, List, [], ◌∷◌, length, nat_lt, Option, Some, IsSomeAnd}
use Rattle.std.specs.Io.KnownBytes.{Appends}
use Rattle.marc_types.specs.declared.entry.Entry.{Entry}
use Rattle.outside.specs.Fault.{Rose}
use Rattle.outside.specs.Room.{SameBut}
use Rattle.outside.specs.Sink.{WritesFront}
use Rattle.marc_stream.specs.Pieces.{items}
use Rattle.command_words.specs.declared.library.Library.{Library}
use Rattle.catalogue_rules.specs.State.{State}
use Rattle.catalogue_rules.specs.Settle.{state_of}
use Rattle.durable_catalogue.specs.Logs.{HasHistory}
use Rattle.console_lines.specs.Ends.{Outcome, IsTold, TellsNoFault, IsSilent, end_of, out_unwritten, side_unwritten, console_unwritten}
use Rattle.console_lines.specs.declared.end.End.{End}
use Rattle.console_lines.specs.declared.end.End.TheVariants.{Done, Refused, Unwritten, Told, BroughtInPart, Differ}
use Rattle.console_lines.specs.declared.end.Unwritten.TheVariants.{Out, Side, Pages, Console}
use Rattle.console_lines.specs.declared.fault.Fault.{Fault}
use Rattle.console_lines.specs.declared.fault.Fault.TheVariants.{Usage, Input, Device, NotAJournal, Full, Memory, OldVersion, OtherHistory}
use Rattle.journal_files.specs.Journals.{log_bytes, KeepsHistory, IsDurable, HasFittingHistory}
use Rattle.output_files.specs.Kept.{kept_keys}
use Rattle.output_files.specs.Outputs.{IsOutputLeft}
use Rattle.journal_files.specs.Faults.{WhyUnopened}
use Rattle.holdings.specs.declared.holding.Holding.{Holding}
use Rattle.holdings.specs.Shelves.{shelf_of}
use Rattle.file_holdings.specs.Files.{AreHoldings}
use Rattle.file_holdings.specs.declared.refused.RefusedHolding.{RefusedHolding}
use Rattle.holdings_export.specs.Output.{holdings_export, holdings_rest}
use Rattle.holdings_command.specs.Lines.{holdings_results}

-- the end where REST, the side output, could not be written
abbrev pub rest_unwritten : End
rest_unwritten = side_unwritten

-- how it ends: a log of an older version is read too
abbrev pub EndsAttaching : End → Type 0
EndsAttaching Done = Unit {0}
EndsAttaching Refused = Unit {0}
EndsAttaching (Unwritten Out) = Unit {0}
EndsAttaching (Unwritten Side) = Unit {0}
EndsAttaching (Unwritten Pages) = ⊥
EndsAttaching (Unwritten Console) = Unit {0}
EndsAttaching (Told Usage) = ⊥
EndsAttaching (Told Input) = Unit {0}
EndsAttaching (Told Device) = Unit {0}
EndsAttaching (Told (NotAJournal place)) = Unit {0}
EndsAttaching (Told Full) = Unit {0}
EndsAttaching (Told Memory) = Unit {0}
EndsAttaching (Told OldVersion) = ⊥
EndsAttaching (Told OtherHistory) = ⊥
EndsAttaching BroughtInPart = ⊥
EndsAttaching Differ = ⊥

-- the ends behind the opening of the journal: without a fault to tell, or with one of the file
abbrev pub IsBehindOpening : End → Type 0
IsBehindOpening end = TellsNoFault end ⊎ (end ≡ Told Input)

-- what is due: in OUT, in REST and on the console, and whether something was refused
pub record Due : Type 0 where
  pub out : List ℕ
  pub rest : List ℕ
  pub text : List ℕ
  pub refused : Bool

-- what is due of a state and a file's judgement; the code selects records, and no holdings of REST
abbrev pub due_of : List ℕ → Option (List ℕ) → State → List Holding → List RefusedHolding → Due
due_of file code s accepted refused = record {
  out = holdings_export (kept_keys code) s (shelf_of accepted);
  rest = holdings_rest s (shelf_of accepted);
  text = holdings_results file s accepted refused;
  refused = nat_lt 0 (length refused);
}

-- How far what is due was delivered: to OUT, then to REST, then to the console. What comes behind the first that failed isn't begun.
pub data IsDelivered (due : Due) (out rest : List ℕ) (o : Outcome) : Type 0 where
  OutFailed : o.end ≡ out_unwritten → IsOutputLeft o.old o.new out due.out → o.new.file rest ≡ o.old.file rest
      → IsSilent o → IsDelivered due out rest o
  RestFailed : o.end ≡ rest_unwritten → o.new.file out ≡ Some due.out → IsOutputLeft o.old o.new rest due.rest
      → IsSilent o → IsDelivered due out rest o
  ConsoleFailed : o.end ≡ console_unwritten → o.new.file out ≡ Some due.out → o.new.file rest ≡ Some due.rest
      → WritesFront o.told o.now due.text → IsDelivered due out rest o
  Whole : o.end ≡ end_of due.refused → o.new.file out ≡ Some due.out → o.new.file rest ≡ Some due.rest
      → Appends o.told o.now due.text → IsDelivered due out rest o

-- the items of a file with these bytes were judged, and what is due of them and of a state was delivered
pub record IsAttached (library : Library) (code : Option (List ℕ)) (bytes : List ℕ) (s : State) (out rest : List ℕ) (o : Outcome) : Type 0 where
  pub accepted : List Holding
  pub refused : List RefusedHolding
  pub judged : AreHoldings library.code (items bytes) accepted refused
  pub delivered : IsDelivered (due_of library.file code s accepted refused) out rest o

-- The command `holdings`: a journal's records with the holdings of a file behind them into OUT, and the holdings that wait for their
-- record into REST. The journal keeps its history.
pub record AttachesHoldings (journal out rest : List ℕ) (library : Library) (code : Option (List ℕ)) (o : Outcome) : Type 0 where
  pub ends : EndsAttaching o.end
  pub keeps : o.old.tells ≡ true → KeepsHistory (o.end ≡ Told Device) o.old o.new journal
  -- a fault is told for its reason, and the outputs are untouched
  pub told : (why : Fault) → o.end ≡ Told why → IsTold why o × SameBut o.old o.new (journal ∷ [])
  pub because : (why : Fault) → o.end ≡ Told why → why ≢ Input → WhyUnopened o.old journal why
  -- where OUT could not be written nothing but it and the journal has changed
  pub no_rest : o.end ≡ out_unwritten → SameBut o.old o.new (journal ∷ out ∷ [])
  -- where an output could not be written the console is as it was
  pub silent : (o.end ≡ out_unwritten) ⊎ (o.end ≡ rest_unwritten) → IsSilent o
  -- the outside's faults have their cause
  pub device : o.end ≡ Told Device → Rose (o.old.log_faults journal) (o.new.log_faults journal)
  pub input : o.end ≡ Told Input → Rose (o.old.in_faults library.file) (o.new.in_faults library.file)
  pub out_cause : o.end ≡ out_unwritten → Rose (o.old.out_faults out) (o.new.out_faults out)
  pub rest_cause : o.end ≡ rest_unwritten → Rose (o.old.out_faults rest) (o.new.out_faults rest)
  pub console_cause : o.end ≡ console_unwritten → Rose o.faults o.faults_now
  -- the file is read behind the journal: its log has a history within the room's limits, which is durable
  pub history : IsBehindOpening o.end → o.old.tells ≡ true → HasFittingHistory o.old (log_bytes o.old journal)
  pub durable : IsBehindOpening o.end → o.old.tells ≡ true → IsDurable o.new journal
  -- and without a fault to tell the file was there, and what is due of both was delivered
  pub delivers : (entries : List Entry) → TellsNoFault o.end → o.old.tells ≡ true → HasHistory entries (log_bytes o.old journal)
      → IsSomeAnd (o.old.file library.file) (λ bytes. IsAttached library code bytes (state_of entries) out rest o)
