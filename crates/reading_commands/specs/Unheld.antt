-- How the command ends that writes the records of a journal which it doesn't hold, with the holdings of a file behind them. The rules are
-- this project's own.
use Rattle.std.specs.Prelude.{◌≡◌, ◌≢◌, ◌⊎◌, ℕ, true, List, [], ◌∷◌, Option, Some, IsSomeAnd}
use Rattle.marc_types.specs.declared.entry.Entry.{Entry}
use Rattle.outside.specs.Fault.{Rose}
use Rattle.outside.specs.Room.{SameBut}
use Rattle.command_words.specs.declared.library.Library.{Library}
use Rattle.catalogue_rules.specs.Settle.{state_of}
use Rattle.durable_catalogue.specs.Logs.{HasHistory}
use Rattle.console_lines.specs.Ends.{Outcome, IsTold, TellsNoFault, IsSilent, out_unwritten, console_unwritten}
use Rattle.console_lines.specs.declared.end.End.{End}
use Rattle.console_lines.specs.declared.end.End.TheVariants.{Done, Refused, Unwritten, Told, BroughtInPart, Differ}
use Rattle.console_lines.specs.declared.end.Unwritten.TheVariants.{Out, Side, Pages, Console}
use Rattle.console_lines.specs.declared.fault.Fault.{Fault}
use Rattle.console_lines.specs.declared.fault.Fault.TheVariants.{Usage, Input, Device, NotAJournal, Full, Memory, OldVersion, OtherHistory}
use Rattle.journal_files.specs.Journals.{journal_limits, HasFittingHistory}
use Rattle.holdings_command.specs.Attaching.{rest_unwritten, IsAttached}
use Rattle.unheld_journals.specs.Untaken.{WhyUntaken}

-- how it ends: no device fails, since none is used
abbrev pub EndsUnheld : End → Type 0
EndsUnheld Done = Unit {0}
EndsUnheld Refused = Unit {0}
EndsUnheld (Unwritten Out) = Unit {0}
EndsUnheld (Unwritten Side) = Unit {0}
EndsUnheld (Unwritten Pages) = ⊥
EndsUnheld (Unwritten Console) = Unit {0}
EndsUnheld (Told Usage) = ⊥
EndsUnheld (Told Input) = Unit {0}
EndsUnheld (Told Device) = ⊥
EndsUnheld (Told (NotAJournal place)) = Unit {0}
EndsUnheld (Told Full) = Unit {0}
EndsUnheld (Told Memory) = Unit {0}
EndsUnheld (Told OldVersion) = ⊥
EndsUnheld (Told OtherHistory) = ⊥
EndsUnheld BroughtInPart = ⊥
EndsUnheld Differ = ⊥

-- The command `reading holdings`: the records of the history of a journal's bytes, which are only read, up to their first closed gate, with
-- the holdings of a file behind them into OUT, and the holdings that wait for their record into REST.
pub record AttachesUnheld (journal out rest : List ℕ) (library : Library) (code : Option (List ℕ)) (o : Outcome) : Type 0 where
  pub ends : EndsUnheld o.end
  -- a fault is told, and leaves the room as it was
  pub told : (why : Fault) → o.end ≡ Told why → IsTold why o × SameBut o.old o.new []
  -- another than of an input is told for its reason
  pub so : (why : Fault) → o.end ≡ Told why → why ≢ Input → why ≢ Memory → o.old.tells ≡ true → IsSomeAnd (o.old.file journal) (λ bytes. WhyUntaken (journal_limits o.old) bytes why)
  -- where OUT could not be written nothing but it has changed
  pub no_rest : o.end ≡ out_unwritten → SameBut o.old o.new (out ∷ [])
  -- where an output could not be written the console is as it was
  pub silent : (o.end ≡ out_unwritten) ⊎ (o.end ≡ rest_unwritten) → IsSilent o
  -- the outside's faults have their cause
  pub input : o.end ≡ Told Input → Rose (o.old.in_faults journal) (o.new.in_faults journal) ⊎ Rose (o.old.in_faults library.file) (o.new.in_faults library.file)
  pub out_cause : o.end ≡ out_unwritten → Rose (o.old.out_faults out) (o.new.out_faults out)
  pub rest_cause : o.end ≡ rest_unwritten → Rose (o.old.out_faults rest) (o.new.out_faults rest)
  pub console_cause : o.end ≡ console_unwritten → Rose o.faults o.faults_now
  -- without a fault to tell both files were there, the journal with a history within the room's limits, and what is due of both was delivered
  pub history : TellsNoFault o.end → o.old.tells ≡ true → IsSomeAnd (o.old.file journal) (HasFittingHistory o.old)
  pub delivers : (bytes : List ℕ) (entries : List Entry) → TellsNoFault o.end → o.old.tells ≡ true → o.old.file journal ≡ Some bytes → HasHistory entries bytes
      → IsSomeAnd (o.old.file library.file) (λ file. IsAttached library code file (state_of entries) out rest o)
