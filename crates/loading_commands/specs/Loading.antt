-- How the commands end that load files.
use Rattle.std.specs.Prelude.{◌≡◌, ◌≢◌, ◌⊎◌, ℕ, true, List, [], ◌∷◌, Option, Some, None}
use Rattle.outside.specs.Fault.{Rose}
use Rattle.outside.specs.Room.{SameBut}
use Rattle.command_words.specs.declared.library.Library.{Library}
use Rattle.command_words.specs.declared.asked.LoadRequest.{LoadRequest}
use Rattle.command_words.specs.declared.asked.Outputs.{Outputs}
use Rattle.console_lines.specs.Ends.{Outcome, IsTold, IsAllDone, IsSilent, out_unwritten, side_unwritten, console_unwritten}
use Rattle.console_lines.specs.declared.end.End.TheVariants.{Told}
use Rattle.console_lines.specs.declared.fault.Fault.{Fault}
use Rattle.console_lines.specs.declared.fault.Fault.TheVariants.{Usage, Input, Device}
use Rattle.loading_commands.specs.Inputs.{IsInputFault}
use Rattle.loading_commands.specs.Outcomes.{IsFileMissing, HasSameHistory}
use Rattle.loading_commands.specs.Runs.{EndsLoad, EndsRun, IsWholeLoad, IsUntoldLoad, IsWholeRun, IsRunInOut, IsRunInReport, IsUntoldRun, WhyNotLoad}

-- The command `load`: the files of libraries into a journal.
pub record Loads (libraries : List Library) (journal : List ℕ) (o : Outcome) : Type 0 where
  pub ends : EndsLoad o.end
  -- a fault that is told is one of loading
  pub told : (why : Fault) → o.end ≡ Told why → IsTold why o × (why ≢ Usage)
  pub because : (why : Fault) → o.end ≡ Told why → o.old.tells ≡ true → WhyNotLoad o.old o.new journal libraries why
  -- and where a file isn't there, the journal has the history that it had
  pub missing : (why : Fault) → o.end ≡ Told why → o.old.tells ≡ true → IsFileMissing libraries o.old → HasSameHistory o.old o.new journal
  -- the outside's faults have their cause
  pub device : o.end ≡ Told Device → Rose (o.old.log_faults journal) (o.new.log_faults journal)
  pub input : o.end ≡ Told Input → IsInputFault libraries o.old o.new
  pub console_cause : o.end ≡ console_unwritten → Rose o.faults o.faults_now
  pub no_output : (o.end ≢ out_unwritten) × (o.end ≢ side_unwritten)
  -- without one to tell all files were loaded whole
  pub whole : IsAllDone o.end → o.old.tells ≡ true → IsWholeLoad o.old o.new journal libraries o.told o.now o.end
  pub untold : o.end ≡ console_unwritten → o.old.tells ≡ true → IsUntoldLoad o.old o.new journal libraries o.told o.now

-- The command `run`: the same, and then the export and the report of the journal.
pub record Runs (libraries : List Library) (journal out report : List ℕ) (o : Outcome) : Type 0 where
  pub ends : EndsRun o.end
  -- a fault that is told is one of loading, and leaves the outputs untouched
  pub told : (why : Fault) → o.end ≡ Told why → IsTold why o × (why ≢ Usage)
  pub because : (why : Fault) → o.end ≡ Told why → o.old.tells ≡ true → WhyNotLoad o.old o.new journal libraries why
  -- and where a file isn't there, the journal has the history that it had
  pub missing : (why : Fault) → o.end ≡ Told why → o.old.tells ≡ true → IsFileMissing libraries o.old → HasSameHistory o.old o.new journal
  pub untouched : (why : Fault) → o.end ≡ Told why → SameBut o.old o.new (journal ∷ [])
  -- the outside's faults have their cause
  pub device : o.end ≡ Told Device → Rose (o.old.log_faults journal) (o.new.log_faults journal)
  pub input : o.end ≡ Told Input → IsInputFault libraries o.old o.new
  pub out_cause : o.end ≡ out_unwritten → Rose (o.old.out_faults out) (o.new.out_faults out)
  pub report_cause : o.end ≡ side_unwritten → Rose (o.old.out_faults report) (o.new.out_faults report)
  pub console_cause : o.end ≡ console_unwritten → Rose o.faults o.faults_now
  -- the headline
  pub whole : IsAllDone o.end → o.old.tells ≡ true → IsWholeRun o.old o.new journal out report libraries o.told o.now o.end
  -- nothing that comes behind an output that could not be written has begun: REPORT behind OUT, the console behind both
  pub no_report : o.end ≡ out_unwritten → SameBut o.old o.new (journal ∷ out ∷ [])
  pub silent : (o.end ≡ out_unwritten) ⊎ (o.end ≡ side_unwritten) → IsSilent o
  -- and what comes before it is whole
  pub in_out : o.end ≡ out_unwritten → o.old.tells ≡ true → IsRunInOut o.old o.new journal out libraries
  pub in_report : o.end ≡ side_unwritten → o.old.tells ≡ true → IsRunInReport o.old o.new journal out report libraries
  pub untold : o.end ≡ console_unwritten → o.old.tells ≡ true → IsUntoldRun o.old o.new journal out report libraries o.told o.now

-- How a command ends that loads files into a journal: as `load`, or, with outputs, as `run`.
abbrev pub EndsWithOutputs : List Library → List ℕ → Option Outputs → Outcome → Type 0
EndsWithOutputs libraries journal None o = Loads libraries journal o
EndsWithOutputs libraries journal (Some outputs) o = Runs libraries journal outputs.out.now outputs.report.now o

-- how a request to load ends: as `load`, or with outputs as `run`
abbrev pub EndsLoading : LoadRequest → Outcome → Type 0
EndsLoading asked o = EndsWithOutputs asked.libraries asked.journal.now asked.outputs o
