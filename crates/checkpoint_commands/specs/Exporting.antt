-- What is written from a log of checkpoints on, before the console is told. The rules are this project's own.
use Rattle.std.specs.Prelude.{◌≡◌, ℕ, true, List, [], ◌∷◌, Option, Some, None, IfSome, Result, IsErrOf}
use Rattle.marc_types.specs.declared.entry.Entry.{Entry}
use Rattle.outside.specs.Fault.{Rose}
use Rattle.outside.specs.Room.{RoomView, SameBut}
use Rattle.catalogue_rules.specs.State.{State}
use Rattle.catalogue_rules.specs.Output.{all_keys, export_of, report_of}
use Rattle.console_lines.specs.declared.end.OutputsFault.{OutputsFault}
use Rattle.console_lines.specs.declared.end.OutputsFault.TheVariants as outputs
use Rattle.console_lines.specs.declared.end.Unwritten.{Unwritten as Output}
use Rattle.console_lines.specs.declared.end.Unwritten.TheVariants.{Out, Side}
use Rattle.output_files.specs.Outputs.{IsOutputLeft}
use Rattle.durable_catalogue.specs.declared.fault.OpenFault.TheVariants.{DeviceFault}
use Rattle.journal_files.specs.Journals.{log_bytes, KeepsHistory}
use Rattle.checkpoint.specs.declared.point.Point.{Point}
use Rattle.checkpoint_commands.specs.PointLogs.{IsPointLog}
use Rattle.checkpoint_commands.specs.Refusals.{IsPointRefused}
use Rattle.checkpoint_commands.specs.Quick.{IsStateFrom}
use Rattle.checkpoint_commands.specs.declared.quick.QuickFault.{QuickFault}
use Rattle.checkpoint_commands.specs.declared.quick.QuickFault.TheVariants.{Refused, Unwritten}

-- the names of the outputs in their order: OUT, and REPORT where one is asked for
abbrev pub outputs_of : List ℕ → Option (List ℕ) → List (List ℕ)
outputs_of out None = out ∷ []
outputs_of out (Some report) = out ∷ report ∷ []

-- the export of a state is in OUT, and its report in REPORT, where one is asked for
pub record AreOutputsOf (state : State) (out : List ℕ) (report : Option (List ℕ)) (room : RoomView) : Type 0 where
  pub export : room.file out ≡ Some (export_of all_keys state)
  pub report_is : IfSome report (λ name. room.file name ≡ Some (report_of state))

-- OUT couldn't be written, and nothing but these names changed, so REPORT wasn't begun; or REPORT couldn't, and OUT is whole
pub data AreUnwrittenOf (names : List (List ℕ)) (state : State) (out : List ℕ) (report : Option (List ℕ)) (old new : RoomView) (which : Output) : Type 0 where
  AtOut : which ≡ Out → Rose (old.out_faults out) (new.out_faults out) → (old.tells ≡ true → IsOutputLeft old new out (export_of all_keys state))
      → SameBut old new names → AreUnwrittenOf names state out report old new which
  AtReport : (name : List ℕ) → report ≡ Some name → which ≡ Side → Rose (old.out_faults name) (new.out_faults name)
      → (old.tells ≡ true → new.file out ≡ Some (export_of all_keys state)) → (old.tells ≡ true → IsOutputLeft old new name (report_of state))
      → AreUnwrittenOf names state out report old new which

-- why the outputs of a state aren't written: memory ran out before one was begun, or one couldn't be written
abbrev pub WhyUnwritten : State → List ℕ → Option (List ℕ) → RoomView → RoomView → OutputsFault → Type 0
WhyUnwritten state out report old new outputs.NoMemory = SameBut old new []
WhyUnwritten state out report old new (outputs.Unwritten which) = AreUnwrittenOf (out ∷ []) state out report old new which

-- nothing is written to the log of that name, and it keeps what it had
pub record KeepsPoint {T : Type 0} (old new : RoomView) (point : List ℕ) (result : Result T QuickFault) : Type 0 where
  pub bytes : log_bytes new point ≡ log_bytes old point
  pub keeps : KeepsHistory (IsErrOf result (Refused DeviceFault)) old new point

-- a history and the log of that name make this state, and so many entries of the last checkpoint are taken
pub record IsMadeFrom (history : List Entry) (point : List ℕ) (old : RoomView) (taken : ℕ) (state : State) : Type 0 where
  pub last : Option Point
  pub was : IsPointLog last (log_bytes old point)
  pub is_state : IsStateFrom history last taken state

-- its outputs are there
pub record IsWrittenFrom (history : List Entry) (point out : List ℕ) (report : Option (List ℕ)) (old new : RoomView) (taken : ℕ) : Type 0 where
  pub state : State
  pub made : old.tells ≡ true → IsMadeFrom history point old taken state
  pub outputs : old.tells ≡ true → AreOutputsOf state out report new

-- they aren't: one couldn't be written
pub record IsUnwrittenFrom (history : List Entry) (point out : List ℕ) (report : Option (List ℕ)) (old new : RoomView) (which : Output) : Type 0 where
  pub taken : ℕ
  pub state : State
  pub made : old.tells ≡ true → IsMadeFrom history point old taken state
  pub unwritten : AreUnwrittenOf (point ∷ out ∷ []) state out report old new which

-- why they aren't: the log was refused, and no output is touched; or one couldn't be written
abbrev pub IsNotWrittenFrom : List Entry → List ℕ → List ℕ → Option (List ℕ) → RoomView → RoomView → QuickFault → Type 0
IsNotWrittenFrom history point out report old new (Refused why) = IsPointRefused old new point why × SameBut old new (point ∷ [])
IsNotWrittenFrom history point out report old new (Unwritten which) = IsUnwrittenFrom history point out report old new which
