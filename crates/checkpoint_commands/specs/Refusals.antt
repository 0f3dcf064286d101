-- Why a command over a journal and a log of checkpoints does nothing. The rules are this project's own.
use Rattle.std.specs.Prelude.{◌≡◌, ◌≢◌, ℕ, true, List, [], ◌∷◌}
use Rattle.outside.specs.Fault.{Rose}
use Rattle.outside.specs.Room.{RoomView, SameBut}
use Rattle.durable_catalogue.specs.declared.fault.OpenFault.{OpenFault}
use Rattle.durable_catalogue.specs.declared.fault.OpenFault.TheVariants as opening
use Rattle.console_lines.specs.declared.fault.Fault.{Fault}
use Rattle.console_lines.specs.declared.fault.Fault.TheVariants.{Device, OldVersion}
use Rattle.journal_files.specs.Faults.{fault_of_opening, WhyUnopened}
use Rattle.journal_files.specs.Journals.{log_bytes, KeepsHistory, HasFittingHistory}
use Rattle.checkpoint_commands.specs.PointLogs.{IsUntaken}

-- The journal was refused before anything else was opened, and not for its version. Unless a device failed, every byte of it is as it
-- was.
pub record IsJournalRefused (journal : List ℕ) (why : Fault) (old new : RoomView) : Type 0 where
  pub unopened : WhyUnopened old journal why
  pub current : why ≢ OldVersion
  pub apart : SameBut old new (journal ∷ [])
  pub kept : why ≢ Device → old.tells ≡ true → log_bytes new journal ≡ log_bytes old journal
  pub cause : why ≡ Device → Rose (old.log_faults journal) (new.log_faults journal)

-- The log of checkpoints of that name was not taken, for that reason, and every byte is as it was; or memory ran out behind that. Unless a
-- device failed the log is left alone, and has nothing but what it had.
pub record IsPointRefused (old new : RoomView) (point : List ℕ) (why : OpenFault) : Type 0 where
  pub so : old.tells ≡ true → IsUntaken (log_bytes old point) why
  pub kept : why ≢ opening.DeviceFault → why ≢ opening.NoMemory → old.tells ≡ true → log_bytes new point ≡ log_bytes old point
  pub alone : why ≢ opening.DeviceFault → old.tells ≡ true → KeepsHistory ⊥ old new point
  pub cause : why ≡ opening.DeviceFault → Rose (old.log_faults point) (new.log_faults point)

-- The journal has a history, within the room's limits, and POINT was refused behind it. Nothing but these two was opened.
pub record IsRefusedBehind (journal point : List ℕ) (why : Fault) (old new : RoomView) : Type 0 where
  pub history : old.tells ≡ true → HasFittingHistory old (log_bytes old journal)
  pub reason : OpenFault
  pub is : why ≡ fault_of_opening reason
  pub refused : IsPointRefused old new point reason
  pub apart : SameBut old new (journal ∷ point ∷ [])
