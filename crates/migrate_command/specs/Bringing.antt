-- A history that is brought from one log of a room into another, before the console is told.
use Rattle.std.specs.Prelude.{◌≡◌, ◌≢◌, ◌⊎◌, ℕ, true, List, [], ◌∷◌, length, Result, Ok, Err}
use Rattle.marc_types.specs.declared.entry.Entry.{Entry}
use Rattle.outside.specs.Fault.{Rose}
use Rattle.outside.specs.Room.{RoomView, SameBut}
use Rattle.commit_journal.specs.Log.{version_of}
use Rattle.durable_catalogue.specs.Logs.{HasHistory}
use Rattle.console_lines.specs.declared.fault.Fault.{Fault}
use Rattle.console_lines.specs.declared.fault.Fault.TheVariants.{Device, OldVersion}
use Rattle.journal_files.specs.Journals.{journal_limits, log_bytes, KeepsHistory, HasFittingHistory}
use Rattle.migrate_command.specs.declared.fault.MigrateFault.{MigrateFault}
use Rattle.migrate_command.specs.Migrations.{IsFit, IsUnfit, IsUnmigrated, IsBrought}
use Rattle.migrate_command.specs.Told.{fault_of_migrating}
use Rattle.migrate_command.specs.Migrates.{BringsInto, IsSettledLog, HasInEachImage, WhyNotFrom, WhyNotInto}

-- a history was brought into the log of that name
pub record IsTakenInto (history : List Entry) (old new : RoomView) (into : List ℕ) : Type 0 where
  pub fit : old.tells ≡ true → (entries : List Entry) × IsFit (journal_limits old) history entries (log_bytes old into)
  pub all : (was : List ℕ) → old.tells ≡ true → HasHistory history was → IsBrought history (log_bytes new into)
  pub durable : (was : List ℕ) → old.tells ≡ true → HasHistory history was → HasInEachImage history new into

-- it wasn't: the log doesn't take it, and keeps what it has where it is not fit for that
pub record IsNotTaken (history : List Entry) (old new : RoomView) (into : List ℕ) (fault : Fault) : Type 0 where
  pub reason : MigrateFault
  pub is : fault ≡ fault_of_migrating reason
  pub so : old.tells ≡ true → IsUnmigrated (journal_limits old) history (log_bytes old into) reason
  pub alone : (was : List ℕ) → old.tells ≡ true → HasHistory history was → IsUnfit (journal_limits old) history (log_bytes old into)
      → KeepsHistory (fault ≡ Device) old new into
  pub rose : fault ≡ Device → Rose (old.log_faults into) (new.log_faults into)

-- the history of a log of version 1 was brought into the log of that name
pub record IsBroughtInto (history : List Entry) (version : ℕ) (old new : RoomView) (into : List ℕ) : Type 0 where
  pub oldest : version ≡ 1
  pub taken : IsTakenInto history old new into

-- it wasn't: the first log is of the newest version, and nothing was opened; or the new log doesn't take it
pub data IsUnbrought (history : List Entry) (version : ℕ) (old new : RoomView) (into : List ℕ) (fault : Fault) : Type 0 where
  Newest : fault ≡ OldVersion → (version ≡ 1 → ⊥) → SameBut old new [] → IsUnbrought history version old new into fault
  Refused : version ≡ 1 → IsNotTaken history old new into fault → IsUnbrought history version old new into fault

-- a device's fault was told, and the count of faults of that name's logs rose
abbrev pub IsDeviceFaultOf : RoomView → RoomView → List ℕ → Result ℕ Fault → Type 0
IsDeviceFaultOf old new name result = (result ≡ Err Device) × Rose (old.log_faults name) (new.log_faults name)

-- the history of one log was brought into another, or not
pub record IsBroughtOver (from into : List ℕ) (old new : RoomView) (result : Result ℕ Fault) : Type 0 where
  pub keeps : old.tells ≡ true → KeepsHistory (IsDeviceFaultOf old new from result) old new from
  pub brings : (entries : List Entry) → old.tells ≡ true → HasHistory entries (log_bytes old from) → ∥ BringsInto entries old new into ∥₁
  pub alone : (entries : List Entry) → old.tells ≡ true → HasHistory entries (log_bytes old from) → IsUnfit (journal_limits old) entries (log_bytes old into)
      → KeepsHistory (IsDeviceFaultOf old new into result) old new into
  pub kept : (why : Fault) → result ≡ Err why → why ≢ Device → old.tells ≡ true → log_bytes new into ≡ log_bytes old into
  pub settled : (why : Fault) → result ≡ Err why → why ≢ Device → old.tells ≡ true → IsSettledLog old new into
  pub refused : (why : Fault) → result ≡ Err why → (WhyNotFrom old from why × SameBut old new (from ∷ [])) ⊎ WhyNotInto old from into why
  pub device : result ≡ Err Device → Rose (old.log_faults from) (new.log_faults from) ⊎ Rose (old.log_faults into) (new.log_faults into)
  pub history : (count : ℕ) → result ≡ Ok count → old.tells ≡ true → HasFittingHistory old (log_bytes old from)
  pub version : (count : ℕ) → result ≡ Ok count → old.tells ≡ true → version_of (log_bytes old from) ≡ 1
  pub fit : (count : ℕ) (entries : List Entry) → result ≡ Ok count → old.tells ≡ true → HasHistory entries (log_bytes old from)
      → ∥ ((before : List Entry) × IsFit (journal_limits old) entries before (log_bytes old into)) ∥₁
  pub all : (count : ℕ) (entries : List Entry) → result ≡ Ok count → old.tells ≡ true → HasHistory entries (log_bytes old from)
      → (count ≡ length entries) × IsBrought entries (log_bytes new into)
  pub durable : (count : ℕ) (entries : List Entry) → result ≡ Ok count → old.tells ≡ true → HasHistory entries (log_bytes old from)
      → HasInEachImage entries new into
