-- What a room keeps of a log of checkpoints.
use Rattle.std.proofs.Common.{◌≡◌, ◌∙◌, inl, ℕ, ◌≤◌, true, List, [], Option, Some, is_some, Result, Ok, Err, refl, sym, ap, subst}
use Rattle.std.specs.Prelude.{IfOk, IfErr, IsErrOf}
use Rattle.std.proofs.Math.Logic.{∥∥₁_map}
use Rattle.marc_types.specs.declared.entry.Entry.{Entry}
use Rattle.outside.specs.Disk.{DiskView}
use Rattle.outside.specs.Fault.{Rose, count_sum}
use Rattle.outside.specs.Room.{RoomView, SameBut, bytes_or_none}
use Rattle.outside.proofs.Counts.{rose_closed}
use Rattle.outside.proofs.Rooms.{untouched_same}
use Rattle.commit_journal.specs.Journal.{LeavesLog}
use Rattle.commit_journal.proofs.Logs.{leaves_self}
use Rattle.durable_catalogue.specs.Logs.{HasHistory}
use Rattle.durable_catalogue.specs.declared.fault.OpenFault.{OpenFault}
use Rattle.durable_catalogue.specs.declared.fault.OpenFault.TheVariants.{DeviceFault}
use Rattle.durable_catalogue.specs.Refused.{LeavesAlone}
use Rattle.durable_catalogue.proofs.Keeping.{some_of}
use Rattle.durable_catalogue.proofs.Readings.{same_log}
use Rattle.journal_files.specs.Journals.{log_bytes, IsClosedDisk, KeepsHistory}
use Rattle.journal_files.proofs.Journals.{IsTimed, settled_now, closed_history, keeps_where}
use Rattle.checkpoint.specs.declared.point.Point.{Point}
use Rattle.checkpoint_commands.specs.PointLogs.{IsPointLog, IsOnlyRead, IsUntaken, IsLeftAlone}
use Rattle.checkpoint_commands.specs.Adding.{HasPointOrNone, HasNewPoint, IsAdding, IsAdded, IsNotAdded}
use Rattle.checkpoint_commands.specs.Refusals.{IsPointRefused}
use Rattle.checkpoint_commands.specs.Rooms.{PutsBehind, Unopened, Opened, IsPutBehind}

-- a fault of a log that had none when it was opened is one of its name
pub rose_of : (before opened closed was now : ℕ) → was ≡ 0 → before ≤ opened → closed ≡ count_sum opened now → Rose was now → Rose before closed
rose_of before opened closed was now fresh earlier counted rose =
    subst (Rose before) (sym counted) (rose_closed before opened now earlier (subst (λ n. Rose n now) fresh rose))

-- a log that isn't opened
pub puts_unopened : (history : List Entry) (old new : RoomView) (name : List ℕ) → SameBut old new [] → PutsBehind history old new name
puts_unopened history old new name stays = Unopened (untouched_same old new name stays)

pub refused_unopened : (old new : RoomView) (name : List ℕ) → Rose (old.log_faults name) (new.log_faults name) → IsPointRefused old new name DeviceFault
refused_unopened old new name rose = record { so = λ tells. tt; kept = λ other. absurd (other refl); alone = λ other. absurd (other refl); cause = λ device. rose }

-- a log was opened as a disk, behind which a checkpoint was put, and the disk was closed as the log
module _ (history : List Entry) (old new : RoomView) (name : List ℕ) (before disk : DiskView) (told : before.content ≡ Some (log_bytes old name))
    (closed : IsClosedDisk disk new name) where
  module _ (a : IsAdding history before disk) where
    told_now : (now : List ℕ) × (disk.content ≡ Some now)
    told_now = some_of disk.content (a.tells ∙ ap is_some told)

    bytes_now : log_bytes new name ≡ told_now.0
    bytes_now = ap bytes_or_none (closed.file ∙ told_now.1)

    pub puts_behind : before.moment ≡ 0 → PutsBehind history old new name
    puts_behind begins =
        let unchanged = closed.same.unchanged in
        Opened closed.is_log
        (λ s c synced left. a.images s (log_bytes old name) c (ap disk.synced begins ∙ sym (unchanged.syncs 0) ∙ synced) told ((unchanged.lefts s c).0 left))
        (subst (HasPointOrNone history (log_bytes old name)) (sym bytes_now) (a.content (log_bytes old name) told_now.0 told told_now.1))
        (λ dated none.
        ap bytes_or_none closed.file
        ∙ ap bytes_or_none (a.unsynced (sym a.dated ∙ sym unchanged.dated ∙ dated) (ap disk.synced begins ∙ sym (unchanged.syncs 0) ∙ none) ∙ told))

    pub put_behind : IsAdded history before disk → IsPutBehind history old new name
    put_behind added =
        let was = added.was (log_bytes old name) told in
        record {
          last = was.0;
          was = was.1;
          file = subst (HasNewPoint history (log_bytes old name)) (sym bytes_now) (added.content (log_bytes old name) told_now.0 told told_now.1);
          is_log = closed.is_log;
          images = λ c image. added.images (log_bytes old name) c told ((closed.same.unchanged.images c).0 image);
        }

-- a log that was left alone, and is closed again
pub alone_keeps : (old new : RoomView) (name : List ℕ) (before disk : DiskView) → before.content ≡ Some (log_bytes old name) → before.moment ≡ 0
    → IsClosedDisk disk new name → IsTimed disk → IsLeftAlone before disk → KeepsHistory ⊥ old new name
alone_keeps old new name before disk told begins closed timed left =
    closed_history old new name disk closed ⊥ (subst (λ o. LeavesAlone ⊥ log (bytes_or_none o)) (sym now.1) content)
    (λ entries has. subst (λ o. HasHistory entries (bytes_or_none o)) (sym now.1) (∥∥₁_map has (same_log entries log now.0 content.leaves.same)))
    (λ s c synced was. left.opens.crash s log c (ap disk.synced begins ∙ synced) told was)
    (λ dated none. ap bytes_or_none (left.opens.unsynced (sym left.opens.continues.dated ∙ dated) (ap disk.synced begins ∙ none) ∙ told))
    (λ other synced. settled_now before disk begins timed synced now.0 now.1 left.settled)
  where
    log : List ℕ
    log = log_bytes old name

    now : (bytes : List ℕ) × (disk.content ≡ Some bytes)
    now = some_of disk.content (left.opens.continues.tells ∙ ap is_some told)

    content : LeavesAlone ⊥ log now.0
    content = left.content log now.0 told now.1

-- a log that was refused, and is closed again
pub point_refused : (old opened new : RoomView) (name : List ℕ) (before disk : DiskView) (why : OpenFault) → (old.tells ≡ true → before.content ≡ Some (log_bytes old name))
    → before.moment ≡ 0 → (old.tells ≡ true → IsClosedDisk disk new name) → IsTimed disk → before.faults ≡ 0 → old.log_faults name ≤ opened.log_faults name
    → new.log_faults name ≡ count_sum (opened.log_faults name) disk.faults → IsNotAdded before disk why → IsPointRefused old new name why
point_refused old opened new name before disk why told begins closed timed fresh earlier counted none = record {
  so = λ tells. none.so (log_bytes old name) (told tells);
  kept = λ device memory tells. ap bytes_or_none ((closed tells).file ∙ (none.kept device memory).content ∙ told tells);
  alone = λ other tells. alone_keeps old new name before disk (told tells) begins (closed tells) timed (none.alone other);
  cause = λ device. rose_of _ _ _ before.faults disk.faults fresh earlier counted (none.cause device);
}

-- a log was opened as a disk, of which nothing but reading was done, and the disk was closed as the log
module _ (failed : Type 0) (old new : RoomView) (name : List ℕ) (before disk : DiskView) (told : before.content ≡ Some (log_bytes old name)) (begins : before.moment ≡ 0)
    (closed : IsClosedDisk disk new name) (read : IsOnlyRead failed before disk) where
  content_is : disk.content ≡ Some (log_bytes old name)
  content_is = read.unwritten.content ∙ told

  same_bytes : bytes_or_none disk.content ≡ log_bytes old name
  same_bytes = ap bytes_or_none content_is

  pub read_bytes : log_bytes new name ≡ log_bytes old name
  read_bytes = ap bytes_or_none closed.file ∙ same_bytes

  pub read_keeps : IsTimed disk → KeepsHistory failed old new name
  read_keeps timed =
      closed_history old new name disk closed failed
      (record { leaves = subst (λ now. LeavesLog (log_bytes old name) now) (sym same_bytes) (leaves_self (log_bytes old name)); bytes = λ other. inl same_bytes })
      (λ entries has. subst (HasHistory entries) (sym same_bytes) has)
      (λ s c synced left. read.opens.crash s (log_bytes old name) c (ap disk.synced begins ∙ synced) told left)
      (λ dated none. same_bytes)
      (λ other synced. settled_now before disk begins timed synced (log_bytes old name) content_is (read.settled other))

-- what was read of it
pub read_last_point : (old : RoomView) (name : List ℕ) (before : DiskView) → (old.tells ≡ true → before.content ≡ Some (log_bytes old name)) → (result : Result (Option Point) OpenFault)
    → IfOk result (λ last. (log : List ℕ) → before.content ≡ Some log → IsPointLog last log) → IfOk result (λ last. old.tells ≡ true → IsPointLog last (log_bytes old name))
read_last_point old name before told (Ok last) is = λ tells. is (log_bytes old name) (told tells)
read_last_point old name before told (Err why) is = tt

-- and why it isn't taken
pub read_refused : (old opened new : RoomView) (name : List ℕ) (before disk : DiskView) → (old.tells ≡ true → before.content ≡ Some (log_bytes old name))
    → before.moment ≡ 0 → (old.tells ≡ true → IsClosedDisk disk new name) → IsTimed disk → before.faults ≡ 0 → old.log_faults name ≤ opened.log_faults name
    → new.log_faults name ≡ count_sum (opened.log_faults name) disk.faults → (result : Result (Option Point) OpenFault) → IsOnlyRead (IsErrOf result DeviceFault) before disk
    → IfErr result (λ why. (log : List ℕ) → before.content ≡ Some log → IsUntaken log why) → (IsErrOf result DeviceFault → Rose before.faults disk.faults)
    → IfErr result (IsPointRefused old new name)
read_refused old opened new name before disk told begins closed timed fresh earlier counted (Ok last) read none cause = tt
read_refused old opened new name before disk told begins closed timed fresh earlier counted (Err why) read none cause = record {
  so = λ tells. none (log_bytes old name) (told tells);
  kept = λ device memory tells. ap bytes_or_none ((closed tells).file ∙ read.unwritten.content ∙ told tells);
  alone = λ other tells.
      keeps_where (IsErrOf {T = Option Point} {E = OpenFault} (Err why) DeviceFault) ⊥ old new name (λ is. other cc)
      (read_keeps (IsErrOf {T = Option Point} {E = OpenFault} (Err why) DeviceFault) old new name before disk (told tells) begins (closed tells) read timed);
  cause = λ device. rose_of _ _ _ before.faults disk.faults fresh earlier counted (cause (ap (λ f. Err f) device));
}
