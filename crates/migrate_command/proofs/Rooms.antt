-- What a room keeps of a log into which a history was brought.
use Rattle.std.proofs.Common.{◌≡◌, ◌≢◌, ◌⊎◌, ◌∙◌, inl, inr, ⊎_elim, ℕ, ◌≤◌, true, List, [], ◌∷◌, Some, is_some, sym, ap, subst}
use Rattle.std.proofs.Math.Logic.{∥∥₁_map}
use Rattle.marc_types.specs.declared.entry.Entry.{Entry}
use Rattle.marc_types.specs.declared.entry.Limits.{Limits}
use Rattle.outside.specs.Disk.{DiskView, OnlyContent, SameDisk}
use Rattle.outside.specs.Fault.{Rose, count_sum}
use Rattle.outside.specs.Room.{RoomView, SameBut, IsUntouched, bytes_or_none}
use Rattle.outside.proofs.Counts.{rose_closed}
use Rattle.outside.proofs.Disks.{same_disk_then}
use Rattle.commit_journal.specs.Journal.{LeavesLog}
use Rattle.durable_catalogue.specs.Logs.{HasHistory}
use Rattle.durable_catalogue.specs.Refused.{LeavesAlone}
use Rattle.durable_catalogue.proofs.Keeping.{some_of}
use Rattle.durable_catalogue.proofs.Readings.{same_log}
use Rattle.journal_files.specs.Journals as journals
use Rattle.journal_files.specs.Journals.{journal_limits, log_bytes, IsClosedDisk, KeepsHistory}
use Rattle.journal_files.proofs.Journals.{same_limits, IsTimed, settled_now, closed_history}
use Rattle.migrate_command.specs.declared.fault.MigrateFault.{MigrateFault}
use Rattle.migrate_command.specs.declared.fault.MigrateFault.TheVariants as migrating
use Rattle.migrate_command.specs.Migrations.{IsFit, IsUnfit, LeavesRefused, LeavesUnfitAlone, IsBrought, IsMigration, IsAmid}
use Rattle.migrate_command.specs.Migrates.{BringsInto, Unopened, Opened, IsAmidInto, IsSettledLog, Untouched, Settled, HasInEachImage}

-- a log was opened as a disk, into which a history was brought within these limits, the room's, and the disk was closed as the log
module _ (history : List Entry) (old new : RoomView) (name : List ℕ) (before disk : DiskView) (told : before.content ≡ Some (log_bytes old name))
    (file : new.file name ≡ disk.content) (limits : Limits) (are : limits ≡ journal_limits old) (m : IsMigration limits history before disk) where
  -- its bytes now
  told_now : (now : List ℕ) × (disk.content ≡ Some now)
  told_now = some_of disk.content (m.tells ∙ ap is_some told)

  of_room : (entries : List Entry) (c : List ℕ) → ∥ IsAmid (IsFit limits history entries (log_bytes old name)) history entries (log_bytes old name) c ∥₁
      → IsAmidInto history entries old name c
  of_room entries c amid = subst (λ l. ∥ IsAmid (IsFit l history entries (log_bytes old name)) history entries (log_bytes old name) c ∥₁) are amid

  pub brings_into : before.moment ≡ 0 → new.has_log name ≡ true → SameDisk disk (new.log name) → BringsInto history old new name
  brings_into begins is_log same =
      let unchanged = same.unchanged in
      Opened is_log
      (λ entries s c has synced left.
      of_room entries c (m.images s (log_bytes old name) c entries (ap disk.synced begins ∙ sym (unchanged.syncs 0) ∙ synced) told ((unchanged.lefts s c).0 left) has))
      (λ entries has.
      subst (λ o. IsAmidInto history entries old name (bytes_or_none o)) (sym (file ∙ told_now.1))
      (of_room entries told_now.0 (m.content (log_bytes old name) told_now.0 entries told told_now.1 has)))
      (λ dated none.
      ap bytes_or_none file
      ∙ ap bytes_or_none (m.unsynced (sym m.dated ∙ sym unchanged.dated ∙ dated) (ap disk.synced begins ∙ sym (unchanged.syncs 0) ∙ none) ∙ told))

  pub all_into : ((c : List ℕ) → disk.content ≡ Some c → IsBrought history c) → IsBrought history (log_bytes new name)
  all_into all = subst (λ o. IsBrought history (bytes_or_none o)) (sym (file ∙ told_now.1)) (all told_now.0 told_now.1)

  -- a log that isn't fit keeps what it has
  pub alone_into : before.moment ≡ 0 → IsClosedDisk disk new name → IsTimed disk → (fault : MigrateFault) → LeavesUnfitAlone limits history fault before disk
      → (fault ≢ migrating.DeviceFault → OnlyContent disk ⊎ ((fault ≡ migrating.NoMemory) × SameDisk before disk))
      → IsUnfit (journal_limits old) history (log_bytes old name) → KeepsHistory (fault ≡ migrating.DeviceFault) old new name
  alone_into begins closed timed fault alone settled unfit =
      closed_history old new name disk closed (fault ≡ migrating.DeviceFault)
      (subst (λ o. LeavesAlone (fault ≡ migrating.DeviceFault) log (bytes_or_none o)) (sym told_now.1) content)
      (λ entries has. subst (λ o. HasHistory entries (bytes_or_none o)) (sym told_now.1) (∥∥₁_map has (same_log entries log told_now.0 content.leaves.same)))
      (λ s c synced was. left.images s c (ap disk.synced begins ∙ synced) was)
      (λ dated none. ap bytes_or_none (m.unsynced (sym m.dated ∙ dated) (ap disk.synced begins ∙ none) ∙ told))
      (λ other synced. settled_now before disk begins timed synced told_now.0 told_now.1 (⊎_elim (λ only. inl only) (λ same. inr same.1) (settled other)))
    where
      log : List ℕ
      log = log_bytes old name

      left : LeavesRefused fault log before disk
      left = alone log told (subst (λ l. IsUnfit l history log) (sym are) unfit)

      content : LeavesAlone (fault ≡ migrating.DeviceFault) log told_now.0
      content = left.content told_now.0 told_now.1

-- unless a device failed, a crash leaves of a log what stands in its file
pub settled_into : (old new : RoomView) (name : List ℕ) (before disk : DiskView) → before.content ≡ Some (log_bytes old name) → disk.content ≡ before.content
    → before.moment ≡ 0 → IsClosedDisk disk new name → IsTimed disk → (fault : MigrateFault) → fault ≢ migrating.DeviceFault
    → (fault ≢ migrating.DeviceFault → OnlyContent disk ⊎ ((fault ≡ migrating.NoMemory) × SameDisk before disk)) → IsSettledLog old new name
settled_into old new name before disk told same begins closed timed fault other settled =
    let unchanged = closed.same.unchanged in
    Settled closed.is_log (λ synced c image.
    settled_now before disk begins timed (λ dated. ap is_some (sym (unchanged.syncs 0)) ∙ synced (unchanged.dated ∙ dated)) (log_bytes old name) (same ∙ told)
    (⊎_elim (λ only. inl only) (λ same. inr same.1) (settled other)) c ((unchanged.images c).0 image)
    ∙ ap bytes_or_none (sym closed.file))

pub images_into : (history : List Entry) (room : RoomView) (name : List ℕ) (disk : DiskView) → room.has_log name ≡ true → SameDisk disk (room.log name)
    → ((c : List ℕ) → disk.image c → IsBrought history c) → HasInEachImage history room name
images_into history room name disk is_log same all = record { is_log = is_log; images = λ c image. all c ((same.unchanged.images c).0 image) }

pub untouched_of : (old new : RoomView) (name : List ℕ) → SameBut old new [] → IsUntouched old new name
untouched_of old new name stays = record { file = stays.files name tt; is_log = stays.log_names name tt; log = stays.logs name tt }

pub untouched_into : (history : List Entry) (old new : RoomView) (name : List ℕ) → SameBut old new [] → BringsInto history old new name
untouched_into history old new name stays = Unopened (untouched_of old new name stays)

-- a fault of a log that had none when it was opened is one of its name
pub rose_into : (before opened closed was now : ℕ) → was ≡ 0 → before ≤ opened → closed ≡ count_sum opened now → Rose was now → Rose before closed
rose_into before opened closed was now fresh earlier counted rose =
    subst (Rose before) (sym counted) (rose_closed before opened now earlier (subst (λ n. Rose n now) fresh rose))

-- another log is opened before, and closed behind
module _ (history : List Entry) (old opened brought closed : RoomView) (from into : List ℕ) (differ : into ≢ from) (first : SameBut old opened (from ∷ []))
    (last : SameBut brought closed (from ∷ [])) where
  pub bytes_first : log_bytes opened into ≡ log_bytes old into
  bytes_first = ap bytes_or_none (first.files into (differ, tt))

  pub bytes_last : log_bytes closed into ≡ log_bytes brought into
  bytes_last = ap bytes_or_none (last.files into (differ, tt))

  amid_first : (entries : List Entry) (c : List ℕ) → IsAmidInto history entries opened into c → IsAmidInto history entries old into c
  amid_first entries c amid =
      subst (λ log. ∥ IsAmid (IsFit (journal_limits old) history entries log) history entries log c ∥₁) bytes_first
      (subst (λ l. ∥ IsAmid (IsFit l history entries (log_bytes opened into)) history entries (log_bytes opened into) c ∥₁)
      (same_limits old opened (from ∷ []) first) amid)

  has_first : (entries : List Entry) → HasHistory entries (log_bytes old into) → HasHistory entries (log_bytes opened into)
  has_first entries has = subst (λ bytes. HasHistory entries bytes) (sym bytes_first) has

  untouched_across : IsUntouched opened brought into → IsUntouched old closed into
  untouched_across u = record {
    file = last.files into (differ, tt) ∙ u.file ∙ first.files into (differ, tt);
    is_log = last.log_names into (differ, tt) ∙ u.is_log ∙ first.log_names into (differ, tt);
    log = λ is.
        let then = first.log_names into (differ, tt) ∙ is in
        same_disk_then (old.log into) (opened.log into) (closed.log into) (first.logs into (differ, tt) is)
        (same_disk_then (opened.log into) (brought.log into) (closed.log into) (u.log then) (last.logs into (differ, tt) (u.is_log ∙ then)));
  }

  pub brings_across : BringsInto history opened brought into → BringsInto history old closed into
  brings_across (Unopened u) = Unopened (untouched_across u)
  brings_across (Opened is_log images content unsynced) =
      let unchanged = (last.logs into (differ, tt) is_log).unchanged in
      Opened (last.log_names into (differ, tt) ∙ is_log)
      (λ entries s c has synced left.
      amid_first entries c (images entries s c (has_first entries has) (sym (unchanged.syncs 0) ∙ synced) ((unchanged.lefts s c).0 left)))
      (λ entries has.
      subst (λ bytes. IsAmidInto history entries old into bytes) (sym bytes_last)
      (amid_first entries (log_bytes brought into) (content entries (has_first entries has))))
      (λ dated none. bytes_last ∙ unsynced (sym unchanged.dated ∙ dated) (sym (unchanged.syncs 0) ∙ none) ∙ bytes_first)

  -- what the log is once it is closed it is still
  pub images_across : HasInEachImage history brought into → HasInEachImage history closed into
  images_across has = record {
    is_log = last.log_names into (differ, tt) ∙ has.is_log;
    images = λ c image. has.images c (((last.logs into (differ, tt) has.is_log).unchanged.images c).0 image);
  }

  pub settled_across : IsSettledLog opened brought into → IsSettledLog old closed into
  settled_across (Untouched u) = Untouched (untouched_across u)
  settled_across (Settled is_log only) =
      let unchanged = (last.logs into (differ, tt) is_log).unchanged in
      Settled (last.log_names into (differ, tt) ∙ is_log) (λ synced c image.
      only (λ dated. ap is_some (sym (unchanged.syncs 0)) ∙ synced (unchanged.dated ∙ dated)) c ((unchanged.images c).0 image) ∙ sym bytes_last)

  pub keeps_across : (failed : Type 0) → KeepsHistory failed opened brought into → KeepsHistory failed old closed into
  keeps_across failed (journals.Unopened u) = journals.Unopened (untouched_across u)
  keeps_across failed (journals.Opened c) =
      let unchanged = (last.logs into (differ, tt) c.is_log).unchanged in
      journals.Opened (record {
        is_log = last.log_names into (differ, tt) ∙ c.is_log;
        alone = subst (λ log. LeavesAlone failed log (log_bytes closed into)) bytes_first
            (subst (λ now. LeavesAlone failed (log_bytes opened into) now) (sym bytes_last) c.alone);
        history = λ entries has. subst (λ bytes. HasHistory entries bytes) (sym bytes_last) (c.history entries (has_first entries has));
        images = λ s i synced left. subst (λ log. LeavesLog log i) bytes_first (c.images s i (sym (unchanged.syncs 0) ∙ synced) ((unchanged.lefts s i).0 left));
        image_history = λ entries s i has synced left.
            c.image_history entries s i (has_first entries has) (sym (unchanged.syncs 0) ∙ synced) ((unchanged.lefts s i).0 left);
        unsynced = λ dated none. bytes_last ∙ c.unsynced (sym unchanged.dated ∙ dated) (sym (unchanged.syncs 0) ∙ none) ∙ bytes_first;
        settled = λ other synced i image.
            c.settled other (λ dated. ap is_some (sym (unchanged.syncs 0)) ∙ synced (unchanged.dated ∙ dated)) i ((unchanged.images i).0 image) ∙ sym bytes_last;
      })
