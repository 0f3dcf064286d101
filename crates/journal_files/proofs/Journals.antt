-- A journal as it is opened and closed again.
use Rattle.std.proofs.Common.{◌≡◌, ◌⊎◌, inl, inr, ⊎_elim, ◌∙◌, ℕ, ◌<◌, ◌≤◌, max, Bool, true, false, List, length, Option, Some, None, is_some, refl, sym, ap, subst, arith, []}
use Rattle.std.proofs.Math.Logic.{∥∥₁_map}
use Rattle.marc_types.specs.declared.entry.Entry.{Entry}
use Rattle.marc_types.specs.declared.entry.Limits.{Limits}
use Rattle.marc_types.specs.Limits.{limits_of}
use Rattle.outside.specs.Disk.{DiskView, SameDisk, Unchanged, OnlyContent}
use Rattle.outside.specs.Fault.{Rose, count_sum}
use Rattle.outside.specs.Room.{RoomView, AsLog, SameBut, bytes_or_none}
use Rattle.outside.proofs.Counts.{rose_closed}
use Rattle.commit_journal.specs.declared.format.TheConstants.{BLANK_LENGTH}
use Rattle.commit_journal.specs.Journal.{IsDurableLog, EndsAt, LeavesLog}
use Rattle.commit_journal.specs.Log.{version_of}
use Rattle.durable_catalogue.specs.Logs.{HasHistory}
use Rattle.durable_catalogue.specs.Opened.{IsOpenedDisk, IsRefusedDisk}
use Rattle.durable_catalogue.specs.Openings.{IsOpening, KeepsContent}
use Rattle.durable_catalogue.specs.Refused.{LeavesAlone, LeavesDiskAlone, LeavesSettled}
use Rattle.durable_catalogue.specs.declared.fault.OpenFault.{OpenFault}
use Rattle.durable_catalogue.specs.declared.fault.OpenFault.TheVariants.{DeviceFault}
use Rattle.durable_catalogue.specs.Durables.{Opening, IsLeft, marked}
use Rattle.durable_catalogue.proofs.Images.{holds_newest}
use Rattle.durable_catalogue.proofs.Keeping.{some_of}
use Rattle.durable_catalogue.proofs.Readings.{same_log}
use Rattle.journal_files.specs.Journals.{journal_limits, log_bytes, HasSynced, KeepsLog, KeepsHistory, Unopened, Opened, IsClosedDisk, IsClosedTo, IsJustOpened, IsOpenLog, IsRefusedLog, IsDurable}

-- the limits of a room stay
pub same_limits : (a b : RoomView) (names : List (List ℕ)) → SameBut a b names → journal_limits b ≡ journal_limits a
same_limits a b names same = ap limits_of same.sizes

-- what is refused by limits that are a room's is refused by those of the room
pub refused_by_room : (limits : Limits) (room : RoomView) (old new : DiskView) (why : OpenFault) → limits ≡ journal_limits room
    → IsRefusedDisk limits old new why → IsRefusedDisk (journal_limits room) old new why
refused_by_room limits room old new why are refused = subst (λ l. IsRefusedDisk l old new why) are refused

-- what the trait says of a disk's moments
pub record IsTimed (disk : DiskView) : Type 0 where
  pub after : (t s : ℕ) → disk.synced t ≡ Some s → t < s
  pub by_now : (t s : ℕ) → disk.synced t ≡ Some s → s ≤ disk.moment
  pub undated : disk.dated ≡ false → OnlyContent disk

-- where a disk has synced, some call was made on it, so the content is all that a crash may leave
pub settled_now : (old new : DiskView) → old.moment ≡ 0 → IsTimed new → HasSynced new → (now : List ℕ) → new.content ≡ Some now
    → OnlyContent new ⊎ SameDisk old new → (c : List ℕ) → new.image c → c ≡ bytes_or_none new.content
settled_now old new begins timed synced now told either c image = decided either
  where
    only : OnlyContent new → c ≡ bytes_or_none new.content
    only is = is now c told image ∙ sym (ap bytes_or_none told)

    never : SameDisk old new → (s : ℕ) → new.synced 0 ≡ Some s → ⊥
    never same s at =
        let moment = same.unchanged.moment in
        let later = timed.after 0 s at in
        let no_later = timed.by_now 0 s at in
        omega (arith, moment, begins, later, no_later)

    untouched : SameDisk old new → (b : Bool) → new.dated ≡ b → c ≡ bytes_or_none new.content
    untouched same true dated = let s = some_of (new.synced 0) (synced dated) in absurd (never same s.0 s.1)
    untouched same false dated = only (timed.undated dated)

    decided : OnlyContent new ⊎ SameDisk old new → c ≡ bytes_or_none new.content
    decided (inl is) = only is
    decided (inr same) = untouched same new.dated refl

-- a log that was opened: what it was before and is now
module _ (old new : DiskView) (log : List ℕ) (told : old.content ≡ Some log) (begins : old.moment ≡ 0) (opening : IsOpening old new) where
  since_began : (s : ℕ) → new.synced 0 ≡ Some s → new.synced old.moment ≡ Some s
  since_began s synced = ap new.synced begins ∙ synced

  pub images_keep : (s : ℕ) (c : List ℕ) → new.synced 0 ≡ Some s → new.left s c → LeavesLog log c
  images_keep s c synced left = opening.images s log c (since_began s synced) told left

  -- the content now
  now_told : (now : List ℕ) × (new.content ≡ Some now)
  now_told = some_of new.content (opening.tells ∙ ap is_some told)

  pub content_keeps : KeepsContent old new → (entries : List Entry) → HasHistory entries log → HasHistory entries (bytes_or_none new.content)
  content_keeps keeps entries has = subst (λ o. HasHistory entries (bytes_or_none o)) (sym now_told.1) (keeps log now_told.0 entries told now_told.1 has)

  -- where no sync succeeded, the content is as it was
  pub unsynced_keeps : new.dated ≡ true → new.synced 0 ≡ None → bytes_or_none new.content ≡ log
  unsynced_keeps dated none =
      ap bytes_or_none (opening.unsynced (sym opening.dated ∙ dated) (ap new.synced begins ∙ none) ∙ told)

  -- an opening keeps the log
  pub opening_keeps : IsOpenedDisk old new → KeepsLog log new
  opening_keeps opened = record {
    leaves = subst (λ o. LeavesLog log (bytes_or_none o)) (sym now_told.1) (opened.in_order.leaves log now_told.0 told now_told.1);
    bytes = ap bytes_or_none (opened.in_order.bytes log told);
    content = content_keeps opened.content;
    images = images_keep;
    synced = λ dated. ap (λ n. is_some (new.synced n)) (sym begins) ∙ opened.synced (sym opening.dated ∙ dated);
    only = λ c image. opened.only now_told.0 c now_told.1 image ∙ sym (ap bytes_or_none now_told.1);
  }

  -- and one that is refused leaves it alone
  pub refusal_alone : (failed : Type 0) → LeavesDiskAlone failed old new → LeavesAlone failed log (bytes_or_none new.content)
  refusal_alone failed alone = subst (λ o. LeavesAlone failed log (bytes_or_none o)) (sym now_told.1) (alone log now_told.0 told now_told.1)

  -- and settled, where it has synced
  pub refusal_settled : (fault : OpenFault) → LeavesSettled old new fault → IsTimed new → (fault ≡ DeviceFault → ⊥) → HasSynced new
      → (c : List ℕ) → new.image c → c ≡ bytes_or_none new.content
  refusal_settled fault settled timed other synced =
      settled_now old new begins timed synced now_told.0 now_told.1 (⊎_elim (λ only. inl only) (λ same. inr same.1) (settled other))

-- a log that is closed has what its disk has
module _ (old new : RoomView) (name : List ℕ) (disk : DiskView) (closed : IsClosedDisk disk new name) where
  pub closed_history : (failed : Type 0) → LeavesAlone failed (log_bytes old name) (bytes_or_none disk.content)
      → ((entries : List Entry) → HasHistory entries (log_bytes old name) → HasHistory entries (bytes_or_none disk.content))
      → ((s : ℕ) (c : List ℕ) → disk.synced 0 ≡ Some s → disk.left s c → LeavesLog (log_bytes old name) c)
      → (disk.dated ≡ true → disk.synced 0 ≡ None → bytes_or_none disk.content ≡ log_bytes old name)
      → ((failed → ⊥) → HasSynced disk → (c : List ℕ) → disk.image c → c ≡ bytes_or_none disk.content)
      → KeepsHistory failed old new name
  closed_history failed alone content images unsynced settled = Opened (record {
    is_log = closed.is_log;
    alone = subst (λ o. LeavesAlone failed (log_bytes old name) (bytes_or_none o)) (sym closed.file) alone;
    history = λ entries has. subst (λ o. HasHistory entries (bytes_or_none o)) (sym closed.file) (content entries has);
    images = each;
    image_history = λ entries s c has synced left. ∥∥₁_map has (same_log entries (log_bytes old name) c (each s c synced left).same);
    unsynced = λ dated none. ap bytes_or_none closed.file ∙ unsynced (sym unchanged.dated ∙ dated) (sym (unchanged.syncs 0) ∙ none);
    settled = λ other synced c image.
        settled other (λ dated. ap is_some (sym (unchanged.syncs 0)) ∙ synced (unchanged.dated ∙ dated)) c ((unchanged.images c).0 image) ∙ sym (ap bytes_or_none closed.file);
  })
    where
      unchanged : Unchanged disk (new.log name)
      unchanged = closed.same.unchanged

      each : (s : ℕ) (c : List ℕ) → (new.log name).synced 0 ≡ Some s → (new.log name).left s c → LeavesLog (log_bytes old name) c
      each s c synced left = images s c (sym (unchanged.syncs 0) ∙ synced) ((unchanged.lefts s c).0 left)

  -- it keeps what it kept
  pub closed_keeps : (failed : Type 0) → KeepsLog (log_bytes old name) disk → KeepsHistory failed old new name
  closed_keeps failed keeps =
      closed_history failed (record { leaves = keeps.leaves; bytes = λ other. inr keeps.bytes }) keeps.content keeps.images
      (λ dated none. let no = sym (ap is_some none) ∙ keeps.synced dated in cc) (λ other synced. keeps.only)

  -- and what was read of it is durable
  pub closed_durable : (log : List ℕ) → KeepsLog log disk → IsDurable new name
  closed_durable log keeps =
      let unchanged = closed.same.unchanged in
      record {
        is_log = closed.is_log;
        synced = λ dated. ap is_some (unchanged.syncs 0) ∙ keeps.synced (sym unchanged.dated ∙ dated);
        only = λ c image. keeps.only c ((unchanged.images c).0 image) ∙ sym (ap bytes_or_none closed.file);
      }

  -- a log that was refused and is closed again keeps its history
  pub refused_keeps : (was : DiskView) (why : OpenFault) → was.content ≡ Some (log_bytes old name) → was.moment ≡ 0
      → IsRefusedDisk (journal_limits old) was disk why → IsTimed disk → KeepsHistory (why ≡ DeviceFault) old new name
  refused_keeps was why told begins refused timed =
      let log = log_bytes old name in
      closed_history (why ≡ DeviceFault) (refusal_alone was disk log told begins refused.crash (why ≡ DeviceFault) refused.left_alone)
      (content_keeps was disk log told begins refused.crash refused.content)
      (images_keep was disk log told begins refused.crash)
      (unsynced_keeps was disk log told begins refused.crash)
      (refusal_settled was disk log told begins refused.crash why refused.settled timed)

-- a log that isn't opened is as it was
pub unopened_keeps : (failed : Type 0) (old new : RoomView) (name : List ℕ) → SameBut old new [] → KeepsHistory failed old new name
unopened_keeps failed old new name stays = Unopened (record { file = stays.files name tt; is_log = stays.log_names name tt; log = stays.logs name tt })

-- a log that isn't opened is refused for its device
pub unopened_log : (old new : RoomView) (name : List ℕ) → old.open_as name ≡ None → SameBut old new [] → Rose (old.log_faults name) (new.log_faults name)
    → IsRefusedLog old new name DeviceFault
unopened_log old new name free stays rose = record {
  closed = stays.open_names name tt ∙ free;
  keeps = λ told. unopened_keeps (DeviceFault ≡ DeviceFault) old new name stays;
  kept = λ told other. absurd (other refl);
  so = λ told. tt;
  cause = λ device. rose;
}

-- a log that was opened to be read
pub open_log : (old new : RoomView) (name : List ℕ) (version : ℕ) (was now : DiskView) → new.open_as name ≡ Some AsLog
    → (old.tells ≡ true → was.content ≡ Some (log_bytes old name)) → was.moment ≡ 0 → ((log : List ℕ) → was.content ≡ Some log → version_of log ≡ version)
    → IsOpenedDisk was now → IsOpenLog old new name version now
open_log old new name version was now open_as bytes begins named opened = record {
  is_open = open_as;
  version_is = λ told. named (log_bytes old name) (bytes told);
  kept = λ told. opening_keeps was now (log_bytes old name) (bytes told) begins opened.crash opened;
}

-- a log that was just opened, and closed again since it is refused
pub refused_log : (old mid new : RoomView) (name : List ℕ) (was now : DiskView) (why : OpenFault) → IsJustOpened old mid name was
    → IsRefusedDisk (journal_limits old) was now why → IsTimed now → new.open_as name ≡ None → (mid.tells ≡ true → IsClosedDisk now new name)
    → new.log_faults name ≡ count_sum (mid.log_faults name) now.faults → IsRefusedLog old new name why
refused_log old mid new name was now why opened refused timed closed disk counted = record {
  closed = closed;
  keeps = λ told. refused_keeps old new name now (disk (opened.apart.tells ∙ told)) was why (opened.bytes told) opened.beginning refused timed;
  kept = λ told other. ap bytes_or_none ((disk (opened.apart.tells ∙ told)).file ∙ (refused.kept other).content ∙ opened.bytes told);
  so = λ told. refused.so (log_bytes old name) (opened.bytes told);
  cause = λ device.
      let rose = rose_closed (old.log_faults name) (mid.log_faults name) now.faults (opened.apart.log_counts name)
      (subst (λ n. Rose n now.faults) opened.fresh (refused.failed device)) in
      subst (Rose (old.log_faults name)) (sym counted) rose;
}

-- what is kept where one thing failed is kept where another did that comes with it
pub keeps_where : (failed also : Type 0) (old new : RoomView) (name : List ℕ) → (failed → also) → KeepsHistory failed old new name → KeepsHistory also old new name
keeps_where failed also old new name is (Unopened untouched) = Unopened untouched
keeps_where failed also old new name is (Opened closed) = Opened (record {
  is_log = closed.is_log;
  alone = record { leaves = closed.alone.leaves; bytes = λ other. closed.alone.bytes (λ f. other (is f)) };
  history = closed.history;
  images = closed.images;
  image_history = closed.image_history;
  unsynced = closed.unsynced;
  settled = λ other. closed.settled (λ f. other (is f));
})

-- an opening leaves the log no longer than it was, or than a blank one
pub opened_length : (old new : DiskView) (log : List ℕ) → old.content ≡ Some log → IsOpenedDisk old new
    → ((b : List ℕ) → new.content ≡ Some b → length b ≡ new.len) → new.len ≤ max BLANK_LENGTH (length log)
opened_length old new log told opened counts =
    let now = some_of new.content (opened.crash.tells ∙ ap is_some told) in
    omega (arith, counts now.0 now.1, (opened.in_order.leaves log now.0 told now.1).same.no_longer)

-- the same disk is left
left_same : (o : Opening) (entries more : List Entry) (disk now : DiskView) → SameDisk disk now → IsLeft o entries more disk → IsLeft o entries more now
left_same o entries more disk now same left =
    let unchanged = same.unchanged in
    record {
      images = λ c told image. left.images c told ((unchanged.images c).0 image);
      since = λ s c told synced was. left.since s c told synced ((unchanged.lefts s c).0 was);
      longest = λ c told image. left.longest c told ((unchanged.images c).0 image);
      syncs = λ s synced. unchanged.syncs o.moment ∙ left.syncs s synced;
      tells = ap is_some unchanged.content ∙ left.tells;
      dated = unchanged.dated ∙ left.dated;
      faults = omega (arith, left.faults, same.faults);
      opened_is = left.opened_is;
      within = left.within;
    }

-- what a catalogue's log is once it is closed
pub closed_to : (room : RoomView) (name : List ℕ) (entries : List Entry) (mark : Option (List Entry)) (o : Opening) (disk : DiskView) (place : ℕ) → IsLeft o entries (marked mark) disk
    → length (marked mark) ≤ 32 → (mark ≡ None → IsDurableLog place 2 disk)
    → o.tells ≡ true → ((b : List ℕ) → disk.content ≡ Some b → disk.image b) → room.has_log name ≡ true → room.file name ≡ disk.content
    → SameDisk disk (room.log name) → IsClosedTo room name entries mark o
closed_to room name entries mark o disk place left few settled tells image is_log file same =
    let bytes = some_of disk.content (left.tells ∙ tells) in
    let unchanged = same.unchanged in
    let holds = left.images bytes.0 tells (image bytes.0 bytes.1) in
    record {
      closed = is_log;
      left = left_same o entries (marked mark) disk (room.log name) same left;
      bytes = bytes.0;
      file = file ∙ bytes.1;
      content = same.unchanged.content ∙ bytes.1;
      holds = holds;
      newest = holds_newest (length entries) entries (marked mark) bytes.0 holds;
      longest = left.longest bytes.0 tells (image bytes.0 bytes.1);
      few = few;
      ended = λ none. let ends = (settled none).ends bytes.0 bytes.1 in subst (λ p. EndsAt p bytes.0) (sym ends.gate) ends;
      only = λ none b c told is. (settled none).only b c (sym unchanged.content ∙ told) ((unchanged.images c).0 is);
    }
