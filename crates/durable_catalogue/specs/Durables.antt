-- What a catalogue over a journal keeps. The rules are this project's own.
use Rattle.std.specs.Prelude.{◌≡◌, ◌≢◌, ℕ, ◌+◌, ◌≤◌, Bool, true, false, List, [], ◌∷◌, ◌++◌, length, take, Option, Some, None, is_some}
use Rattle.std.specs.Option.{option_map}
use Rattle.std.specs.declared.snapshot.Snapshot.{Snapshot}
use Rattle.marc_types.specs.declared.entry.Entry.{Entry}
use Rattle.marc_types.specs.declared.entry.Limits.{Limits}
use Rattle.marc_types.specs.declared.entry.CommitFault.{CommitFault}
use Rattle.marc_types.specs.declared.entry.CommitFault.TheVariants.{Full, NoMemory, DeviceFault, Broken}
use Rattle.outside.specs.Disk.{DiskView}
use Rattle.entry_record.specs.History.{IsWithin}
use Rattle.entry_history.specs.Commits.{Origin}
use Rattle.entry_history.specs.Events.{committed}
use Rattle.entry_history.specs.declared.event.Event.{Event}
use Rattle.entry_history.specs.declared.reply.BatchReply.{BatchReply}
use Rattle.entry_history.specs.declared.event.Event.TheVariants.{Broke}
use Rattle.durable_catalogue.specs.Images.{HoldsEntries, framed_lengths}

-- the frame that a device failed to take, as its entries
abbrev pub mark_of : Option (Snapshot (List Entry)) → Option (List Entry)
mark_of mark = option_map (λ frame. frame.value) mark

-- the entries of the frame that a device failed to take
abbrev pub marked : Option (List Entry) → List Entry
marked None = []
marked (Some frame) = frame

-- the mark of a frame in doubt, where there is one
abbrev pub marks : Option (List Entry) → List Event
marks None = []
marks (Some frame) = Broke frame ∷ []

-- the committed entries, and the mark where a device failed
abbrev pub events : List Entry → Option (List Entry) → List Event
events entries mark = committed entries ++ marks mark

-- the entries of a commit with this end are committed
abbrev pub is_taken : Option CommitFault → Bool
is_taken None = true
is_taken (Some Full) = true
is_taken (Some NoMemory) = false
is_taken (Some DeviceFault) = false
is_taken (Some Broken) = false

-- a commit that took no entry, though no device failed in it: Broken, want of memory, or Full with no receipt
abbrev pub TookNothing : BatchReply → Type 0
TookNothing reply = (reply.receipts ≡ []) × (reply.end ≢ Some DeviceFault)

-- what an opening leaves and no commit changes: the limits and the run; how many entries there were, and how many bytes the log had
-- when it was open; whether the disk told its content and its moments, when it was handed over, and how many faults it had had; and
-- the moment of the first sync since then, where the disk tells its moments
pub record Opening : Type 0 where
  pub origin : Origin
  pub opened : ℕ
  pub length : ℕ
  pub tells : Bool
  pub dated : Bool
  pub moment : ℕ
  pub faults : ℕ
  pub synced : Option ℕ

-- what stays of an opening
abbrev pub opening : Limits → ℕ → ℕ → DiskView → DiskView → Opening
opening limits run opened before first = record {
  origin = record { limits = limits; run = run };
  opened = opened;
  length = first.len;
  tells = is_some before.content;
  dated = before.dated;
  moment = before.moment;
  faults = before.faults;
  synced = first.synced before.moment;
}

-- Where the disk told its content when it was handed over: each image has all entries, and each since the opening's first sync has
-- those of the opening; none is longer than the log when it was open, with a frame for each entry since then and for each marked one.
-- The opening's first sync stays the first. Before is that disk, first the one that the opening left.
pub record IsKept (opened : ℕ) (entries more : List Entry) (before first now : DiskView) : Type 0 where
  pub images : (c : List ℕ) → is_some before.content ≡ true → now.image c → HoldsEntries (length entries) entries more c
  pub since : (s : ℕ) (c : List ℕ) → is_some before.content ≡ true → first.synced before.moment ≡ Some s → now.left s c → HoldsEntries opened entries more c
  pub longest : (c : List ℕ) → is_some before.content ≡ true → now.image c
      → length c + framed_lengths (take opened entries) ≤ first.len + framed_lengths (entries ++ more)
  pub syncs : (s : ℕ) → first.synced before.moment ≡ Some s → now.synced before.moment ≡ Some s
  pub tells : is_some now.content ≡ is_some before.content
  pub dated : now.dated ≡ before.dated
  pub faults : before.faults ≤ now.faults
  pub began : before.moment ≤ first.moment
  pub later : first.moment ≤ now.moment
  pub opened_is : opened ≤ length entries

-- Of a disk that a catalogue of these entries gives back, with those of a frame that it failed to take: where it told its content
-- at the opening, each image has all entries, and each since the opening's first sync has those of the opening; none is longer than
-- the log when it was open, with a frame for each entry since then and for each of that frame. All of it is within the limits of the
-- opening, that frame included.
pub record IsLeft (o : Opening) (entries more : List Entry) (disk : DiskView) : Type 0 where
  pub images : (c : List ℕ) → o.tells ≡ true → disk.image c → HoldsEntries (length entries) entries more c
  pub since : (s : ℕ) (c : List ℕ) → o.tells ≡ true → o.synced ≡ Some s → disk.left s c → HoldsEntries o.opened entries more c
  pub longest : (c : List ℕ) → o.tells ≡ true → disk.image c → length c + framed_lengths (take o.opened entries) ≤ o.length + framed_lengths (entries ++ more)
  pub syncs : (s : ℕ) → o.synced ≡ Some s → disk.synced o.moment ≡ Some s
  pub tells : is_some disk.content ≡ o.tells
  pub dated : disk.dated ≡ o.dated
  pub faults : o.faults ≤ disk.faults
  pub opened_is : o.opened ≤ length entries
  pub within : IsWithin o.origin.limits (entries ++ more)

-- why a frame was not committed: there was no memory, or a device failed, and the frame is marked
abbrev pub IsLostBy : CommitFault → Option (List Entry) → List Entry → Type 0
IsLostBy NoMemory mark frame = mark ≡ None
IsLostBy DeviceFault mark frame = mark ≡ Some frame
IsLostBy Full mark frame = ⊥
IsLostBy Broken mark frame = ⊥

-- the limits, the run and the number of entries at the opening stay
pub record IsSameOpening (limits : Limits) (run opened : ℕ) (limits_now : Limits) (run_now opened_now : ℕ) : Type 0 where
  pub limits_stay : limits_now ≡ limits
  pub run_stays : run_now ≡ run
  pub opened_stays : opened_now ≡ opened
