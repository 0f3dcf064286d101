-- What an opening answers of a disk.
use Rattle.std.proofs.Common.{◌≡◌, inl, ◌≤◌, ℕ, true, List, Some, is_some, refl, sym, ap, subst, arith}
use Rattle.std.specs.Prelude.{◌≢◌}
use Rattle.marc_types.specs.declared.entry.Limits.{Limits}
use Rattle.outside.specs.Disk.{DiskView}
use Rattle.outside.specs.Fault.{Rose}
use Rattle.outside.proofs.Counts.{rose_since}
use Rattle.commit_journal.specs.declared.frame.Frame.{Frame}
use Rattle.commit_journal.specs.declared.fault.JournalFault.{JournalFault}
use Rattle.commit_journal.specs.Begun.{IsUnfound}
use Rattle.commit_journal.specs.Journal.{IsFound, IsRecovered, IsSettling, Opens, HasOpenCause, LeavesContent}
use Rattle.durable_catalogue.specs.declared.fault.OpenFault.{OpenFault}
use Rattle.durable_catalogue.specs.declared.fault.OpenFault.TheVariants.{DeviceFault}
use Rattle.durable_catalogue.specs.Faults.{open_fault}
use Rattle.durable_catalogue.specs.Openings.{IsUnloaded, IsUnopened}
use Rattle.durable_catalogue.specs.Opened.{IsOpenedDisk, IsTakenLog, IsRefusedDisk}
use Rattle.durable_catalogue.proofs.Opened.{opening_of, unloaded, unopened, device_fault}
use Rattle.durable_catalogue.proofs.Refused.{leaves_history, same_leaves, recovered_order, unwritten_alone, refused_settled}

module _ (old new : DiskView) (opens : Opens old new) (leaves : LeavesContent old new) (later : old.faults ≤ new.faults) where
  module _ (frames : List Frame) (place version : ℕ) (recovered : IsRecovered frames place version old new) where
    pub opened_disk : (old.dated ≡ true → is_some (new.synced old.moment) ≡ true) → IsOpenedDisk old new
    opened_disk synced = record {
      crash = opening_of old new opens;
      content = leaves_history old new leaves;
      in_order = recovered_order old new leaves frames place version recovered;
      synced = synced;
      only = recovered.settled.only;
      later = later;
    }

  -- a log that the journal doesn't find
  pub unopened_disk : (limits : Limits) (fault : JournalFault) (why : OpenFault) → why ≡ open_fault fault → HasOpenCause old new fault → IsRefusedDisk limits old new why
  unopened_disk limits fault why is cause = subst (IsRefusedDisk limits old new) (sym is) (record {
    crash = opening_of old new opens;
    content = leaves_history old new leaves;
    left_alone = unwritten_alone old new leaves (open_fault fault ≡ DeviceFault) fault cause (λ device. device);
    settled = refused_settled old new fault cause;
    kept = λ other. cause.unwritten (λ device. other (ap open_fault device));
    so = unopened old new limits fault cause;
    later = later;
    failed = device_fault old new fault cause;
  })

-- so of one that isn't begun, or not found
pub unfound_disk : (limits : Limits) (old new : DiskView) (fault : JournalFault) (why : OpenFault) → why ≡ open_fault fault → IsUnfound old new fault → IsRefusedDisk limits old new why
unfound_disk limits old new fault why is u = unopened_disk old new u.opens (same_leaves old new u.unwritten.content) u.later limits fault why is u.cause

-- a log that was found, and whose frames are not loaded
module _ (frames : List Frame) (place version : ℕ) (old mid : DiskView) (limits : Limits) (why : OpenFault) (found : IsFound frames place version old mid)
    (unloads : IsUnloaded version frames limits why) (other : why ≢ DeviceFault) where
  reason : (log : List ℕ) → old.content ≡ Some log → IsUnopened limits log why
  reason log told = unloaded frames version limits why log (found.was log told) (found.named log told) unloads

  -- it is left as it was
  pub left_disk : IsRefusedDisk limits old mid why
  left_disk = record {
    crash = opening_of old mid found.opens;
    content = leaves_history old mid (same_leaves old mid found.unwritten.content);
    left_alone = λ log now was is. record { leaves = same_leaves old mid found.unwritten.content log now was is; bytes = λ told. (let same = found.unwritten.content in inl cc) };
    settled = λ device. inl found.only;
    kept = λ device. found.unwritten;
    so = reason;
    later = found.later;
    failed = λ device. absurd (other device);
  }

-- a log that was found, and is taken
pub taken_log : (frames : List Frame) (place version end now : ℕ) (old mid new : DiskView) → IsFound frames place version old mid → IsSettling old new → IsRecovered frames end now old new
    → mid.faults ≤ new.faults → IsTakenLog frames end now old new
taken_log frames place version end now old mid new found settling recovered later = record {
  recovered = recovered;
  settling = settling;
  opened = opened_disk old new settling.opens settling.content (let first = found.later in omega (arith, first, later)) frames end now recovered settling.synced;
}

-- a device failed as a log that was found was brought into order
pub faulted_disk : (frames : List Frame) (place version : ℕ) (old mid new : DiskView) (limits : Limits) → IsFound frames place version old mid → IsSettling old new → mid.faults ≤ new.faults
    → Rose mid.faults new.faults → IsRefusedDisk limits old new DeviceFault
faulted_disk frames place version old mid new limits found settling later rose = record {
  crash = opening_of old new settling.opens;
  content = leaves_history old new settling.content;
  left_alone = λ log now was is. record { leaves = settling.content log now was is; bytes = λ other. absurd (other refl) };
  settled = λ other. absurd (other refl);
  kept = λ other. absurd (other refl);
  so = λ log told. tt;
  later = (let first = found.later in omega (arith, first, later));
  failed = λ is. rose_since old.faults mid.faults new.faults found.later rose;
}
