-- Faults that one call answers as another did.
use Rattle.std.proofs.Common.{◌≡◌, ℕ, ◌≤◌, ◌∙◌, List, true, Some, is_some, Err, IsErrOf, inl, ap}
use Rattle.outside.specs.Disk.{DiskView, OnlyContent, NoNewImage}
use Rattle.outside.proofs.Counts.{rose_since}
use Rattle.outside.proofs.Disks.{unchanged_only}
use Rattle.commit_journal.specs.declared.fault.JournalFault.{JournalFault}
use Rattle.commit_journal.specs.Journal.{HasOpenCause}
use Rattle.commit_journal.specs.declared.fault.JournalFault.TheVariants.{NotAJournal}
use Rattle.commit_journal.specs.Log.{frames_of}
use Rattle.commit_journal.specs.Reading.{HasRead}
use Rattle.commit_journal.proofs.Recoveries.{unwritten_read}

pub same_fault : {T U : Type 0} (e d : JournalFault) → IsErrOf {T = T} {E = JournalFault} (Err e) d → IsErrOf {T = U} {E = JournalFault} (Err e) d
same_fault e d is = let same : e ≡ d = cc in ap Err same

-- a fault after a first sync, of the reading then
pub open_cause : {T : Type 0} (old mid new : DiskView) (fault : JournalFault) → mid.content ≡ old.content → mid.len ≡ old.len → NoNewImage old mid → OnlyContent mid
    → old.faults ≤ mid.faults → (old.dated ≡ true → is_some (new.synced old.moment) ≡ true) → HasRead {T = T} mid new (Err fault)
    → ((wrong : ℕ) → IsErrOf {T = T} {E = JournalFault} (Err fault) (NotAJournal wrong) → (log : List ℕ) → mid.content ≡ Some log → frames_of log ≡ Err wrong) → HasOpenCause old new fault
open_cause old mid new fault content len none only later synced cause lost = record {
  failed = λ is. rose_since old.faults mid.faults new.faults later (cause.failed (ap Err is));
  lost = λ wrong log is told. lost wrong (ap Err is) log (content ∙ told);
  unwritten = λ differs. unwritten_read old mid new content len none cause.unchanged;
  settled = λ differs. inl (unchanged_only mid new cause.unchanged only);
  synced = λ wrong is dated. synced dated;
}
