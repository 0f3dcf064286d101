-- What a log that was begun stays as its frames are read.
use Rattle.std.proofs.Common.{◌≡◌, ◌∙◌, ◌⊎◌, ℕ, ◌<◌, ◌≤◌, List, length, true, Some, is_some, Err, IsErrOf, inl, inr, sym, ap, arith}
use Rattle.outside.specs.Disk.{DiskView, Unchanged}
use Rattle.outside.proofs.Counts.{rose_since}
use Rattle.outside.proofs.Disks.{same_disk, unchanged_only}
use Rattle.commit_journal.specs.declared.fault.JournalFault.{JournalFault}
use Rattle.commit_journal.specs.declared.fault.JournalFault.TheVariants.{NotAJournal}
use Rattle.commit_journal.specs.declared.frame.Frame.{Frame}
use Rattle.commit_journal.specs.Begun.{IsBegun, IsUnfound}
use Rattle.commit_journal.specs.Journal.{IsFound, Opens, Unwritten}
use Rattle.commit_journal.specs.Log.{frames_of, version_of}
use Rattle.commit_journal.specs.declared.format.TheConstants.{BLANK_LENGTH}
use Rattle.commit_journal.specs.Reading.{HasRead, HasHeader, IsReadAt, IsReadFrom}
use Rattle.commit_journal.specs.Taking.{IsTakenFrom}
use Rattle.commit_journal.proofs.Logs.{version_blank, version_long, short_or_long}
use Rattle.commit_journal.proofs.Recoveries.{found_read, read_at, read_still}
use Rattle.commit_journal.proofs.Steps.{continues_then, unchanged_continues}

module _ (old mid new : DiskView) (same : Unchanged mid new) where
  pub unwritten_still : Unwritten old mid → Unwritten old new
  unwritten_still was = record {
    content = same.content ∙ was.content;
    len = same.len ∙ was.len;
    images = λ c image. was.images c ((same.images c).0 image);
  }

  pub opens_still : Opens old mid → Opens old new
  opens_still was = record {
    continues = continues_then old mid new was.continues (unchanged_continues mid new same);
    crash = λ s log c first told left. was.crash s log c (sym (same.syncs old.moment) ∙ first) told ((same.lefts s c).0 left);
    unsynced = λ dated none. same.content ∙ was.unsynced dated (sym (same.syncs old.moment) ∙ none);
  }

  module _ (begun : IsBegun old mid) where
    pub synced_begun : old.dated ≡ true → is_some (new.synced old.moment) ≡ true
    synced_begun dated = ap is_some (same.syncs old.moment) ∙ begun.synced dated

    -- the frames were read
    pub found_begun : (frames : List Frame) (place version : ℕ) → IsReadFrom frames place version new → ((b : List ℕ) → new.content ≡ Some b → length b ≡ new.len)
        → mid.faults ≤ new.faults → IsFound frames place version old new
    found_begun frames place version read sized later =
        found_read frames place version old new new (unwritten_still begun.unwritten) (unchanged_only mid new same begun.only) (same_disk new).unchanged read sized (opens_still begun.opens)
        synced_begun (let first = begun.later in omega (arith, first, later))

    -- they weren't
    pub unfound_begun : {T : Type 0} (fault : JournalFault) → HasRead {T = T} mid new (Err fault)
        → ((wrong : ℕ) → IsErrOf {T = T} {E = JournalFault} (Err fault) (NotAJournal wrong) → (log : List ℕ) → mid.content ≡ Some log → frames_of log ≡ Err wrong) → IsUnfound old new fault
    unfound_begun fault read lost = record {
      unwritten = unwritten_still begun.unwritten;
      opens = opens_still begun.opens;
      later = (let first = begun.later in let then = read.later in omega (arith, first, then));
      cause = record {
        failed = λ is. rose_since old.faults mid.faults new.faults begun.later (read.failed (ap Err is));
        lost = λ wrong log is told. lost wrong (ap Err is) log (begun.unwritten.content ∙ told);
        unwritten = λ differs. unwritten_still begun.unwritten;
        settled = λ differs. inl (unchanged_only mid new same begun.only);
        synced = λ wrong is dated. synced_begun dated;
      };
    }

-- the frames that were taken stay the log's
pub taken_still : (Has : List Frame → Type 0) (place version : ℕ) (old new : DiskView) → Unchanged old new → IsTakenFrom Has place version old → IsTakenFrom Has place version new
taken_still Has place version old new same t = record { frames = t.frames; has = t.has; read = read_still t.frames place version old new same t.read }

-- a log whose frames were taken ends at that place
pub read_taken : (Has : List Frame → Type 0) (place version : ℕ) (old new : DiskView) → Unchanged old new → IsTakenFrom Has place version old → IsReadAt place version new
read_taken Has place version old new same t = read_at t.frames place version new (read_still t.frames place version old new same t.read)

-- and its header stays
pub header_still : (version : ℕ) (old new : DiskView) → Unchanged old new → HasHeader version old → HasHeader version new
header_still version old new same header = record {
  blank = λ short. header.blank (omega (arith, short, same.len));
  right = λ long log told. header.right (omega (arith, long, same.len)) log (sym same.content ∙ told);
  says = λ long log told. header.says (omega (arith, long, same.len)) log (sym same.content ∙ told);
}

-- and names the version of its bytes
pub header_named : (version : ℕ) (disk : DiskView) (log : List ℕ) → HasHeader version disk → disk.content ≡ Some log → length log ≡ disk.len → version_of log ≡ version
header_named version disk log header told size = decided (short_or_long disk.len BLANK_LENGTH)
  where
    decided : (disk.len ≤ BLANK_LENGTH) ⊎ (BLANK_LENGTH < disk.len) → version_of log ≡ version
    decided (inl short) = version_blank log (omega (arith, short, size)) ∙ sym (header.blank short)
    decided (inr long) = version_long log (omega (arith, long, size)) ∙ header.says long log told
