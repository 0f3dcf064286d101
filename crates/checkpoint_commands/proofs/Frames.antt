-- What the frames of a log of checkpoints say of it.
use Rattle.std.proofs.Common.{◌≡◌, ◌∙◌, inl, inr, ⊎_elim, ℕ, ◌≤◌, List, Option, Some, Result, Ok, Err, OnOk, refl, sym, ap, subst, arith}
use Rattle.std.specs.Prelude.{◌≢◌, IfOk, IfErr, IsErrOf}
use Rattle.outside.specs.Disk.{DiskView}
use Rattle.outside.specs.Fault.{Rose}
use Rattle.commit_journal.specs.declared.frame.Frame.{Frame}
use Rattle.commit_journal.specs.declared.fault.JournalFault.{JournalFault}
use Rattle.commit_journal.specs.declared.fault.JournalFault.TheVariants as journal
use Rattle.commit_journal.specs.declared.version.Version.{Version}
use Rattle.commit_journal.specs.declared.version.Version.TheVariants.{Two}
use Rattle.commit_journal.specs.Log.{version_of}
use Rattle.commit_journal.specs.Journal.{IsFound, HasOpenCause, Opens, Unwritten}
use Rattle.commit_journal.specs.Versions.{number_of}
use Rattle.durable_catalogue.specs.Faults.{open_fault}
use Rattle.durable_catalogue.specs.declared.fault.OpenFault.{OpenFault}
use Rattle.durable_catalogue.specs.declared.fault.OpenFault.TheVariants.{DeviceFault, NotAJournal, OldVersion, Full, NoMemory}
use Rattle.durable_catalogue.proofs.Opened.{either_version}
use Rattle.checkpoint.specs.Points.{IsPointOf}
use Rattle.checkpoint.specs.declared.point.Point.{Point}
use Rattle.checkpoint_commands.specs.PointLogs.{IsPointLog, NoGate, NoPart, IsUntaken, AreUntaken, IsOnlyRead}

-- frames are refused for what they are, and not for a device
pub never_device : (version : ℕ) (frames : List Frame) (why : OpenFault) → AreUntaken version frames why → why ≡ DeviceFault → ⊥
never_device version frames why none is = subst (AreUntaken version frames) is none

pub untaken_device : {T : Type 0} (result : Result T OpenFault) (version : ℕ) (frames : List Frame) → IfErr result (AreUntaken version frames) → IsErrOf result DeviceFault → ⊥
untaken_device (Ok value) version frames none is = cc
untaken_device (Err why) version frames none is = let same : why ≡ DeviceFault = cc in never_device version frames why none same

-- a log of these frames was found on a disk
module _ (frames : List Frame) (place : ℕ) (version named : Version) (old mid : DiskView) (found : IsFound frames place (number_of version) old mid)
    (name : named ≡ version) where
  version_is : (log : List ℕ) → old.content ≡ Some log → version_of log ≡ number_of named
  version_is log told = found.named log told ∙ ap number_of (sym name)

  pub point_log : (last : Option Point) → IsPointOf frames last → named ≡ Two → (log : List ℕ) → old.content ≡ Some log → IsPointLog last log
  point_log last is newest log told = record {
    has = record { frames = frames; frames_are = found.was log told; is = is };
    newest = version_is log told ∙ ap number_of newest;
  }

  pub last_read : (result : Result (Option Point) OpenFault) → IfOk result (IsPointOf frames) → OnOk result (named ≡ Two)
      → IfOk result (λ last. (log : List ℕ) → old.content ≡ Some log → IsPointLog last log)
  last_read (Ok last) is newest = λ log told. point_log last is newest log told
  last_read (Err why) is newest = tt

  pub untaken_log : (why : OpenFault) → AreUntaken (number_of named) frames why → (log : List ℕ) → old.content ≡ Some log → IsUntaken log why
  untaken_log DeviceFault none log told = tt
  untaken_log (NotAJournal at) none log told = NoPart frames (found.was log told) none
  untaken_log OldVersion none log told =
      let either = either_version log in
      let other : version_of log ≢ 2 = λ two. none.0 (sym (version_is log told) ∙ two) in
      (omega (arith, either.first, either.last, other), (none.1.0, record { frames = frames; frames_are = found.was log told; is = none.1.1 }))
  untaken_log Full none log told = none
  untaken_log NoMemory none log told = tt

  pub last_unread : (result : Result (Option Point) OpenFault) → IfErr result (AreUntaken (number_of named) frames)
      → IfErr result (λ why. (log : List ℕ) → old.content ≡ Some log → IsUntaken log why)
  last_unread (Ok last) none = tt
  last_unread (Err why) none = λ log told. untaken_log why none log told

  pub found_only : (failed : Type 0) → IsOnlyRead failed old mid
  found_only failed = record { unwritten = found.unwritten; opens = found.opens; settled = λ other. inl found.only; later = found.later }

-- no log was found
module _ (old new : DiskView) (fault : JournalFault) (cause : HasOpenCause old new fault) where
  pub unfound : (log : List ℕ) → old.content ≡ Some log → IsUntaken log (open_fault fault)
  unfound = of fault cause
    where
      of : (f : JournalFault) → HasOpenCause old new f → (log : List ℕ) → old.content ≡ Some log → IsUntaken log (open_fault f)
      of journal.DeviceFault cause log told = tt
      of (journal.NotAJournal place) cause log told = NoGate (cause.lost place log refl told)
      of journal.NoMemory cause log told = tt

  pub unfound_device : open_fault fault ≡ DeviceFault → Rose old.faults new.faults
  unfound_device is = cause.failed (of fault is)
    where
      of : (f : JournalFault) → open_fault f ≡ DeviceFault → f ≡ journal.DeviceFault
      of journal.DeviceFault is = refl
      of (journal.NotAJournal place) is = cc
      of journal.NoMemory is = cc

  pub unfound_only : (failed : Type 0) → (open_fault fault ≡ DeviceFault → failed) → Opens old new → Unwritten old new → old.faults ≤ new.faults → IsOnlyRead failed old new
  unfound_only failed device opens unwritten later = record {
    unwritten = unwritten;
    opens = opens;
    settled = λ other. ⊎_elim (λ only. inl only) (λ same. inr same.1) (cause.settled (λ is. other (device (ap open_fault is))));
    later = later;
  }
