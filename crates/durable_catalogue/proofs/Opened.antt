-- What an opening leaves.
use Rattle.std.proofs.Common.{◌≡◌, ◌⊎◌, inl, inr, ℕ, ◌<◌, ◌≤◌, Bool, true, false, List, [], length, Some, Ok, refl, sym, ap, subst, ◌∙◌, arith}
use Rattle.std.specs.Prelude.{◌==◌, ◌≢◌, slice_index, nat_eq}
use Rattle.std.proofs.lemmas.Bool.Decides.{nat_tests}
use Rattle.std.proofs.lemmas.List.{take_all}
use Rattle.marc_types.specs.declared.entry.Entry.{Entry}
use Rattle.marc_types.specs.declared.entry.Limits.{Limits}
use Rattle.outside.specs.Disk.{DiskView}
use Rattle.outside.specs.Fault.{Rose}
use Rattle.commit_journal.specs.declared.frame.Frame.{Frame}
use Rattle.commit_journal.specs.declared.fault.JournalFault.{JournalFault}
use Rattle.commit_journal.specs.declared.fault.JournalFault.TheVariants as journal
use Rattle.commit_journal.specs.declared.format.TheConstants.{BLANK_LENGTH, VERSION_PLACE, DIGIT_1}
use Rattle.commit_journal.specs.Log.{frames_of, version_of, version_of_header, payloads_of}
use Rattle.commit_journal.specs.Journal.{IsRecovered, Opens, HasOpenCause}
use Rattle.commit_journal.proofs.Logs.{version_two, version_blank, version_long, short_or_long}
use Rattle.entry_record.specs.History.{next_run}
use Rattle.entry_history.specs.Readers.{IsVersion}
use Rattle.entry_history.specs.Payloads.{IsHistory, CanFollow}
use Rattle.durable_catalogue.specs.declared.fault.OpenFault.{OpenFault}
use Rattle.durable_catalogue.specs.declared.fault.OpenFault.TheVariants.{DeviceFault, NotAJournal, OldVersion, Full, NoMemory}
use Rattle.durable_catalogue.specs.Logs.{IsLogOf}
use Rattle.durable_catalogue.specs.Images.{Reaches, framed_lengths}
use Rattle.durable_catalogue.specs.Durables.{IsKept}
use Rattle.durable_catalogue.specs.Openings.{IsUnloaded, IsUnopened, IsOpening}
use Rattle.entry_history.specs.Frames.{IsBadFrame, NoGate, NoPayload}
use Rattle.durable_catalogue.specs.Faults.{open_fault}
use Rattle.durable_catalogue.proofs.Framed.{framed_append}
use Rattle.durable_catalogue.proofs.Histories.{runs_bounded}
use Rattle.durable_catalogue.proofs.Images.{front_reaches, whole_front}
use Rattle.durable_catalogue.proofs.Keeping.{some_of}
use Rattle.durable_catalogue.proofs.Readings.{same_log, same_newest}

pub reading : (log : List ℕ) (frames : List Frame) (version : ℕ) (entries : List Entry) → frames_of log ≡ Ok frames → version_of log ≡ version
    → IsHistory version [] (payloads_of frames) entries → IsLogOf entries log
reading log frames version entries found is holds = record {
  frames = frames;
  found = found;
  holds = subst (λ v. IsHistory v [] (payloads_of frames) entries) (sym is) holds;
}

-- the run of what is committed next
pub next_follows : (entries : List Entry) (payloads : List (List ℕ)) → IsHistory 2 [] payloads entries → CanFollow entries (next_run entries)
next_follows entries payloads holds = let bounded = runs_bounded 2 refl holds (omega arith) in record { rises = omega arith; bounded = omega (arith, bounded) }

module _ (frames : List Frame) (place : ℕ) (old new : DiskView) (entries : List Entry) (recovered : IsRecovered frames place 2 old new) (opens : Opens old new)
    (holds : IsHistory 2 [] (payloads_of frames) entries) where
  -- the log as it was
  pub was_reading : (log : List ℕ) → old.content ≡ Some log → IsLogOf entries log
  was_reading log told = reading log frames 2 entries (recovered.was log told) (recovered.named log told) holds

  now_newest : (log : List ℕ) → new.content ≡ Some log → version_of log ≡ 2
  now_newest log told = version_two log (recovered.settled.header log told)

  now_reading : (log : List ℕ) → new.content ≡ Some log → IsLogOf entries log
  now_reading log told = reading log frames 2 entries (recovered.is log told) (now_newest log told) holds

  whole : (c : List ℕ) → version_of c ≡ 2 → IsLogOf entries c → Reaches (length entries) entries [] c
  whole c newest is = front_reaches (length entries) entries [] c (whole_front (length entries) entries c (omega arith) newest is)

  pub opened_kept : old.faults ≤ new.faults → IsKept (length entries) entries [] old new new
  opened_kept later = record {
    images = λ c told image.
        let now = some_of new.content (opens.continues.tells ∙ told) in
        let is = recovered.settled.only now.0 c now.1 image in
        ∣ whole c (ap version_of is ∙ now_newest now.0 now.1) (subst (IsLogOf entries) (sym is) (now_reading now.0 now.1)) ∣₁;
    since = λ s c told synced left.
        let was = some_of old.content told in
        let same = (opens.crash s was.0 c synced was.1 left).same in
        ∣ whole c (same_newest was.0 c same (recovered.named was.0 was.1)) (same_log entries was.0 c same (was_reading was.0 was.1)) ∣₁;
    longest = λ c told image.
        let now = some_of new.content (opens.continues.tells ∙ told) in
        let is = recovered.settled.only now.0 c now.1 image in
        let end = (recovered.settled.ends now.0 now.1).end in
        let all = take_all (length entries) entries (omega arith) in
        omega (arith, recovered.settled.len, end, ap length is, ap framed_lengths all, framed_append entries []);
    syncs = λ s synced. synced;
    tells = opens.continues.tells;
    dated = opens.continues.dated;
    faults = later;
    began = opens.continues.later;
    later = omega arith;
    opened_is = omega arith;
  }

-- an opening, whatever it answers
pub opening_of : (old new : DiskView) → Opens old new → IsOpening old new
opening_of old new opens = record {
  images = opens.crash;
  unsynced = opens.unsynced;
  dated = opens.continues.dated;
  tells = opens.continues.tells;
}

-- a log's version is 1 or 2
version_one : (log : List ℕ) → version_of_header log ≢ 2 → version_of_header log ≡ 1
unfolding version_of_header
version_one log other = decided (slice_index log VERSION_PLACE == DIGIT_1) refl
  where
    decided : (b : Bool) → (slice_index log VERSION_PLACE == DIGIT_1) ≡ b → version_of_header log ≡ 1
    decided true is = rw is refl
    decided false is = absurd (other (rw is refl))

old_version : (log : List ℕ) → version_of log ≢ 2 → version_of log ≡ 1
old_version log other = decided (short_or_long (length log) BLANK_LENGTH)
  where
    decided : (length log ≤ BLANK_LENGTH) ⊎ (BLANK_LENGTH < length log) → version_of log ≡ 1
    decided (inl short) = absurd (other (version_blank log short))
    decided (inr long) = version_long log long ∙ version_one log (λ two. other (version_long log long ∙ two))

pub either_version : (log : List ℕ) → IsVersion (version_of log)
either_version log = decided (nat_eq (version_of log) 2) refl
  where
    decided : (b : Bool) → nat_eq (version_of log) 2 ≡ b → IsVersion (version_of log)
    decided true is = let two : version_of log ≡ 2 = grind (arith, nat_tests) in record { first = omega arith; last = omega arith }
    decided false is = let one : version_of log ≡ 1 = old_version log (λ two. grind (arith, nat_tests)) in record { first = omega arith; last = omega arith }

-- why a log is not opened, from its frames
pub unloaded : (frames : List Frame) (version : ℕ) (limits : Limits) (fault : OpenFault) (log : List ℕ) → frames_of log ≡ Ok frames → version_of log ≡ version
    → IsUnloaded version frames limits fault → IsUnopened limits log fault
unloaded frames version limits DeviceFault log was named why = absurd why
unloaded frames version limits (NotAJournal at) log was named why = NoPayload frames was (subst (λ v. IsBadFrame v frames at) (sym named) why)
unloaded frames version limits OldVersion log was named why = (old_version log (λ two. why.0 (sym named ∙ two)), (why.1.0, reading log frames version why.1.0 was named why.1.1))
unloaded frames version limits Full log was named why = (why.0, reading log frames version why.0 was named why.1, why.2)
unloaded frames version limits NoMemory log was named why = tt

-- why it is not opened, from the journal
pub unopened : (old new : DiskView) (limits : Limits) (fault : JournalFault) → HasOpenCause old new fault → (log : List ℕ) → old.content ≡ Some log → IsUnopened limits log (open_fault fault)
unopened old new limits journal.DeviceFault cause log told = tt
unopened old new limits (journal.NotAJournal place) cause log told = NoGate (cause.lost place log refl told)
unopened old new limits journal.NoMemory cause log told = tt

-- a journal's fault is never that the history passes the limits
pub never_full : (fault : JournalFault) → open_fault fault ≡ Full → ⊥
never_full journal.DeviceFault is = cc
never_full (journal.NotAJournal place) is = cc
never_full journal.NoMemory is = cc

-- a device fault has its cause in the journal's
pub device_fault : (old new : DiskView) (fault : JournalFault) → HasOpenCause old new fault → open_fault fault ≡ DeviceFault → Rose old.faults new.faults
device_fault old new journal.DeviceFault cause is = cause.failed refl
device_fault old new (journal.NotAJournal place) cause is = cc
device_fault old new journal.NoMemory cause is = cc
