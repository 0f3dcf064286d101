-- What a migration leaves, from the opening of the journal and what was brought into it.
use Rattle.std.proofs.Common.{◌≡◌, ◌⊎◌, inl, inr, ⊎_elim, ℕ, ◌≤◌, max, true, List, [], ◌++◌, length, Some, None, Ok, is_some, refl, sym, ap, subst, ◌∙◌, arith, take, drop, Bool, false, take-append-drop}
use Rattle.std.specs.Prelude.{◌≢◌}
use Rattle.std.proofs.lemmas.Option.{none-some}
use Rattle.std.proofs.Math.Logic.{∥∥₁_map, ∥∥₁_elim, ∥∥₁_prop}
use Rattle.marc_types.specs.declared.entry.Entry.{Entry}
use Rattle.marc_types.specs.declared.entry.Limits.{Limits}
use Rattle.outside.specs.Disk.{DiskView, OnlyContent, SameDisk}
use Rattle.outside.specs.Fault.{Rose}
use Rattle.commit_journal.specs.declared.frame.Frame.{Frame}
use Rattle.commit_journal.specs.declared.fault.JournalFault.{JournalFault}
use Rattle.commit_journal.specs.declared.fault.JournalFault.TheVariants as journal
use Rattle.commit_journal.specs.declared.format.TheConstants.{BLANK_LENGTH}
use Rattle.commit_journal.specs.declared.version.Version.{Version}
use Rattle.commit_journal.specs.declared.version.Version.TheVariants.{Two}
use Rattle.commit_journal.specs.Versions.{number_of}
use Rattle.commit_journal.specs.Log.{frames_of, version_of, payloads_of}
use Rattle.commit_journal.specs.Journal.{Continues, IsFound, IsRecovered, IsSettling, IsDurableLog, EndsAt, SameLog, Opens, HasOpenCause, LeavesContent}
use Rattle.commit_journal.proofs.Logs.{version_two}
use Rattle.entry_history.specs.Payloads.{IsHistory}
use Rattle.durable_catalogue.specs.Logs.{IsLogOf, HasHistory}
use Rattle.durable_catalogue.specs.Openings.{IsOpening}
use Rattle.entry_history.specs.Frames.{IsBadFrame, NoGate, NoPayload}
use Rattle.durable_catalogue.proofs.Keeping.{some_of}
use Rattle.durable_catalogue.proofs.Opened.{reading, opening_of, either_version}
use Rattle.durable_catalogue.proofs.Readings.{same_log, same_newest}
use Rattle.durable_catalogue.proofs.Refused.{same_leaves, unwritten_alone}
use Rattle.migrate_command.specs.declared.fault.MigrateFault.{MigrateFault}
use Rattle.migrate_command.specs.declared.fault.MigrateFault.TheVariants.{DeviceFault, NotAJournal, OldVersion, Full, NotPrefix, NoMemory}
use Rattle.durable_catalogue.specs.Faults.{open_fault}
use Rattle.durable_catalogue.specs.declared.fault.OpenFault.TheVariants as opening
use Rattle.migrate_command.specs.Faults.{migrate_fault}
use Rattle.migrate_command.specs.Migrations.{IsFit, LeavesRefused, IsUnmigrated, IsBrought, IsMigration, IsAmid, Before}
use Rattle.migrate_command.specs.Fronts.{HoldsFront, HoldNoFront, HoldsBut, FindsRest, MayGain, Extends, Brings, BringsRest, HasBrought}
use Rattle.migrate_command.proofs.Amid.{amid_where}
use Rattle.migrate_command.proofs.Fronts.{front_is, may_gain}
use Rattle.migrate_command.proofs.Gaining.{brings_where}
use Rattle.migrate_command.proofs.Following.{log_follows}

-- it has what that had, where nothing was brought
pub same_before : (limits : Limits) (history entries : List Entry) (log c : List ℕ) → SameLog log c → IsLogOf entries log
    → IsAmid (IsFit limits history entries log) history entries log c
same_before limits history entries log c same is =
    Before (same_log entries log c same is) (λ fits. same_newest log c same fits.version) same.no_longer

-- a journal of the newest version to which a history was brought
pub brought_settled : (history : List Entry) (place version : ℕ) (disk : DiskView) → IsDurableLog place version disk → version ≡ 2
    → (now : List ℕ) → disk.content ≡ Some now → HasHistory history now → IsBrought history now
brought_settled history place version disk settled two now is_now has =
    let ends = settled.ends now is_now in
    record { has = has; newest = version_two now (settled.header now is_now ∙ two); ended = subst (λ p. EndsAt p now) (sym ends.gate) ends }

-- nothing was brought
pub opened_alone : (limits : Limits) (history : List Entry) (old new : DiskView) → Opens old new → LeavesContent old new → IsMigration limits history old new
opened_alone limits history old new opens leaves =
    let opening : IsOpening old new = opening_of old new opens in
    record {
      images = λ s log c entries synced told left has. ∥∥₁_map has (same_before limits history entries log c (opens.crash s log c synced told left).same);
      content = λ log c entries told is_now has. ∥∥₁_map has (same_before limits history entries log c (leaves log c told is_now).same);
      unsynced = opening.unsynced;
      dated = opening.dated;
      tells = opening.tells;
    }

-- a log that was found with a front of the history is one into which that is brought
pub fit : (limits : Limits) (history : List Entry) (payloads : List (List ℕ)) (place version : ℕ) (old mid : DiskView) → FindsRest limits history payloads place version old mid
    → (log : List ℕ) → old.content ≡ Some log → (entries : List Entry) × IsFit limits history entries log
fit limits history payloads place version old mid finds log told =
    let found = finds.found in
    let count = finds.holds.count in
    let front = finds.holds.front in (
      front.entries,
      record {
        version = found.named log told ∙ finds.newest;
        has = reading log finds.frames version front.entries (found.was log told) (found.named log told) front.holds;
        within = front.within;
        begins = (drop count history, ap (λ xs. xs ++ drop count history) front.front ∙ take-append-drop count history);
      },
    )

-- a log that was found is left as it was
pub left_found : (frames : List Frame) (place version : ℕ) (old mid : DiskView) → IsFound frames place version old mid → (fault : MigrateFault) (log : List ℕ) → old.content ≡ Some log
    → LeavesRefused fault log old mid
left_found frames place version old mid found fault log told = record {
  content = λ now is. record { leaves = same_leaves old mid found.unwritten.content log now told is; bytes = λ other. (let same = found.unwritten.content in inl cc) };
  images = λ s c synced left. found.opens.crash s log c synced told left;
}

-- a device failed as it was brought into order
pub left_faulted : (old new : DiskView) → IsSettling old new → (log : List ℕ) → old.content ≡ Some log → LeavesRefused DeviceFault log old new
left_faulted old new settling log told = record {
  content = λ now is. record { leaves = settling.content log now told is; bytes = λ other. absurd (other refl) };
  images = λ s c synced left. settling.opens.crash s log c synced told left;
}

-- what was brought behind the first entries of a history is brought behind those of the frames
module _ (limits : Limits) (history : List Entry) (count version : ℕ) (frames : List Frame) (newest : version ≡ 2) (front : HoldsFront version frames limits history count)
    (mid new : DiskView) where
  pub brings_behind : BringsRest history count mid new → (entries : List Entry) → IsHistory version [] (payloads_of frames) entries
      → Brings (MayGain version limits history entries) history entries mid new
  brings_behind brings entries held =
      brings_where (MayGain version limits history entries) history entries mid new (may_gain version frames limits history count entries newest front held)
      (subst (λ es. Brings (Unit {0}) history es mid new) (front_is version frames limits history count entries front held) brings)

  pub brought_behind : HasBrought history (take count history) history mid new → (entries : List Entry) → IsHistory version [] (payloads_of frames) entries
      → HasBrought history entries history mid new
  brought_behind brought entries held = subst (λ es. HasBrought history es history mid new) (front_is version frames limits history count entries front held) brought

module _ (history : List Entry) (frames : List Frame) (place version : ℕ) (old mid : DiskView) (recovered : IsRecovered frames place version old mid)
    (opens : Opens old mid) where
  -- the log's entries are those of the frames
  of_frames : (log : List ℕ) (entries : List Entry) → old.content ≡ Some log → IsLogOf entries log → IsHistory version [] (payloads_of frames) entries
  of_frames log entries told is =
      let same : is.frames ≡ frames = cc (is.found, recovered.was log told) in
      subst (λ v. IsHistory v [] (payloads_of frames) entries) (recovered.named log told) (subst (λ fs. IsHistory (version_of log) [] (payloads_of fs) entries) same is.holds)

  -- the disk tells the log that was brought into order, with the same history, and no longer
  told_mid : (leaves : LeavesContent old mid) (log : List ℕ) (entries : List Entry) → old.content ≡ Some log → IsLogOf entries log
      → (now : List ℕ) × (mid.content ≡ Some now) × HasHistory entries now × (length now ≤ max BLANK_LENGTH (length log))
  told_mid leaves log entries told is =
      let now = some_of mid.content (opens.continues.tells ∙ ap is_some told) in
      let same = (leaves log now.0 told now.1).same in
      (now.0, now.1, ∣ same_log entries log now.0 same is ∣₁, same.no_longer)

  module _ (leaves : LeavesContent old mid) (new : DiskView) (continues : Continues mid new) (was : List ℕ) (is_history : HasHistory history was)
      (images : (c : List ℕ) → new.content ≡ Some c → new.image c) where
    tells_now : is_some new.content ≡ is_some old.content
    tells_now = continues.tells ∙ opens.continues.tells

    -- after all was brought
    pub brought_all : (entries : List Entry) → IsHistory version [] (payloads_of frames) entries
        → ((entries : List Entry) → IsHistory version [] (payloads_of frames) entries → HasBrought history entries history mid new)
        → (at number : ℕ) → IsDurableLog at number new → number ≡ 2 → (now : List ℕ) → new.content ≡ Some now → IsBrought history now
    brought_all entries held brought at number settled newest now is_now =
        let log = some_of old.content (sym tells_now ∙ ap is_some is_now) in
        let has = reading log.0 frames version entries (recovered.was log.0 log.1) (recovered.named log.0 log.1) held in
        let ordered = told_mid leaves log.0 entries log.1 has in
        brought_settled history at number new settled newest now is_now
        (∥∥₁_elim is_history ∥∥₁_prop (λ (reads : IsLogOf history was).
        (brought entries held ordered.0 now ordered.1 ordered.2 (log_follows history was reads) is_now).has))

    pub images_all : (entries : List Entry) → IsHistory version [] (payloads_of frames) entries
        → ((entries : List Entry) → IsHistory version [] (payloads_of frames) entries → HasBrought history entries history mid new)
        → (at number : ℕ) → IsDurableLog at number new → number ≡ 2 → (c : List ℕ) → is_some old.content ≡ true → new.image c → IsBrought history c
    images_all entries held brought at number settled newest c told image =
        let now = some_of new.content (tells_now ∙ told) in
        subst (IsBrought history) (sym (settled.only now.0 c now.1 image)) (brought_all entries held brought at number settled newest now.0 now.1)

    module _ (limits : Limits)
        (brings : (entries : List Entry) → IsHistory version [] (payloads_of frames) entries
        → Brings (MayGain version limits history entries) history entries mid new) where
      extended : (log : List ℕ) (entries : List Entry) (told : old.content ≡ Some log) (is : IsLogOf entries log) → IsLogOf history was
          → Extends (MayGain version limits history entries) history entries (told_mid leaves log entries told is).0 mid new
      extended log entries told is reads =
          let ordered = told_mid leaves log entries told is in
          brings entries (of_frames log entries told is) ordered.0 ordered.1 ordered.2 (log_follows history was reads)

      -- a log that may gain more is fit for the history
      gained : (log : List ℕ) (entries : List Entry) (c : List ℕ) (told : old.content ≡ Some log) (is : IsLogOf entries log)
          → ∥ IsAmid (MayGain version limits history entries) history entries (told_mid leaves log entries told is).0 c ∥₁
          → ∥ IsAmid (IsFit limits history entries log) history entries log c ∥₁
      gained log entries c told is amid =
          let ordered = told_mid leaves log entries told is in
          ∥∥₁_map amid (λ one.
          amid_where (MayGain version limits history entries) (IsFit limits history entries log) history entries ordered.0 log c (λ may.
          record {
            version = recovered.named log told ∙ may.newest;
            has = is;
            within = may.within;
            begins = may.begins;
          }) (λ fits. record { newest = sym (recovered.named log told) ∙ fits.version; within = fits.within; begins = fits.begins }) ordered.3 one)

      module _ (bounded : (s : ℕ) → mid.synced old.moment ≡ Some s → s ≤ mid.moment) (synced : old.dated ≡ true → is_some (mid.synced old.moment) ≡ true)
          (undated : new.dated ≡ false → new.synced old.moment ≡ None) where
        dated_now : new.dated ≡ old.dated
        dated_now = continues.dated ∙ opens.continues.dated

        -- the opening's first sync stays the first
        first_sync : old.dated ≡ true → (s : ℕ) × (mid.synced old.moment ≡ Some s) × (new.synced old.moment ≡ Some s)
        first_sync dated = let s = some_of (mid.synced old.moment) (synced dated) in (s.0, s.1, continues.syncs old.moment s.0 opens.continues.later s.1)

        synced_mid : (b : Bool) → old.dated ≡ b → (s : ℕ) → new.synced old.moment ≡ Some s → mid.synced old.moment ≡ Some s
        synced_mid true is s at = let first = first_sync is in first.1 ∙ sym first.2 ∙ at
        synced_mid false is s at = absurd (none-some s (sym (undated (dated_now ∙ is)) ∙ at))

        pub migrated : IsMigration limits history old new
        migrated = record {
          images = λ s log c entries at told left has.
              let first = synced_mid old.dated refl s at in
              ∥∥₁_elim has ∥∥₁_prop (λ (is : IsLogOf entries log). ∥∥₁_elim is_history ∥∥₁_prop (λ (reads : IsLogOf history was).
              since_opened log entries c told is (λ earlier. ∣ same_before limits history entries log c (opens.crash s log c first told earlier).same is ∣₁)
              ((extended log entries told is reads).since s c (bounded s first) left)));
          content = λ log c entries told is_now has.
              ∥∥₁_elim has ∥∥₁_prop (λ (is : IsLogOf entries log). ∥∥₁_elim is_history ∥∥₁_prop (λ (reads : IsLogOf history was).
              gained log entries c told is ((extended log entries told is reads).now c (images c is_now))));
          unsynced = λ dated none. absurd (none-some (first_sync dated).0 (sym none ∙ (first_sync dated).2));
          dated = dated_now;
          tells = tells_now;
        }
          where
            since_opened : (log : List ℕ) (entries : List Entry) (c : List ℕ) {P : Type 0} (told : old.content ≡ Some log) (is : IsLogOf entries log)
                → (P → ∥ IsAmid (IsFit limits history entries log) history entries log c ∥₁)
                → P ⊎ ∥ IsAmid (MayGain version limits history entries) history entries (told_mid leaves log entries told is).0 c ∥₁
                → ∥ IsAmid (IsFit limits history entries log) history entries log c ∥₁
            since_opened log entries c told is before (inl earlier) = before earlier
            since_opened log entries c told is before (inr amid) = gained log entries c told is amid

-- why a history is not brought into a log, from the log's frames
pub unmigrated : (frames : List Frame) (version : ℕ) (limits : Limits) (history : List Entry) (fault : MigrateFault) (log : List ℕ) → frames_of log ≡ Ok frames
    → version_of log ≡ version → HoldNoFront version frames limits history fault → IsUnmigrated limits history log fault
unmigrated frames version limits history DeviceFault log was named why = tt
unmigrated frames version limits history (NotAJournal at) log was named why =
    NoPayload frames was (subst (λ v. IsBadFrame v frames at) (sym named) why)
unmigrated frames version limits history OldVersion log was named why =
    let either = either_version log in
    let other : version_of log ≢ 2 = λ two. why.0 (sym named ∙ two) in
    (omega (arith, either.first, either.last, other), (why.1.0, reading log frames version why.1.0 was named why.1.1))
unmigrated frames version limits history Full log was named why =
    (named ∙ why.0, (why.1.0, reading log frames version why.1.0 was named why.1.1, why.1.2))
unmigrated frames version limits history NotPrefix log was named why =
    (named ∙ why.0, (why.1.0, reading log frames version why.1.0 was named why.1.1, why.1.2, why.1.3))
unmigrated frames version limits history NoMemory log was named why = tt

-- and from the journal's fault
pub unopened : (old new : DiskView) (limits : Limits) (history : List Entry) (fault : JournalFault) → HasOpenCause old new fault → (log : List ℕ) → old.content ≡ Some log
    → IsUnmigrated limits history log (migrate_fault fault)
unopened old new limits history journal.DeviceFault cause log told = tt
unopened old new limits history (journal.NotAJournal place) cause log told = NoGate (cause.lost place log refl told)
unopened old new limits history journal.NoMemory cause log told = tt

pub device_fault : (old new : DiskView) (fault : JournalFault) → HasOpenCause old new fault → migrate_fault fault ≡ DeviceFault → Rose old.faults new.faults
device_fault old new journal.DeviceFault cause is = cause.failed refl
device_fault old new (journal.NotAJournal place) cause is = cc
device_fault old new journal.NoMemory cause is = cc

pub device_words : (fault : JournalFault) → open_fault fault ≡ opening.DeviceFault → migrate_fault fault ≡ DeviceFault
device_words journal.DeviceFault is = refl
device_words (journal.NotAJournal place) is = cc
device_words journal.NoMemory is = cc

-- a log that the journal did not open
pub left_unopened : (old new : DiskView) (fault : JournalFault) → Opens old new → LeavesContent old new → HasOpenCause old new fault → (log : List ℕ) → old.content ≡ Some log
    → LeavesRefused (migrate_fault fault) log old new
left_unopened old new fault opens leaves cause log told = record {
  content = λ now is. unwritten_alone old new leaves (migrate_fault fault ≡ DeviceFault) fault cause (device_words fault) log now told is;
  images = λ s c synced left. opens.crash s log c synced told left;
}

-- unless a device failed, it is in order, or as it was
pub settled_unopened : (old new : DiskView) (fault : JournalFault) → HasOpenCause old new fault → migrate_fault fault ≢ DeviceFault
    → OnlyContent new ⊎ ((migrate_fault fault ≡ NoMemory) × SameDisk old new)
settled_unopened old new fault cause other =
    ⊎_elim (λ only. inl only) (λ same. inr (ap migrate_fault same.0, same.1)) (cause.settled (λ device. other (ap migrate_fault device)))

-- a log that was found, whose frames and version were handed on
module _ (named version : Version) (handed frames : List Frame) (limits : Limits) (history : List Entry) (name : named ≡ version) (hands : handed ≡ frames) where
  pub finds_of : (payloads : List (List ℕ)) (place : ℕ) (old mid : DiskView) → IsFound frames place (number_of version) old mid → named ≡ Two
      → HoldsBut (number_of named) handed limits history payloads → FindsRest limits history payloads place (number_of version) old mid
  finds_of payloads place old mid found newest holds = record {
    frames = frames;
    found = found;
    newest = ap number_of (sym name ∙ newest);
    holds = subst (λ v. HoldsBut (number_of v) frames limits history payloads) name
        (subst (λ fs. HoldsBut (number_of named) fs limits history payloads) hands holds);
  }

  pub no_front_of : (fault : MigrateFault) → HoldNoFront (number_of named) handed limits history fault → HoldNoFront (number_of version) frames limits history fault
  no_front_of fault none =
      subst (λ v. HoldNoFront (number_of v) frames limits history fault) name (subst (λ fs. HoldNoFront (number_of named) fs limits history fault) hands none)
