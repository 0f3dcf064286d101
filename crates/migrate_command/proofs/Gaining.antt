-- A journal that gains the rest of a history.
use Rattle.std.proofs.Common.{◌≡◌, ◌⊎◌, inl, inr, ℕ, ◌+◌, ◌-◌, ◌≤◌, List, [], ◌++◌, length, take, drop, Some, is_some, refl, sym, ap, subst, ◌∙◌, arith, Bool, false, Result, Ok, Err, take-append-drop, length-drop}
use Rattle.std.specs.Prelude.{OnOk, IfErr}
use Rattle.std.proofs.lemmas.List.{take_all}
use Rattle.std.proofs.lemmas.Grind.{common_steps}
use mathlib.Core.List.{map-append}
use Rattle.std.proofs.Math.Logic.{∥∥₁_map}
use Rattle.marc_types.specs.declared.entry.Entry.{Entry}
use Rattle.outside.specs.Disk.{DiskView, OnlyContent, LeavesOnly}
use Rattle.outside.specs.Fault.{HasCause, Rose}
use Rattle.commit_journal.specs.declared.frame.Frame.{Frame}
use Rattle.commit_journal.specs.declared.version.Version.{Version}
use Rattle.commit_journal.specs.declared.version.Version.TheVariants.{Two}
use Rattle.commit_journal.specs.Versions.{number_of}
use Rattle.commit_journal.specs.Log.{frames_of, version_of, payloads_of}
use Rattle.commit_journal.specs.Journal.{and_frames, frames_from, frames_len, Continues, HasAllOrNone, IsDurableLog}
use Rattle.commit_journal.proofs.Logs.{version_two}
use Rattle.commit_journal.proofs.Steps.{continues_then}
use Rattle.entry_history.specs.Payloads.{IsHistory}
use Rattle.durable_catalogue.specs.Logs.{IsLogOf, HasHistory}
use Rattle.durable_catalogue.specs.Images.{framed_lengths}
use Rattle.durable_catalogue.proofs.Framed.{framed_append}
use Rattle.durable_catalogue.proofs.Keeping.{some_of}
use Rattle.durable_catalogue.proofs.Readings.{same_reading}
use Rattle.migrate_command.specs.declared.fault.MigrateFault.{MigrateFault}
use Rattle.migrate_command.specs.declared.fault.MigrateFault.TheVariants.{DeviceFault}
use Rattle.migrate_command.specs.Migrations.{IsAmid, Before}
use Rattle.migrate_command.specs.Fronts.{ArePayloads, AreRest, EachFollows, Brings, BringsRest, HasGained, HasBrought, HasMoreOrNot, TriesEntries, AddsEntries}
use Rattle.migrate_command.proofs.Amid.{amid_either, amid_where}
use Rattle.migrate_command.proofs.Following.{follows_within}
use Rattle.migrate_command.proofs.Payloads.{payloads_length, payloads_run, run_there, run_len, payloads_back, run_behind}

-- what follows from three facts about a success
pub on_ok_three : {T E : Type 0} {P Q S U : Type 0} (r : Result T E) → (P → Q → S → U) → OnOk r P → OnOk r Q → OnOk r S → OnOk r U
on_ok_three (Ok x) f p q s = f p q s
on_ok_three (Err e) f p q s = tt

pub on_ok_both : {T E : Type 0} {P Q U : Type 0} (r : Result T E) → (P → Q → U) → OnOk r P → OnOk r Q → OnOk r U
on_ok_both (Ok x) f p q = f p q
on_ok_both (Err e) f p q = tt

-- what follows of each fault, where only a device has one, and then its count of faults rose
pub by_device : {T : Type 0} {before now : ℕ} (P : MigrateFault → Type 0) (r : Result T MigrateFault) → HasCause before now r
    → IfErr r (λ fault. fault ≡ DeviceFault) → (Rose before now → P DeviceFault) → IfErr r P
by_device P (Ok x) cause device so = tt
by_device P (Err e) cause device so = subst P (sym device) (so cause.failed)

drop_twice : (i j : ℕ) (l : List Entry) → drop j (drop i l) ≡ drop (i + j) l
drop_twice i j l = grind (arith, common_steps)

-- nothing happens to a disk
pub continues_self : (disk : DiskView) → Continues disk disk
continues_self disk = record {
  later = omega arith;
  keeps = λ t c before left. left;
  syncs = λ t s before synced. synced;
  dated = refl;
  tells = refl;
}

-- the log of a journal of the newest version is of that
abbrev pub IsNewest : DiskView → Type 0
IsNewest disk = (log : List ℕ) → disk.content ≡ Some log → version_of log ≡ 2

pub settled_newest : (place : ℕ) (version : Version) (disk : DiskView) → IsDurableLog place (number_of version) disk → version ≡ Two → IsNewest disk
settled_newest place version disk settled two log told = version_two log (settled.header log told ∙ ap number_of two)

module _ (disk : DiskView) (only : OnlyContent disk) (last : (c : List ℕ) → disk.left disk.moment c → disk.image c) where
  pub brings_none : (may : Type 0) → (may → IsNewest disk) → (history entries : List Entry) → Brings may history entries disk disk
  brings_none may newest history entries log told has follows = record {
    since = λ t c earlier left. inl left;
    now = λ c image.
        let is : c ≡ log = only log c told image in
        ∥∥₁_map (subst (HasHistory entries) (sym is) has) (λ reading.
        Before reading (λ so. ap version_of is ∙ newest so log told) (omega (arith, ap length is)));
  }

-- entries are appended at once, each in a frame
module _ (more : List Entry) (payloads : List (List ℕ)) (are : ArePayloads more payloads) (place : ℕ) (old new : DiskView) (settled : IsDurableLog place 2 old) where
  two : (log : List ℕ) → old.content ≡ Some log → version_of log ≡ 2
  two log told = version_two log (settled.header log told)

  -- a log with these frames behind those before has these entries behind those before
  longer : (log c : List ℕ) (before : List Entry) → old.content ≡ Some log → frames_of c ≡ and_frames (frames_of log) (frames_from place payloads)
      → version_of c ≡ version_of log → EachFollows before more → IsLogOf before log → IsLogOf (before ++ more) c
  longer log c before told frames version follows is =
      let back : payloads_of (is.frames ++ frames_from place payloads) ≡ payloads_of is.frames ++ payloads =
      map-append (λ (f : Frame). f.payload) is.frames (frames_from place payloads) ∙ ap (λ ps. payloads_of is.frames ++ ps) (payloads_back payloads place) in
      let held : IsHistory 2 [] (payloads_of is.frames) before = subst (λ v. IsHistory v [] (payloads_of is.frames) before) (two log told) is.holds in
      record {
        frames = is.frames ++ frames_from place payloads;
        found = frames ∙ ap (λ found. and_frames found (frames_from place payloads)) is.found;
        holds = subst (λ v. IsHistory v [] (payloads_of (is.frames ++ frames_from place payloads)) (before ++ more)) (sym (version ∙ two log told))
            (subst (λ ps. IsHistory 2 [] ps (before ++ more)) (sym back) (run_behind more before (payloads_of is.frames) payloads are follows held));
      }

  pub tries_run : ((log : List ℕ) → old.content ≡ Some log → LeavesOnly old new (HasAllOrNone log place payloads)) → TriesEntries more old new
  tries_run leaves log before told has follows = record {
    now = λ c image. either c ((leaves log told).now c image);
    each = λ c left. either c ((leaves log told).each c left);
    since = λ t c earlier left. or_either c ((leaves log told).since t c earlier left);
  }
    where
      decided : (c : List ℕ) → version_of c ≡ version_of log
          → (frames_of c ≡ frames_of log) ⊎ (frames_of c ≡ and_frames (frames_of log) (frames_from place payloads))
          → IsLogOf before log → IsLogOf before c ⊎ IsLogOf (before ++ more) c
      decided c version (inl same) is = inl (same_reading before log c same version is)
      decided c version (inr added) is = inr (longer log c before told added version follows is)

      either : (c : List ℕ) → HasAllOrNone log place payloads c → HasMoreOrNot before more log c
      either c left = record {
        has = ∥∥₁_map has (λ reading. decided c left.version left.frames reading);
        newest = left.version ∙ two log told;
        no_longer = let len = run_len more payloads are in omega (arith, left.no_longer, len);
      }

      or_either : (c : List ℕ) {P : Type 0} → P ⊎ HasAllOrNone log place payloads c → P ⊎ HasMoreOrNot before more log c
      or_either c (inl was) = inl was
      or_either c (inr left) = inr (either c left)

  pub adds_run : (next : ℕ) → IsDurableLog next 2 new → next ≡ place + frames_len payloads
      → ((b c : List ℕ) → old.content ≡ Some b → new.content ≡ Some c → frames_of c ≡ and_frames (frames_of b) (frames_from place payloads)) → AddsEntries more old new
  adds_run next settled_now behind appended log now before told has follows is_now =
      let version : version_of now ≡ version_of log = version_two now (settled_now.header now is_now) ∙ sym (two log told) in
      let was = (settled.ends log told).end in
      let is_end = (settled_now.ends now is_now).end in
      let len = run_len more payloads are in
      record {
        has = ∥∥₁_map has (λ reading. longer log now before told (appended log now told is_now) version follows reading);
        no_longer = omega (arith, was, is_end, behind, len, framed_append before more);
      }

-- more entries
module _ (history : List Entry) (count at next : ℕ) (least : count ≤ at) (on : at ≤ next) (most : next ≤ length history) (old mid new : DiskView)
    (continues : Continues old mid) (so_far : BringsRest history count old mid) (has_so_far : HasBrought history (take count history) (take at history) old mid) where
  abbrev pub more : List Entry
  more = take (next - at) (drop at history)

  there : take next history ≡ take at history ++ more
  there = run_there history at next on

  told_mid : (log : List ℕ) → old.content ≡ Some log → (now : List ℕ) × (mid.content ≡ Some now)
  told_mid log told = some_of mid.content (continues.tells ∙ ap is_some told)

  follows_now : EachFollows [] history → EachFollows (take at history) more
  follows_now each =
      let split : history ≡ (take at history ++ more) ++ drop next history = sym (take-append-drop next history) ∙ ap (λ es. es ++ drop next history) there in
      follows_within [] (take at history) more (drop next history) (subst (λ es. EachFollows [] es) split each)

  pub brings_more : TriesEntries more mid new → BringsRest history count old new
  brings_more tries log told has each =
      let now = told_mid log told in
      let gained = has_so_far log now.0 told has each now.1 in
      let left = tries now.0 (take at history) now.1 gained.has (follows_now each) in
      let before = so_far log told has each in
      record {
        since = λ t c earlier is.
            since_left log now.0 c gained (before.since t c earlier) (left.since t c (omega (arith, earlier, continues.later)) is);
        now = λ c image. either log now.0 c gained (left.now c image);
      }
    where
      either : (log now c : List ℕ) → HasGained (take count history) (take at history) log now → HasMoreOrNot (take at history) more now c
          → ∥ IsAmid (Unit {0}) history (take count history) log c ∥₁
      either log now c gained one =
          ∥∥₁_map one.has (λ has.
          amid_either history count at next more log c least on most there one.newest (omega (arith, gained.no_longer, one.no_longer)) has)

      since_left : (log now c : List ℕ) {P Q : Type 0} → HasGained (take count history) (take at history) log now
          → (Q → P ⊎ ∥ IsAmid (Unit {0}) history (take count history) log c ∥₁) → Q ⊎ HasMoreOrNot (take at history) more now c
          → P ⊎ ∥ IsAmid (Unit {0}) history (take count history) log c ∥₁
      since_left log now c gained before (inl was) = before was
      since_left log now c gained before (inr is) = inr (either log now c gained is)

  pub has_more : AddsEntries more mid new → HasBrought history (take count history) (take next history) old new
  has_more adds log now told has each is_now =
      let before = told_mid log told in
      let gained = has_so_far log before.0 told has each before.1 in
      let added = adds before.0 now (take at history) before.1 gained.has (follows_now each) is_now in
      record {
        has = subst (λ es. HasHistory es now) (sym there) added.has;
        no_longer = omega (arith, gained.no_longer, added.no_longer, ap framed_lengths there);
      }

pub has_first : (history : List Entry) (count : ℕ) (disk : DiskView) → HasBrought history (take count history) (take count history) disk disk
has_first history count disk log now told has each is =
    let same : log ≡ now = cc (told, is) in record {
      has = subst (λ c. HasHistory (take count history) c) same has;
      no_longer = omega (arith, ap length same);
    }

-- the first so many payloads of the rest of a history are in the journal
pub record IsBringing (payloads : List (List ℕ)) (at : ℕ) (old now : DiskView) (broken : Bool) (version : Version) : Type 0 where
  pub most : at ≤ length payloads
  pub whole : broken ≡ false
  pub newest : version ≡ Two
  pub continues : Continues old now
  pub brings : (history : List Entry) (count : ℕ) → AreRest history count payloads → BringsRest history count old now
  pub has : (history : List Entry) (count : ℕ) → AreRest history count payloads → HasBrought history (take count history) (take (count + at) history) old now
  pub later : old.faults ≤ now.faults

pub bringing_first : (payloads : List (List ℕ)) (disk : DiskView) (broken : Bool) (version : Version) → OnlyContent disk
    → ((c : List ℕ) → disk.left disk.moment c → disk.image c) → IsNewest disk → broken ≡ false → version ≡ Two
    → IsBringing payloads 0 disk disk broken version
bringing_first payloads disk broken version only last two whole newest = record {
  most = omega arith;
  whole = whole;
  newest = newest;
  continues = continues_self disk;
  brings = λ history count rest. brings_none disk only last (Unit {0}) (λ free. two) history (take count history);
  has = λ history count rest.
      let none : count ≡ count + 0 = omega arith in
      subst (λ at. HasBrought history (take count history) (take at history) disk disk) none (has_first history count disk);
  later = omega arith;
}

-- the rest of a history, and a run of it
module _ (payloads : List (List ℕ)) (at next : ℕ) (on : at ≤ next) (most : next ≤ length payloads) (history : List Entry) (count : ℕ)
    (rest : AreRest history count payloads) where
  pub rest_within : count + next ≤ length history
  rest_within =
      let len = payloads_length (drop count history) payloads rest.are in
      let left = length-drop count history in
      let fits = rest.most in
      omega (arith, len, left, most, fits)

  -- the run's entries
  pub run_is : take (next - at) (drop at (drop count history)) ≡ take ((count + next) - (count + at)) (drop (count + at) history)
  run_is = let n : next - at ≡ (count + next) - (count + at) = omega arith in
      ap (λ k. take k (drop at (drop count history))) n ∙ ap (take ((count + next) - (count + at))) (drop_twice count at history)

  pub run_are : ArePayloads (take ((count + next) - (count + at)) (drop (count + at) history)) (take (next - at) (drop at payloads))
  run_are = subst (λ es. ArePayloads es (take (next - at) (drop at payloads))) run_is (payloads_run at (next - at) (drop count history) payloads rest.are)

pub brings_run : (payloads : List (List ℕ)) (at next : ℕ) (old mid new : DiskView) (broken : Bool) (version : Version) → IsBringing payloads at old mid broken version
    → at ≤ next → next ≤ length payloads
    → ((entries : List Entry) → ArePayloads entries (take (next - at) (drop at payloads)) → TriesEntries entries mid new)
    → (history : List Entry) (count : ℕ) → AreRest history count payloads → BringsRest history count old new
brings_run payloads at next old mid new broken version so_far on most tries history count rest =
    brings_more history count (count + at) (count + next) (omega arith) (omega (arith, on)) (rest_within payloads at next on most history count rest) old mid new
    so_far.continues (so_far.brings history count rest) (so_far.has history count rest)
    (tries (take ((count + next) - (count + at)) (drop (count + at) history)) (run_are payloads at next on most history count rest))

pub bringing_more : (payloads : List (List ℕ)) (at next : ℕ) (old mid new : DiskView) (broken now_broken : Bool) (version now_version : Version)
    → IsBringing payloads at old mid broken version → at ≤ next → next ≤ length payloads → Continues mid new
    → ((entries : List Entry) → ArePayloads entries (take (next - at) (drop at payloads)) → TriesEntries entries mid new)
    → ((entries : List Entry) → ArePayloads entries (take (next - at) (drop at payloads)) → AddsEntries entries mid new)
    → mid.faults ≤ new.faults → now_broken ≡ false → now_version ≡ Two → IsBringing payloads next old new now_broken now_version
bringing_more payloads at next old mid new broken now_broken version now_version so_far on most continues tries adds later whole newest = record {
  most = most;
  whole = whole;
  newest = newest;
  continues = continues_then old mid new so_far.continues continues;
  brings = brings_run payloads at next old mid new broken version so_far on most tries;
  has = λ history count rest.
      has_more history count (count + at) (count + next) (omega arith) (omega (arith, on)) (rest_within payloads at next on most history count rest) old mid new
      so_far.continues (so_far.brings history count rest) (so_far.has history count rest)
      (adds (take ((count + next) - (count + at)) (drop (count + at) history)) (run_are payloads at next on most history count rest));
  later = omega (arith, so_far.later, later);
}

-- at the end of them
pub bringing_all : (payloads : List (List ℕ)) (at : ℕ) (old now : DiskView) (broken : Bool) (version : Version) → IsBringing payloads at old now broken version
    → length payloads ≤ at → (history : List Entry) (count : ℕ) → AreRest history count payloads → HasBrought history (take count history) history old now
bringing_all payloads at old now broken version b whole history count rest =
    let len = payloads_length (drop count history) payloads rest.are in
    let left = length-drop count history in
    let all : length history ≤ count + at = omega (arith, len, left, whole) in
    subst (λ es. HasBrought history (take count history) es old now) (take_all (count + at) history all) (b.has history count rest)

-- where the journal may gain more, nothing more is asked
pub brings_where : (may : Type 0) (history entries : List Entry) (old new : DiskView) → may → Brings (Unit {0}) history entries old new → Brings may history entries old new
brings_where may history entries old new so brings log told has each =
    let extends = brings log told has each in
    record {
      since = λ t c earlier left. since_left log c (extends.since t c earlier left);
      now = λ c image. gained log c (extends.now c image);
    }
  where
    gained : (log c : List ℕ) → ∥ IsAmid (Unit {0}) history entries log c ∥₁ → ∥ IsAmid may history entries log c ∥₁
    gained log c is = ∥∥₁_map is (λ one. amid_where (Unit {0}) may history entries log log c (λ free. so) (λ may. tt) (omega arith) one)

    since_left : (log c : List ℕ) {P : Type 0} → P ⊎ ∥ IsAmid (Unit {0}) history entries log c ∥₁ → P ⊎ ∥ IsAmid may history entries log c ∥₁
    since_left log c (inl was) = inl was
    since_left log c (inr is) = inr (gained log c is)
