-- What is left of a log behind which a checkpoint is put.
use Rattle.std.proofs.Common.{◌≡◌, ◌∙◌, ◌⊎◌, inl, inr, ⊎_elim, ℕ, ◌≤◌, Bool, true, false, List, length, Option, Some, None, is_some, Ok, Err, refl, sym, ap, subst}
use Rattle.marc_types.specs.declared.entry.Entry.{Entry}
use Rattle.outside.specs.Disk.{DiskView, LeavesOnly}
use Rattle.outside.specs.Fault.{Rose}
use Rattle.commit_journal.specs.declared.frame.Frame.{Frame}
use Rattle.commit_journal.specs.Log.{frames_of}
use Rattle.commit_journal.specs.Journal.{IsRecovered, IsSettling, IsDurableLog, EndsAt, Continues, LeavesContent, LeavesLog, Opens, Unwritten, and_frames, in_order}
use Rattle.commit_journal.proofs.Logs.{version_two, leaves_self}
use Rattle.catalogue_rules.specs.Settle.{state_of}
use Rattle.durable_catalogue.specs.declared.fault.OpenFault.{OpenFault}
use Rattle.durable_catalogue.specs.declared.fault.OpenFault.TheVariants.{DeviceFault, NoMemory}
use Rattle.durable_catalogue.proofs.Keeping.{some_of}
use Rattle.checkpoint.specs.declared.point.Point.{Point}
use Rattle.restoring.specs.Writing.{HasPoint, HasPointOrNot}
use Rattle.checkpoint_commands.specs.PointLogs.{IsPointLog, IsUntaken, IsOnlyRead, IsLeftAlone}
use Rattle.checkpoint_commands.specs.Adding.{HasPointOrNone, HasNewPoint, IsAdding, IsAdded, IsNotAdded}

-- the same log has nothing new
left_none : (history : List Entry) (log image : List ℕ) → LeavesLog log image → HasPointOrNone history log image
left_none history log image l = record { frames = inl l.same.frames; version = l.same.version; lost = l.lost }

-- an opening adds nothing
pub adding_opens : (history : List Entry) (old new : DiskView) → Opens old new → LeavesContent old new → IsAdding history old new
adding_opens history old new opens leaves = record {
  images = λ s log c synced told left. left_none history log c (opens.crash s log c synced told left);
  content = λ log c told is. left_none history log c (leaves log c told is);
  unsynced = opens.unsynced;
  dated = opens.continues.dated;
  tells = opens.continues.tells;
}

same_content : (old new : DiskView) → Unwritten old new → LeavesContent old new
same_content old new unwritten log now told is =
    let same : now ≡ log = cc (unwritten.content, told, is) in
    subst (LeavesLog log) (sym same) (leaves_self log)

-- and so does a reading
pub adding_nothing : (history : List Entry) (old new : DiskView) → Opens old new → Unwritten old new → IsAdding history old new
adding_nothing history old new opens unwritten = adding_opens history old new opens (same_content old new unwritten)

-- a log that is only read is left alone
pub read_alone : (failed : Type 0) (old new : DiskView) → IsOnlyRead failed old new → (failed → ⊥) → IsLeftAlone old new
read_alone failed old new read other = record {
  content = λ log now told is.
      let same : now ≡ log = cc (read.unwritten.content, told, is) in
      record { leaves = same_content old new read.unwritten log now told is; bytes = λ none. inl same };
  opens = read.opens;
  settled = read.settled other;
}

-- and so is one that is put in order
pub ordered_alone : (frames : List Frame) (place version : ℕ) (old new : DiskView) → IsRecovered frames place version old new → IsSettling old new → IsLeftAlone old new
ordered_alone frames place version old new recovered settling = record {
  content = λ log now told is.
      let both = recovered.ordered log told in
      let same : now ≡ in_order log = cc (both, is) in
      record { leaves = settling.content log now told is; bytes = λ none. inr same };
  opens = settling.opens;
  settled = inl recovered.settled.only;
}

-- what is behind a log of the same frames
same_point : (history : List Entry) (log other image : List ℕ) → frames_of other ≡ frames_of log
    → HasPoint (length history) (state_of history) other image → HasPoint (length history) (state_of history) log image
same_point history log other image same p = record {
  more = p.more;
  parts = p.parts;
  are = p.are;
  snapshot = p.snapshot;
  frames = p.frames ∙ ap (λ f. and_frames f p.more) same;
}

-- what the trait says of the disks' moments and images
pub record AreTimed (settled new : DiskView) : Type 0 where
  pub by_now : (t s : ℕ) → settled.synced t ≡ Some s → s ≤ settled.moment
  pub undated : (t : ℕ) → new.dated ≡ false → new.synced t ≡ None
  pub is_image : (b : List ℕ) → new.content ≡ Some b → new.image b

-- a log that was found was settled, and a checkpoint was put behind it, or was tried to be
module _ (history : List Entry) (frames : List Frame) (place version : ℕ) (before settled new : DiskView) (recovered : IsRecovered frames place version before settled)
    (settling : IsSettling before settled) (continues : Continues settled new)
    (crash : (log : List ℕ) → settled.content ≡ Some log → LeavesOnly settled new (HasPointOrNot (length history) (state_of history) log))
    (timed : AreTimed settled new) (newest : version ≡ 2) (last : Option Point) (is_point : (log : List ℕ) → before.content ≡ Some log → IsPointLog last log) where
  same_frames : (log : List ℕ) → before.content ≡ Some log → frames_of (in_order log) ≡ frames_of log
  same_frames log told = recovered.is (in_order log) (recovered.ordered log told) ∙ sym (recovered.was log told)

  either : (log c : List ℕ) → before.content ≡ Some log → HasPointOrNot (length history) (state_of history) (in_order log) c → HasPointOrNone history log c
  either log c told has =
      let same = same_frames log told in
      let now = recovered.ordered log told in
      record {
        frames = ⊎_elim (λ f. inl (f ∙ same)) (λ p. inr ((last, is_point log told), same_point history log (in_order log) c same p)) has.frames;
        version = λ long.
            has.version ∙ version_two (in_order log) (recovered.settled.header (in_order log) now ∙ newest) ∙ sym (recovered.named log told ∙ newest);
        lost = λ place none. let both : Ok frames ≡ Err place = sym (recovered.was log told) ∙ none in cc;
      }

  -- the first sync was one of the settling
  first_sync : (s : ℕ) → new.synced before.moment ≡ Some s → settled.synced before.moment ≡ Some s
  first_sync s synced = decided before.dated refl
    where
      decided : (b : Bool) → before.dated ≡ b → settled.synced before.moment ≡ Some s
      decided true dated =
          let first = some_of (settled.synced before.moment) (settling.synced dated) in
          let still = continues.syncs before.moment first.0 settling.opens.continues.later first.1 in
          let same : first.0 ≡ s = cc (still, synced) in
          first.1 ∙ ap (λ n. Some n) same
      decided false undated =
          let none = timed.undated before.moment (continues.dated ∙ settling.opens.continues.dated ∙ undated) in
          absurd (cc (none, synced))

  pub adding_written : IsAdding history before new
  adding_written = record {
    images = λ s log c synced told left.
        let then = first_sync s synced in
        ⊎_elim (λ was. left_none history log c (settling.opens.crash s log c then told was)) (λ has. either log c told has)
        ((crash (in_order log) (recovered.ordered log told)).since s c (timed.by_now before.moment s then) left);
    content = λ log c told is. either log c told ((crash (in_order log) (recovered.ordered log told)).now c (timed.is_image c is));
    unsynced = λ dated none.
        let first = some_of (settled.synced before.moment) (settling.synced dated) in
        let still = continues.syncs before.moment first.0 settling.opens.continues.later first.1 in
        absurd (cc (none, still));
    dated = continues.dated ∙ settling.opens.continues.dated;
    tells = continues.tells ∙ settling.opens.continues.tells;
  }

  -- it is there
  module _ (gate : ℕ) (ends : IsDurableLog gate 2 new)
      (appended : (b c : List ℕ) → settled.content ≡ Some b → new.content ≡ Some c → HasPoint (length history) (state_of history) b c) where
    new_content : (log c : List ℕ) → before.content ≡ Some log → new.content ≡ Some c → HasNewPoint history log c
    new_content log c told is = record {
      point = same_point history log (in_order log) c (same_frames log told) (appended (in_order log) c (recovered.ordered log told) is);
      newest = version_two c (ends.header c is);
      ended = let e = ends.ends c is in subst (λ p. EndsAt p c) (sym e.gate) e;
    }

    pub added_written : IsAdded history before new
    added_written = record {
      was = λ log told. (last, is_point log told);
      images = λ log c told image.
          let now = some_of new.content (continues.tells ∙ settling.opens.continues.tells ∙ ap is_some told) in
          subst (HasNewPoint history log) (sym (ends.only now.0 c now.1 image)) (new_content log now.0 told now.1);
      content = new_content;
    }

-- a checkpoint that isn't put there since a device failed, or since there is no memory for it
pub not_added_device : (old new : DiskView) → Rose old.faults new.faults → IsNotAdded old new DeviceFault
not_added_device old new rose = record { so = λ log told. tt; kept = λ other. absurd (other refl); alone = λ other. absurd (other refl); cause = λ device. rose }

pub not_added_memory : (old new : DiskView) → IsLeftAlone old new → IsNotAdded old new NoMemory
not_added_memory old new alone = record { so = λ log told. tt; kept = λ device other. absurd (other refl); alone = λ other. alone; cause = λ device. cc }

-- or since the log isn't taken
pub not_added_untaken : (old new : DiskView) (why : OpenFault) → ((log : List ℕ) → old.content ≡ Some log → IsUntaken log why) → IsOnlyRead (why ≡ DeviceFault) old new
    → (why ≡ DeviceFault → Rose old.faults new.faults) → IsNotAdded old new why
not_added_untaken old new why so read cause = record {
  so = so;
  kept = λ device memory. read.unwritten;
  alone = λ other. read_alone (why ≡ DeviceFault) old new read other;
  cause = cause;
}
