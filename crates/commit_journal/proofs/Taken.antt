-- The walk over the frames of a log, each of which is handed on.
use Rattle.std.proofs.Common.{◌≡◌, ◌∙◌, ℕ, ◌+◌, ◌<◌, ◌≤◌, List, [], ◌∷◌, ◌++◌, length, drop, Option, Some, None, Result, Ok, Err, refl, sym, ap, subst, arith, append_assoc}
use Rattle.std.specs.Prelude.{IfOk, OnOk}
use Rattle.outside.specs.Disk.{DiskView}
use Rattle.commit_journal.specs.declared.fault.JournalFault.{JournalFault}
use Rattle.commit_journal.specs.declared.frame.Frame.{Frame}
use Rattle.commit_journal.specs.declared.version.Version.{Version}
use Rattle.commit_journal.specs.declared.format.TheConstants.{BLANK_LENGTH, FIRST_GATE, LENGTH_BYTES}
use Rattle.commit_journal.specs.Journal.{IsFound}
use Rattle.commit_journal.specs.Log.{Walk, header_fault, version_of_header, walk, walk_of, behind}
use Rattle.commit_journal.specs.Reading.{HasHeader, IsStep}
use Rattle.commit_journal.specs.Taking.{AreAllTaken, IsTakenFrom, IsFoundFrom}
use Rattle.commit_journal.specs.Versions.{number_of}

-- amid the walk: the frames that were taken lead to that place
pub record LeadTo (Has : List Frame → Type 0) (place : ℕ) (disk : DiskView) : Type 0 where
  pub frames : List Frame
  pub has : Has frames
  pub walked : (log : List ℕ) → disk.content ≡ Some log → walk_of log ≡ behind frames (walk place 0 (drop place log))

pub at_first_gate : (Has : List Frame → Type 0) (disk : DiskView) → Has [] → LeadTo Has FIRST_GATE disk
at_first_gate Has disk none = record { frames = []; has = none; walked = λ log told. refl }

-- behind frames and one more
behind_more : (frames : List Frame) (frame : Frame) (w : Walk) → behind frames (behind (frame ∷ []) w) ≡ behind (frames ++ frame ∷ []) w
behind_more frames frame w = ap (λ fs. record w { frames = fs }) (sym (append_assoc frames (frame ∷ []) w.frames))

-- a frame is passed, and taken
pub lead_on : (Has Now : List Frame → Type 0) (place next : ℕ) (payload : List ℕ) (found : Option (List ℕ)) (old now : DiskView) → LeadTo Has place old → now.content ≡ old.content
    → found ≡ Some payload → ((log : List ℕ) → now.content ≡ Some log → IsStep place log found)
    → ((before : List Frame) → Has before → Now (before ++ record { gate = place; payload = payload } ∷ [])) → next ≡ place + 1 + LENGTH_BYTES + length payload → LeadTo Now next old
lead_on Has Now place next payload found old now t same is step takes next_is = record {
  frames = t.frames ++ record { gate = place; payload = payload } ∷ [];
  has = takes t.frames t.has;
  walked = λ log told.
      let one = subst (IsStep place log) is (step log (same ∙ told)) in
      subst (λ n. walk_of log ≡ behind (t.frames ++ record { gate = place; payload = payload } ∷ []) (walk n 0 (drop n log))) (sym next_is)
      (t.walked log told ∙ ap (behind t.frames) one
      ∙ behind_more t.frames (record { gate = place; payload = payload }) (walk (place + 1 + LENGTH_BYTES + length payload) 0 (drop (place + 1 + LENGTH_BYTES + length payload) log)));
}

-- the walk is over
pub all_taken : (Has : List Frame → Type 0) (place : ℕ) (found : Option (List ℕ)) (old now : DiskView) → LeadTo Has place old → now.content ≡ old.content → found ≡ None
    → ((log : List ℕ) → now.content ≡ Some log → IsStep place log found) → place < old.len → AreAllTaken Has place old
all_taken Has place found old now t same is step within = record {
  frames = t.frames;
  has = t.has;
  walked = λ log told. t.walked log told ∙ ap (behind t.frames) (subst (IsStep place log) is (step log (same ∙ told)));
  within = within;
}

pub journal_taken : (Has : List Frame → Type 0) (place version : ℕ) (disk : DiskView) → BLANK_LENGTH < disk.len → HasHeader version disk → AreAllTaken Has place disk
    → IsTakenFrom Has place version disk
journal_taken Has place version disk long header t = record {
  frames = t.frames;
  has = t.has;
  read = record {
    blank = λ short. absurd (omega (arith, long, short));
    long = λ _ log told. record { header = header.right long log told; says = header.says long log told; walked = t.walked log told };
    within = λ _. t.within;
  };
}

-- the same of what a reading answers
pub all_headed : (Has : List Frame → Type 0) (disk : DiskView) (result : Result ℕ JournalFault) → BLANK_LENGTH < disk.len → IfOk result (λ place. AreAllTaken Has place disk)
    → IfOk result (λ place. (version : ℕ) → HasHeader version disk → IsTakenFrom Has place version disk)
all_headed Has disk (Ok place) long t = λ version header. journal_taken Has place version disk long header t
all_headed Has disk (Err fault) long t = tt

pub blank_taken : (Has : List Frame → Type 0) (version : ℕ) (disk : DiskView) → disk.len ≤ BLANK_LENGTH → HasHeader version disk → Has [] → IsTakenFrom Has FIRST_GATE version disk
blank_taken Has version disk short header none = record {
  frames = [];
  has = none;
  read = record {
    blank = λ _. (refl, refl, header.blank short);
    long = λ long. absurd (omega (arith, long, short));
    within = λ long. absurd (omega (arith, long, short));
  };
}

-- a blank log is of version 2
pub blank_header : (disk : DiskView) → disk.len ≤ BLANK_LENGTH → HasHeader 2 disk
blank_header disk short = record {
  blank = λ _. refl;
  right = λ long. absurd (omega (arith, long, short));
  says = λ long. absurd (omega (arith, long, short));
}

-- and another of that which its header names
pub read_header : (disk : DiskView) (result : Result Version JournalFault) → OnOk result ((log : List ℕ) → disk.content ≡ Some log → header_fault log ≡ None)
    → IfOk result (λ version. (log : List ℕ) → disk.content ≡ Some log → version_of_header log ≡ number_of version) → BLANK_LENGTH < disk.len
    → IfOk result (λ version. HasHeader (number_of version) disk)
read_header disk (Ok version) right says long = record {
  blank = λ short. absurd (omega (arith, long, short));
  right = λ _. right;
  says = λ _. says;
}
read_header disk (Err fault) right says long = tt

-- a taker that keeps the frames has those that were found
pub found_kept : (kept : List Frame) (place version : ℕ) (old new : DiskView) → IsFoundFrom (λ frames. kept ≡ frames) place version old new
    → IsFound kept place version old new
found_kept kept place version old new t = subst (λ frames. IsFound frames place version old new) (sym t.has) t.found
