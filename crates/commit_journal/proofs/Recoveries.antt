-- What the recovery of a log leaves.
use Rattle.std.proofs.Common.{◌≡◌, ◌⊎◌, inl, inr, is_some, ℕ, ◌+◌, ◌<◌, ◌≤◌, true, false, List, [], ◌∷◌, ◌++◌, length, take, Some, None, Result, Ok, Err, OnOk, refl, sym, ap, subst, ◌∙◌, arith}
use Rattle.std.specs.Prelude.{nat_le}
use Rattle.std.proofs.lemmas.Bool.Decides.{nat_tests}
use Rattle.std.proofs.lemmas.List.{append-nil}
use Rattle.std.specs.Option.{option_map}
use Rattle.outside.specs.Disk.{DiskView, OnlyContent, Unchanged, NoNewImage, TornCut}
use Rattle.commit_journal.specs.declared.frame.Frame.{Frame}
use Rattle.commit_journal.specs.declared.format.TheConstants.{BLANK_LENGTH, FIRST_GATE, EMPTY_LOG, CLOSED_GATE}
use Rattle.commit_journal.specs.Log.{Walk, walk_of, frames_of, version_of, version_of_header}
use Rattle.commit_journal.specs.Journal.{EndsAt, LeavesLog, Steps, StaysShort, Keeps, IsDurableLog, IsRecovered, LeavesContent, IsFound, IsSettling, Opens, Continues, Unwritten, in_order}
use Rattle.commit_journal.specs.Reading.{IsLog, IsReadAt, IsReadFrom}
use Rattle.outside.proofs.Disks.{unchanged_only}
use Rattle.commit_journal.proofs.Logs.{Parts, parts, cut_front, frames_blank, version_blank, version_long, short_or_long, frames_self, frames_closed, cut_same, cut_ends, blank_same, leaves_found, empty_ends, empty_says}
use Rattle.commit_journal.proofs.Steps.{keeps_only, opens_further, synced_still, told_map}

-- three facts after Ok give a fourth
pub on_ok_three : {T E A B C P : Type 0} (result : Result T E) → (A → B → C → P) → OnOk result A → OnOk result B → OnOk result C → OnOk result P
on_ok_three (Ok value) gives a b c = gives a b c
on_ok_three (Err error) gives a b c = tt

-- what a log is once it is in order
order_blank : (log : List ℕ) → length log ≤ BLANK_LENGTH → in_order log ≡ EMPTY_LOG
unfolding in_order
order_blank log short = let test : nat_le (length log) BLANK_LENGTH ≡ true = grind (arith, nat_tests) in rw test refl

order_long : (log : List ℕ) → BLANK_LENGTH < length log → in_order log ≡ take ((walk_of log).place + 1) log
unfolding in_order
order_long log long = let test : nat_le (length log) BLANK_LENGTH ≡ false = grind (arith, nat_tests) in rw test refl

-- over a blank log
pub blank_recovered : (old new : DiskView) → old.len ≤ BLANK_LENGTH → ((b : List ℕ) → old.content ≡ Some b → length b ≡ old.len)
    → new.content ≡ option_map (λ _. EMPTY_LOG) old.content → new.len ≡ BLANK_LENGTH → OnlyContent new → IsRecovered [] FIRST_GATE 2 old new
blank_recovered old new short sized content len only =
    let is_empty : (log : List ℕ) → new.content ≡ Some log → log ≡ EMPTY_LOG = λ log told. (told_map (λ _. EMPTY_LOG) old.content log (sym content ∙ told)).2 in
    record {
      was = λ log told. frames_blank log (omega (arith, short, sized log told));
      named = λ log told. version_blank log (omega (arith, short, sized log told));
      is = λ log told. ap frames_of (is_empty log told) ∙ frames_blank EMPTY_LOG (omega arith);
      ordered = λ log told. content ∙ ap (option_map (λ _. EMPTY_LOG)) told ∙ ap Some (sym (order_blank log (omega (arith, short, sized log told))));
      settled = record {
        ends = λ log told. subst (EndsAt FIRST_GATE) (sym (is_empty log told)) empty_ends;
        header = λ log told. ap version_of_header (is_empty log told) ∙ empty_says;
        only = only;
        len = len;
      };
    }

pub blank_kept : (old new : DiskView) (log : List ℕ) → OnlyContent old → old.content ≡ Some log → length log ≤ BLANK_LENGTH → Steps StaysShort old new → Keeps (LeavesLog log) old new
blank_kept old new log only told short steps =
    keeps_only StaysShort (LeavesLog log) old new log only told steps (λ c stays. leaves_found log c [] (frames_blank log short) (blank_same log c short (omega (arith, short, stays))))

-- over a journal, which was read
pub journal_parts : (frames : List Frame) (place version : ℕ) (log : List ℕ) → BLANK_LENGTH < length log → IsLog frames place version log → Parts log
journal_parts frames place version log long is = parts log (omega (arith, long)) (ap (λ w. w.is_closed) is.walked)

journal_place : (frames : List Frame) (place version : ℕ) (log : List ℕ) (is : IsLog frames place version log) (p : Parts log) → length p.front ≡ place
journal_place frames place version log is p = p.at ∙ ap (λ w. w.place) is.walked

journal_frames : (frames : List Frame) (place version : ℕ) (log : List ℕ) → IsLog frames place version log → (walk_of log).frames ≡ frames
journal_frames frames place version log is = ap (λ w. w.frames) is.walked ∙ append-nil frames

read_frames : (frames : List Frame) (place version : ℕ) (log : List ℕ) → BLANK_LENGTH < length log → IsLog frames place version log → frames_of log ≡ Ok frames
read_frames frames place version log long is =
    frames_self log (journal_parts frames place version log long is) is.header ∙ ap Ok (journal_frames frames place version log is)

record CutLog (frames : List Frame) (place version : ℕ) (log : List ℕ) : Type 0 where
  frames_are : frames_of log ≡ Ok frames
  ends : EndsAt place log
  says : version_of_header log ≡ version

-- what is left once its end is cut off
cut_log : (frames : List Frame) (place version : ℕ) (log : List ℕ) → BLANK_LENGTH < length log → IsLog frames place version log → CutLog frames place version (take (place + 1) log)
cut_log frames place version log long is = record {
  frames_are = ap frames_of cut ∙ frames_closed log p [] is.header ∙ ap Ok (journal_frames frames place version log is);
  ends = subst (λ n. EndsAt n (take (n + 1) log)) at (cut_ends log p is.header (ap (λ w. w.is_closed) is.walked));
  says = ap version_of_header cut ∙ p.says (CLOSED_GATE ∷ []) ∙ is.says;
}
  where
    p : Parts log
    p = journal_parts frames place version log long is

    at : length p.front ≡ place
    at = journal_place frames place version log is p

    cut : take (place + 1) log ≡ p.front ++ CLOSED_GATE ∷ []
    cut = ap (λ n. take (n + 1) log) (sym at) ∙ cut_front log p

pub journal_recovered : (frames : List Frame) (place version : ℕ) (old new : DiskView) → ((b : List ℕ) → old.content ≡ Some b → BLANK_LENGTH < length b)
    → ((b : List ℕ) → old.content ≡ Some b → IsLog frames place version b) → new.content ≡ option_map (take (place + 1)) old.content → new.len ≡ place + 1 → OnlyContent new
    → IsRecovered frames place version old new
journal_recovered frames place version old new long is_log content len only = record {
  was = was;
  named = λ log told. version_long log (long log told) ∙ (is_log log told).says;
  is = λ log told. (cut log told).frames_are;
  ordered = λ log told. content ∙ ap (option_map (take (place + 1))) told ∙ ap Some (ordered_log log told);
  settled = record {
    ends = λ log told. (cut log told).ends;
    header = λ log told. (cut log told).says;
    only = only;
    len = len;
  };
}
  where
    was : (log : List ℕ) → old.content ≡ Some log → frames_of log ≡ Ok frames
    was log told = read_frames frames place version log (long log told) (is_log log told)

    ordered_log : (log : List ℕ) → old.content ≡ Some log → take (place + 1) log ≡ in_order log
    ordered_log log told = ap (λ (w : Walk). take (w.place + 1) log) (sym (is_log log told).walked) ∙ sym (order_long log (long log told))

    cut : (log : List ℕ) → new.content ≡ Some log → CutLog frames place version log
    cut log told =
        let from = told_map (take (place + 1)) old.content log (sym content ∙ told) in
        subst (CutLog frames place version) (sym from.2) (cut_log frames place version from.0 (long from.0 from.1) (is_log from.0 from.1))

pub journal_kept : (frames : List Frame) (place version : ℕ) (old new : DiskView) (log : List ℕ) → OnlyContent old → old.content ≡ Some log → BLANK_LENGTH < length log → IsLog frames place version log
    → Steps (TornCut (place + 1)) old new → Keeps (LeavesLog log) old new
journal_kept frames place version old new log only told long is steps =
    let p = journal_parts frames place version log long is in
    let at = journal_place frames place version log is p in
    let found = read_frames frames place version log long is in
    keeps_only (TornCut (place + 1)) (LeavesLog log) old new log only told steps
    (λ c torn. leaves_found log c frames found (cut_same log c p is.header long (subst (λ n. TornCut (n + 1) log c) (sym at) torn)))

-- over a log that was read, which is blank
pub blank_in_order : (frames : List Frame) (place version : ℕ) (old new : DiskView) → IsReadFrom frames place version old → old.len ≤ BLANK_LENGTH → ((b : List ℕ) → old.content ≡ Some b → length b ≡ old.len)
    → new.content ≡ option_map (λ _. EMPTY_LOG) old.content → new.len ≡ BLANK_LENGTH → OnlyContent new → IsRecovered frames place version old new
blank_in_order frames place version old new read short sized content len only =
    let is = read.blank short in
    rw (is.0, is.1, is.2) (blank_recovered old new short sized content len only)

-- or is a journal
pub journal_in_order : (frames : List Frame) (place version : ℕ) (old new : DiskView) → IsReadFrom frames place version old → BLANK_LENGTH < old.len → ((b : List ℕ) → old.content ≡ Some b → length b ≡ old.len)
    → new.content ≡ option_map (take (place + 1)) old.content → new.len ≡ place + 1 → OnlyContent new → IsRecovered frames place version old new
journal_in_order frames place version old new read long sized content len only =
    journal_recovered frames place version old new (λ b told. omega (arith, long, sized b told)) (λ b told. read.long long b told) content len only

-- and it ends with its closed gate, whatever its frames are
pub blank_settled : (place version : ℕ) (old new : DiskView) → IsReadAt place version old → old.len ≤ BLANK_LENGTH → ((b : List ℕ) → old.content ≡ Some b → length b ≡ old.len)
    → new.content ≡ option_map (λ _. EMPTY_LOG) old.content → new.len ≡ BLANK_LENGTH → OnlyContent new → IsDurableLog place version new
blank_settled place version old new read short sized content len only =
    let is = read.blank short in
    rw (is.0, is.1) (blank_recovered old new short sized content len only).settled

pub journal_settled : (place version : ℕ) (old new : DiskView) → IsReadAt place version old → BLANK_LENGTH < old.len → ((b : List ℕ) → old.content ≡ Some b → length b ≡ old.len)
    → new.content ≡ option_map (take (place + 1)) old.content → new.len ≡ place + 1 → OnlyContent new → IsDurableLog place version new
journal_settled place version old new read long sized content len only = record {
  ends = λ log told. let from = told_map (take (place + 1)) old.content log (sym content ∙ told) in subst (EndsAt place) (sym from.2) (cut from.0 from.1).ends;
  header = λ log told. let from = told_map (take (place + 1)) old.content log (sym content ∙ told) in ap version_of_header from.2 ∙ (cut from.0 from.1).says;
  only = only;
  len = len;
}
  where
    cut : (b : List ℕ) → old.content ≡ Some b → CutLog (walk_of b).frames place version (take (place + 1) b)
    cut b told = cut_log (walk_of b).frames place version b (omega (arith, long, sized b told)) (read.long long b told)

pub read_at : (frames : List Frame) (place version : ℕ) (disk : DiskView) → IsReadFrom frames place version disk → IsReadAt place version disk
read_at frames place version disk read = record {
  blank = λ short. let is = read.blank short in (is.1, is.2);
  long = λ long log told. let is = read.long long log told in subst (λ fs. IsLog fs place version log) (sym (journal_frames frames place version log is)) is;
  within = read.within;
}

-- what was read is what the log has
pub read_has : (frames : List Frame) (place version : ℕ) (disk : DiskView) (log : List ℕ) → IsReadFrom frames place version disk → disk.content ≡ Some log → length log ≡ disk.len
    → (frames_of log ≡ Ok frames) × (version_of log ≡ version)
read_has frames place version disk log read told len = decided (short_or_long disk.len BLANK_LENGTH)
  where
    decided : (disk.len ≤ BLANK_LENGTH) ⊎ (BLANK_LENGTH < disk.len) → (frames_of log ≡ Ok frames) × (version_of log ≡ version)
    decided (inl short) =
        let is = read.blank short in
        (frames_blank log (omega (arith, short, len)) ∙ ap Ok (sym is.0), version_blank log (omega (arith, short, len)) ∙ sym is.2)
    decided (inr long) =
        let is = read.long long log told in
        (read_frames frames place version log (omega (arith, long, len)) is, version_long log (omega (arith, long, len)) ∙ is.says)

-- and stays so over what changed nothing
pub read_still : (frames : List Frame) (place version : ℕ) (old new : DiskView) → Unchanged old new → IsReadFrom frames place version old → IsReadFrom frames place version new
read_still frames place version old new same read = record {
  blank = λ short. read.blank (omega (arith, short, same.len));
  long = λ long log told. read.long (omega (arith, long, same.len)) log (sym same.content ∙ told);
  within = λ long. (let w = read.within (omega (arith, long, same.len)) in omega (arith, w, same.len));
}

-- a sync, and a reading
pub unwritten_read : (old mid new : DiskView) → mid.content ≡ old.content → mid.len ≡ old.len → NoNewImage old mid → Unchanged mid new → Unwritten old new
unwritten_read old mid new content len none same = record {
  content = same.content ∙ content;
  len = same.len ∙ len;
  images = λ c image. none c ((same.images c).0 image);
}

pub found_read : (frames : List Frame) (place version : ℕ) (old mid new : DiskView) → Unwritten old new → OnlyContent mid → Unchanged mid new → IsReadFrom frames place version mid
    → ((b : List ℕ) → new.content ≡ Some b → length b ≡ new.len) → Opens old new → (old.dated ≡ true → is_some (new.synced old.moment) ≡ true) → old.faults ≤ new.faults → IsFound frames place version old new
found_read frames place version old mid new unwritten only same read sized opens synced later = record {
  was = λ log told. (has log told).0;
  named = λ log told. (has log told).1;
  unwritten = unwritten;
  only = unchanged_only mid new same only;
  opens = opens;
  synced = synced;
  later = later;
  read = now;
}
  where
    now : IsReadFrom frames place version new
    now = read_still frames place version mid new same read

    has : (log : List ℕ) → old.content ≡ Some log → (frames_of log ≡ Ok frames) × (version_of log ≡ version)
    has log told =
        let told_now = unwritten.content ∙ told in
        read_has frames place version new log now told_now (sized log told_now)

pub leaves_from : (old mid new : DiskView) → mid.content ≡ old.content → LeavesContent mid new → LeavesContent old new
leaves_from old mid new same leaves log now was is = leaves log now (same ∙ was) is

-- a content is one of the images
pub leaves_content : (old new : DiskView) → ((b : List ℕ) → new.content ≡ Some b → new.image b) → ((log : List ℕ) → old.content ≡ Some log → Keeps (LeavesLog log) old new) → LeavesContent old new
leaves_content old new image kept log now was is = (kept log was).now now (image now is)

-- a log that was found is brought into order
pub settling : (frames : List Frame) (place version : ℕ) (old mid new : DiskView) → IsFound frames place version old mid → ((t s : ℕ) → mid.synced t ≡ Some s → s ≤ mid.moment)
    → ((t : ℕ) → new.dated ≡ false → new.synced t ≡ None) → ((b : List ℕ) → new.content ≡ Some b → new.image b) → Continues mid new
    → ((log : List ℕ) → mid.content ≡ Some log → Keeps (LeavesLog log) mid new) → IsSettling old new
settling frames place version old mid new found by_now undated image further kept = record {
  opens = opens_further old mid new found.opens found.synced by_now undated found.unwritten.content further kept;
  content = leaves_from old mid new found.unwritten.content (leaves_content mid new image kept);
  synced = λ dated. synced_still mid new old.moment further found.opens.continues.later (found.synced dated);
}
