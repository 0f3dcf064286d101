-- Logs that hold a history: what keeps it, and what makes it longer.
use Rattle.std.proofs.Common.{◌≡◌, ◌⊎◌, inl, inr, ℕ, ◌<◌, ◌≤◌, List, [], ◌∷◌, ◌++◌, length, Ok, sym, ap, subst, ◌∙◌}
use Rattle.std.proofs.lemmas.List.{map-append}
use Rattle.marc_types.specs.declared.entry.Entry.{Entry}
use Rattle.commit_journal.specs.declared.frame.Frame.{Frame}
use Rattle.commit_journal.specs.declared.format.TheConstants.{BLANK_LENGTH}
use Rattle.commit_journal.specs.Log.{frames_of, version_of, payloads_of}
use Rattle.commit_journal.specs.Journal.{SameLog, HasFrameOrNot, and_frame}
use Rattle.commit_journal.proofs.Logs.{frames_blank, version_blank, short_or_long}
use Rattle.entry_history.specs.Payloads.{Holds, IsHistory, NoMore}
use Rattle.durable_catalogue.specs.Logs.{IsLogOf}
use Rattle.durable_catalogue.proofs.Histories.{none_more, one_behind}

-- a log of the same frames and version has the same history
pub same_reading : (entries : List Entry) (log c : List ℕ) → frames_of c ≡ frames_of log → version_of c ≡ version_of log → IsLogOf entries log → IsLogOf entries c
same_reading entries log c frames version is = record {
  frames = is.frames;
  found = frames ∙ is.found;
  holds = subst (λ v. IsHistory v [] (payloads_of is.frames) entries) (sym version) is.holds;
}

-- a log without frames is of any version
blank_reading : (entries : List Entry) (log c : List ℕ) → frames_of c ≡ Ok [] → frames_of c ≡ frames_of log → IsLogOf entries log → IsLogOf entries c
blank_reading entries log c blank frames is =
    let none : is.frames ≡ [] = cc (is.found, blank, frames) in
    let no_entry : entries ≡ [] = none_more (version_of log) (subst (λ fs. IsHistory (version_of log) [] (payloads_of fs) entries) none is.holds) in
    record {
      frames = [];
      found = blank;
      holds = subst (λ es. IsHistory (version_of c) [] [] es) (sym no_entry) (NoMore []);
    }

-- a log of the same frames is blank, or of the same version
pub like_reading : (entries : List Entry) (log c : List ℕ) → frames_of c ≡ frames_of log → (BLANK_LENGTH < length c → version_of c ≡ version_of log)
    → IsLogOf entries log → IsLogOf entries c
like_reading entries log c frames version is = decided (short_or_long (length c) BLANK_LENGTH)
  where
    decided : (length c ≤ BLANK_LENGTH) ⊎ (BLANK_LENGTH < length c) → IsLogOf entries c
    decided (inl short) = blank_reading entries log c (frames_blank c short) frames is
    decided (inr long) = same_reading entries log c frames (version long) is

pub same_log : (entries : List Entry) (log c : List ℕ) → SameLog log c → IsLogOf entries log → IsLogOf entries c
same_log entries log c same is = like_reading entries log c same.frames same.version is

-- the same log as one of version 2 is of that, since a blank one is
pub same_newest : (log c : List ℕ) → SameLog log c → version_of log ≡ 2 → version_of c ≡ 2
same_newest log c same two = decided (short_or_long (length c) BLANK_LENGTH)
  where
    decided : (length c ≤ BLANK_LENGTH) ⊎ (BLANK_LENGTH < length c) → version_of c ≡ 2
    decided (inl short) = version_blank c short
    decided (inr long) = same.version long ∙ two

-- a log with one frame more
pub longer_reading : (before more : List Entry) (log c : List ℕ) (frame : Frame) → frames_of c ≡ and_frame (frames_of log) frame → version_of c ≡ version_of log
    → Holds (version_of log) before more frame.payload → IsLogOf before log → IsLogOf (before ++ more) c
longer_reading before more log c frame frames version holds is =
    let more_payloads : payloads_of (is.frames ++ frame ∷ []) ≡ payloads_of is.frames ++ frame.payload ∷ [] = map-append (λ f. f.payload) is.frames (frame ∷ []) in
    let whole : IsHistory (version_of log) [] (payloads_of is.frames ++ frame.payload ∷ []) (before ++ more) = one_behind (version_of log) more frame.payload is.holds holds in
    record {
      frames = is.frames ++ frame ∷ [];
      found = frames ∙ ap (λ found. and_frame found frame) is.found;
      holds = subst (λ v. IsHistory v [] (payloads_of (is.frames ++ frame ∷ [])) (before ++ more)) (sym version)
          (subst (λ ps. IsHistory (version_of log) [] ps (before ++ more)) (sym more_payloads) whole);
    }

-- what an append leaves has the history before, or that and the frame's entries
pub either_reading : (before more : List Entry) (log c : List ℕ) (frame : Frame) → Holds (version_of log) before more frame.payload
    → HasFrameOrNot log frame c → IsLogOf before log → IsLogOf before c ⊎ IsLogOf (before ++ more) c
either_reading before more log c frame holds left is = decided left.frames
  where
    decided : (frames_of c ≡ frames_of log) ⊎ (frames_of c ≡ and_frame (frames_of log) frame) → IsLogOf before c ⊎ IsLogOf (before ++ more) c
    decided (inl same) = inl (same_reading before log c same left.version is)
    decided (inr added) = inr (longer_reading before more log c frame added left.version holds is)
