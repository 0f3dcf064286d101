-- What is told of a file, item by item.
use Rattle.std.proofs.Common.{suc, lt-ltb, ◌≤◌, ◌<◌, Ok, Err, ◌≡◌, ◌∙◌, ℕ, ◌+◌, Bool, true, false, ◌||◌, nat_lt, List, [], ◌∷◌, ◌++◌, length, string_bytes, refl, sym, ap, subst, arith, append_assoc, append-nil}
use Rattle.std.specs.List.{All}
use Rattle.std.proofs.lemmas.Grind.{flat_map-append}
use Rattle.std.proofs.lemmas.List.{length_push}
use Rattle.std.proofs.lemmas.List.Elements.{All-nil, All-push}
use Rattle.marc_types.specs.declared.key.Key.{Key}
use Rattle.marc_types.specs.declared.key.Class.{Class}
use Rattle.marc_types.specs.declared.key.Class.TheVariants.{Authority, Bibliographic}
use Rattle.marc_types.specs.declared.entry.Entry.{Entry}
use Rattle.file_entries.specs.Files.{IsJudged}
use Rattle.file_entries.specs.Entries.{FileView, IsSameFile, IsEnd}
use Rattle.file_entries.specs.declared.refused.RefusedItem.{RefusedItem}
use Rattle.file_entries.proofs.Judged.{answered_none, answered_entry, answered_refused, answered_all}
use Rattle.console_lines.specs.Lines.{refused_lines, refused_line}
use Rattle.split_command.specs.Console.{counted_line}
use Rattle.split_command.specs.Surveying.{takes_key, HasSampled, HasTold, HasRead, IsTakenUp, TakenAsEntry, TakenAsRefused, TakesNext, IsTold, IsReadingCause, SurveysEntries}
use Rattle.split_command.specs.declared.fault.SplitFault.{SplitFault}
use Rattle.split_command.specs.declared.fault.SplitFault.TheVariants.{Input, Output, Memory}
use Rattle.outside.proofs.Counts.{rose_since}
use Rattle.split_command.specs.declared.survey.Counts.{Counts}
use Rattle.split_command.specs.declared.survey.Survey.{Survey}

-- ---- the sample

sampled_none : (keys : List Key) → HasSampled keys keys []
sampled_none keys = record { none = λ is. (is, All-nil (λ (e : Entry). e.class ≡ Authority)) }

sampled_more : (start old new : List Key) (accepted : List Entry) (e : Entry) → HasSampled start old accepted → takes_key e.class old new → HasSampled start new (accepted ++ e ∷ [])
sampled_more start old new accepted e so_far takes = record { none = λ is. at e.class refl takes is }
  where
    at : (class : Class) → e.class ≡ class → takes_key e.class old new → new ≡ [] → (start ≡ []) × All (λ (f : Entry). f.class ≡ Authority) (accepted ++ e ∷ [])
    at Authority same here is =
        let kept : new ≡ old = subst (λ (c : Class). takes_key c old new) same here in
        let was = so_far.none (sym kept ∙ is) in
        (was.0, All-push (λ (f : Entry). f.class ≡ Authority) accepted e was.1 same)
    at Bibliographic same here is = absurd (subst (λ (c : Class). takes_key c old new) same here is)

-- ---- what is told

pub told_none : (file : List ℕ) (survey : Survey) (counts : Counts) → counts.accepted ≡ 0 → counts.refused ≡ 0 → HasTold file survey survey counts [] []
told_none file survey counts no_entry no_item = record {
  text = sym (append-nil (string_bytes survey.text));
  accepted_are = no_entry;
  refused_are = no_item;
  has = or_none survey.has_refused;
  sampled = sampled_none survey.sample.keys.items;
}
  where
    or_none : (b : Bool) → b ≡ (b || false)
    or_none true = refl
    or_none false = refl

pub told_entry : (file : List ℕ) (start before after : Survey) (counts counts_now : Counts) (accepted : List Entry) (refused : List RefusedItem) (e : Entry)
    → HasTold file start before counts accepted refused → takes_key e.class before.sample.keys.items after.sample.keys.items
    → string_bytes after.text ≡ string_bytes before.text → after.has_refused ≡ before.has_refused
    → counts_now ≡ record counts { accepted = counts.accepted + 1 } → HasTold file start after counts_now (accepted ++ e ∷ []) refused
told_entry file start before after counts counts_now accepted refused e so_far keys text has count =
    let more = length_push accepted e in
    let was = so_far.accepted_are in
    let now = ap (λ (c : Counts). c.accepted) count in record {
      text = text ∙ so_far.text;
      accepted_are = omega (arith, now, was, more);
      refused_are = ap (λ (c : Counts). c.refused) count ∙ so_far.refused_are;
      has = has ∙ so_far.has;
      sampled = sampled_more start.sample.keys.items before.sample.keys.items after.sample.keys.items accepted e so_far.sampled keys;
    }

pub told_refused : (file : List ℕ) (start before after : Survey) (counts counts_now : Counts) (accepted : List Entry) (refused : List RefusedItem) (item : RefusedItem)
    → HasTold file start before counts accepted refused → after.sample ≡ before.sample → string_bytes after.text ≡ string_bytes before.text ++ refused_line file item
    → after.has_refused ≡ true → counts_now ≡ record counts { refused = counts.refused + 1 } → HasTold file start after counts_now accepted (refused ++ item ∷ [])
told_refused file start before after counts counts_now accepted refused item so_far sample text has count =
    let more = length_push refused item in
    let was = so_far.refused_are in
    let now = ap (λ (c : Counts). c.refused) count in record {
      text = text ∙ ap (λ l. l ++ refused_line file item) so_far.text
          ∙ append_assoc (string_bytes start.text) (refused_lines file refused) (refused_line file item)
          ∙ ap (λ l. string_bytes start.text ++ l)
          (ap (λ l. refused_lines file refused ++ l) (sym (append-nil (refused_line file item))) ∙ sym (flat_map-append (refused_line file) refused (item ∷ [])));
      accepted_are = ap (λ (c : Counts). c.accepted) count ∙ so_far.accepted_are;
      refused_are = omega (arith, now, was, more);
      has = has ∙ some start.has_refused refused;
      sampled = subst (λ s. HasSampled start.sample.keys.items s accepted) (sym (ap (λ s. s.keys.items) sample)) so_far.sampled;
    }
  where
    some : (b : Bool) (items : List RefusedItem) → true ≡ (b || nat_lt 0 (length (items ++ item ∷ [])))
    some true items = refl
    some false [] = refl
    some false (first ∷ items) = sym (lt-ltb 0 (suc (length (items ++ item ∷ []))) (omega arith))

-- ---- what is read

pub read_none : (file : List ℕ) (start : FileView) (survey : Survey) (counts : Counts) → start.over ≡ false → counts.accepted ≡ 0 → counts.refused ≡ 0
    → HasRead file start start survey survey counts
read_none file start survey counts going no_entry no_item = record {
  accepted = [];
  refused = [];
  answered = answered_none start going;
  told = told_none file survey counts no_entry no_item;
  few = omega (arith, no_entry, no_item);
}

pub read_more : (file : List ℕ) (start now next : FileView) (survey before after : Survey) (counts counts_now : Counts) → HasRead file start now survey before counts
    → IsSameFile now next → IsTakenUp file now next before after counts counts_now → HasRead file start next survey after counts_now
read_more file start now next survey before after counts counts_now so_far same (TakenAsEntry e gives keys text has count) =
    let falls = gives.answers.falls in
    let few = so_far.few in
    let more = ap (λ (c : Counts). c.accepted) count in
    let kept = ap (λ (c : Counts). c.refused) count in record {
      accepted = so_far.accepted ++ e ∷ [];
      refused = so_far.refused;
      answered = answered_entry start now next so_far.accepted so_far.refused e so_far.answered same gives;
      told = told_entry file survey before after counts counts_now so_far.accepted so_far.refused e so_far.told keys text has count;
      few = omega (arith, few, falls, more, kept);
    }
read_more file start now next survey before after counts counts_now so_far same (TakenAsRefused item gives sample text has count) =
    let falls = gives.answers.falls in
    let few = so_far.few in
    let more = ap (λ (c : Counts). c.refused) count in
    let kept = ap (λ (c : Counts). c.accepted) count in record {
      accepted = so_far.accepted;
      refused = so_far.refused ++ item ∷ [];
      answered = answered_refused start now next so_far.accepted so_far.refused item so_far.answered same gives;
      told = told_refused file survey before after counts counts_now so_far.accepted so_far.refused item so_far.told sample text has count;
      few = omega (arith, few, falls, more, kept);
    }

-- all items were read, and the file's line was told
pub read_whole : (file : List ℕ) (start now end : FileView) (survey before after : Survey) (counts : Counts) → start.loader ≡ 0 → HasRead file start now survey before counts
    → IsEnd now end → string_bytes after.text ≡ string_bytes before.text ++ counted_line file counts.accepted counts.refused → after.sample ≡ before.sample
    → after.has_refused ≡ before.has_refused → start.stream.tells ≡ true → IsTold file start.library start.stream.coming survey after
read_whole file start now end survey before after counts loader read ended text sample has tells = record {
  accepted = read.accepted;
  refused = read.refused;
  judged = subst (λ n. IsJudged start.library n start.stream.coming read.accepted read.refused) loader
      (answered_all start now end read.accepted read.refused read.answered ended tells);
  text = text ∙ ap (λ l. l ++ counted_line file counts.accepted counts.refused) read.told.text
      ∙ append_assoc (string_bytes survey.text) (refused_lines file read.refused) (counted_line file counts.accepted counts.refused)
      ∙ (λ i. string_bytes survey.text ++ (refused_lines file read.refused ++ counted_line file (read.told.accepted_are i) (read.told.refused_are i)));
  has = has ∙ read.told.has;
  sampled = subst (λ s. HasSampled survey.sample.keys.items s read.accepted) (sym (ap (λ s. s.keys.items) sample)) read.told.sampled;
}

-- fewer bytes are ahead behind each item
pub taken_falls : (file : List ℕ) (now next : FileView) (before after : Survey) (counts counts_now : Counts) → IsTakenUp file now next before after counts counts_now
    → next.stream.most < now.stream.most
taken_falls file now next before after counts counts_now (TakenAsEntry e gives keys text has count) = gives.answers.falls
taken_falls file now next before after counts counts_now (TakenAsRefused item gives sample text has count) = gives.answers.falls

-- ---- how the reading ends

pub read_ended : (file : List ℕ) (start now end : FileView) (survey before mid after : Survey) (counts counts_now : Counts) → start.loader ≡ 0
    → HasRead file start now survey before counts → IsEnd now end × (mid ≡ before) × (counts_now ≡ counts)
    → string_bytes after.text ≡ string_bytes mid.text ++ counted_line file counts_now.accepted counts_now.refused → after.sample ≡ mid.sample
    → after.has_refused ≡ mid.has_refused → SurveysEntries file start end survey after (Ok tt)
read_ended file start now end survey before mid after counts counts_now loader read ended text sample has =
    let earlier = read.answered.faults in
    let later = ended.0.ends.reads.faults in record {
      read = λ tells.
          read_whole file start now end survey before after counts loader read ended.0
          (text ∙ (λ i. string_bytes (ended.1 i).text ++ counted_line file (ended.2 i).accepted (ended.2 i).refused)) (sample ∙ ap (λ (s : Survey). s.sample) ended.1)
          (has ∙ ap (λ (s : Survey). s.has_refused) ended.1) tells;
      later = omega (arith, earlier, later);
      cause = tt;
    }

-- an item could not be taken up
pub read_in_part : (file : List ℕ) (start now end : FileView) (survey before after : Survey) (counts counts_now : Counts) (why : SplitFault)
    → HasRead file start now survey before counts → now.stream.faults ≤ end.stream.faults → TakesNext file now end before after counts counts_now (Err why)
    → SurveysEntries file start end survey after (Err why)
read_in_part file start now end survey before after counts counts_now why read later takes =
    let earlier = read.answered.faults in record {
      read = tt;
      later = omega (arith, earlier, later);
      cause = at why takes;
    }
  where
    at : (w : SplitFault) → TakesNext file now end before after counts counts_now (Err w) → IsReadingCause start.stream.faults end.stream.faults w
    at Input fault = rose_since start.stream.faults now.stream.faults end.stream.faults read.answered.faults fault.fails.rose
    at Output none = absurd none
    at Memory none = tt

-- the file's line could not be told
pub read_untold : (file : List ℕ) (start now end : FileView) (survey before after : Survey) (counts : Counts) → HasRead file start now survey before counts → IsEnd now end
    → SurveysEntries file start end survey after (Err Memory)
read_untold file start now end survey before after counts read ended =
    let earlier = read.answered.faults in
    let later = ended.ends.reads.faults in record { read = tt; later = omega (arith, earlier, later); cause = tt }
