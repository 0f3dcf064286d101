-- What loading did of one file, as it is seen from the end of the one history.
use Rattle.std.proofs.Common.{◌≡◌, ◌≢◌, ◌∙◌, ℕ, ◌+◌, ◌||◌, true, false, List, [], ◌++◌, length, Option, Some, None, append_assoc, append-nil, sym, ap, subst, arith}
use Rattle.std.specs.Prelude.{is_some}
use Rattle.std.specs.List.{AllByRecursion}
use Rattle.std.proofs.lemmas.List.{append_cancel_left}
use Rattle.std.proofs.lemmas.List.Folds.{list_any-append}
use mathlib.Core.List.{IsPrefix}
use Rattle.marc_types.specs.declared.entry.Entry.{Entry}
use Rattle.marc_types.specs.declared.entry.Limits.{Limits}
use Rattle.marc_stream.specs.Pieces.{items as file_items}
use Rattle.marc_stream.specs.Stream.{told}
use Rattle.entry_record.specs.History.{brought_by, with_run, next_run}
use Rattle.entry_history.specs.Commits.{Origin}
use Rattle.entry_history.specs.Events.{entries_of, is_broken, is_mark, committed}
use Rattle.entry_history.specs.declared.event.Event.{Event}
use Rattle.catalogue_lock.specs.declared.view.Numbered.{Numbered}
use Rattle.catalogue_lock.specs.History.{items, items_by}
use Rattle.catalogue_lock.specs.Passes.{Lock, Pass, new_pass}
use Rattle.catalogue_lock.proofs.Numbers.{items_by-append, items-append, items-numbered}
use Rattle.durable_catalogue.specs.Durables.{events}
use Rattle.file_entries.specs.Files.{IsJudged}
use Rattle.marc_types.specs.Sums.{sums_of}
use Rattle.marc_types.specs.declared.sums.Sums.{Sums}
use Rattle.loader_workers.specs.Counts.{no_counts, counts_in}
use Rattle.loader_workers.specs.Turns.{IsEndOf, HasCommitted, IsSamePass, receipts_by}
use Rattle.loader_workers.specs.Loading.{CountsFaults, IsCutShort, IsReadTo, LoadsOneFile, unread}
use Rattle.loader_workers.specs.declared.counts.Counts.{Counts}
use Rattle.loader_workers.specs.declared.file_end.FileEnd.TheVariants.{ReadFault, DeviceFault}
use Rattle.loader_workers.specs.declared.result.FileResult.{FileResult}
use Rattle.loader_workers.proofs.Receipts.{receipts_by_append, receipts_by_others, entries_append}
use Rattle.loader_workers.specs.declared.input.InputFile.{InputFile}
use Rattle.loader_workers.specs.Files.{IsFileLoaded, LoadsFile}
use Rattle.loader_workers.proofs.Owned.{IsBy}
use Rattle.loader_workers.proofs.Loaders.{frames_of, brought, framed}
use Rattle.loader_workers.proofs.LoaderReceipts.{by_loader}
use Rattle.loader_workers.proofs.Marks.{entries_in, entries_behind, frames_behind, broken_behind}
use Rattle.loader_workers.proofs.OneHistory.{brought as brought_in, IsOneHistory, IsFair}
use Rattle.loader_workers.proofs.Ended.{HasLeft, has_left, judged_front, judged_rest, committed_by, end_of_file}

-- what a catalogue commits that has these limits and begins with these entries
abbrev pub origin_of : Limits → List Entry → Origin
origin_of limits before = record { limits = limits; run = next_run before }

-- the passes of a lock round such a catalogue
abbrev pub start_of : {O : Type 0} → Lock O → List Entry → ℕ → Pass O Event
start_of lock before number = new_pass lock.id (Some lock.opened) (brought_in before) number

-- what became of a file that was loaded with a pass of such a lock
pub record Did {O S : Type 0} (limits : Limits) (lock : Lock O) (before : List Entry) (left : S → Option (List ℕ)) (bound faults : S → ℕ)
    (loader : ℕ) (old : InputFile S) (pass : Pass O Event) (new : InputFile S) (result : FileResult) : Type 0 where
  pub loads : LoadsOneFile (origin_of limits before) (unread (left old.source) (bound old.source) (faults old.source) old.code loader) (left new.source)
      (start_of lock before loader) pass result
  pub same : IsSamePass (start_of lock before loader) pass
  pub code : new.code ≡ old.code
  pub faults_are : CountsFaults (faults old.source) (faults new.source) result.end

-- the pass's items and its sums in the later part of the history
pub record IsInHistory (loader run : ℕ) (before front : List Entry) (marks : List Event) (later : List (Numbered Event)) (sums : Sums) : Type 0 where
  pub own : items_by (Some loader) later ≡ committed (with_run run front) ++ marks
  pub sums_are : sums ≡ sums_of (receipts_by loader before later)

module _ {O : Type 0} (callers : ℕ) (limits : Limits) (lock : Lock O) (before after : List Entry) (mark : Option (List Entry))
    (history later : List (Numbered Event)) (h : IsOneHistory callers before after mark history later) where
  in_history : (loader : ℕ) (pass : Pass O Event) (front : List Entry) (marks : List Event) (counts : Counts)
      → HasCommitted (origin_of limits before) front marks no_counts counts (start_of lock before loader) pass
      → IsPrefix pass.seen history → items_by (Some loader) history ≡ pass.added → IsInHistory loader (next_run before) before front marks later counts.sums
  in_history loader pass front marks counts c begins is =
      let others = begins.0 in
      let mine = committed (with_run (next_run before) front) ++ marks in
      let by : List (Numbered Event) → List Event = items_by (Some loader) in
      let own : by later ≡ mine = sym (h.own loader) ∙ (is ∙ c.added) in
      let joined : c.later ++ others ≡ later =
      append_cancel_left (brought_in before) (c.later ++ others) later
      (sym (append_assoc (brought_in before) c.later others) ∙ (ap (λ l. l ++ others) (sym c.seen) ∙ (begins.1 ∙ h.split))) in
      let none : by others ≡ [] =
      append_cancel_left mine (by others) []
      (ap (λ l. l ++ by others) (sym c.own) ∙ (sym (items_by-append (Some loader) c.later others) ∙ (ap by joined ∙ (own ∙ sym (append-nil mine))))) in
      let all : receipts_by loader before later ≡ receipts_by loader before c.later =
      ap (receipts_by loader before) (sym joined)
      ∙ (receipts_by_append loader before c.later others
      ∙ (ap (λ rs. receipts_by loader before c.later ++ rs) (receipts_by_others loader (before ++ entries_of (items c.later)) others none)
      ∙ append-nil (receipts_by loader before c.later))) in
      let begun : entries_of (items (brought_in before)) ≡ before = ap entries_of (items-numbered None (events before None)) ∙ entries_in before None in
      record {
        own = own;
        sums_are = c.sums ∙ ap sums_of (ap (λ b. receipts_by loader b c.later) begun ∙ sym all);
      }

  -- the entries of the whole history, of which the pass has seen a front
  seen_and_others : (seen others : List (Numbered Event)) → seen ++ others ≡ history → before ++ entries_of (items later) ≡ entries_of (items seen) ++ entries_of (items others)
  seen_and_others seen others split =
      sym h.after_is ∙ (sym h.entries ∙ (ap (λ l. entries_of (items l)) (sym split)
      ∙ (ap entries_of (items-append seen others) ∙ entries_append (items seen) (items others))))

  broken_seen : (seen others : List (Numbered Event)) → seen ++ others ≡ history → is_broken (items seen) ≡ true → is_some mark ≡ true
  broken_seen seen others split broken =
      sym h.broken ∙ (ap (λ l. is_broken (items l)) (sym split) ∙ (ap is_broken (items-append seen others)
      ∙ (list_any-append is_mark (items seen) (items others) ∙ ap (λ b. b || is_broken (items others)) broken)))

  module _ {S : Type 0} (left : S → Option (List ℕ)) (bound faults : S → ℕ) (loader : ℕ) (old : InputFile S) (pass : Pass O Event) (new : InputFile S) (result : FileResult)
      (d : Did limits lock before left bound faults loader old pass new result) (begins : IsPrefix pass.seen history) (own : items_by (Some pass.number) history ≡ pass.added) where
    file_loaded : (bytes : List ℕ) → left old.source ≡ Some bytes
        → IsFileLoaded limits before (entries_of (items later)) mark old.code bytes loader result
    file_loaded bytes given =
        let l = d.loads in
        let tells = ap (λ (o : Option (List ℕ)). is_some o) given in
        let mine = own_mine in
        let facts = in_history loader pass l.front l.marks (counts_in result) l.committed_is begins mine in
        let rest = has_left loader (origin_of limits before) result.end l.rest l.marks (items pass.seen) (judged_rest loader old.code l.done l.front l.rest result.refused l.judged) l.ends in
        let run = next_run before in
        record {
          done = l.done;
          coming = l.coming;
          front = l.front;
          next = rest.next;
          more = rest.more;
          split = sym (ap (λ bs. file_items (told bs)) given) ∙ l.split tells;
          judged = subst (λ es. IsJudged old.code loader l.done es result.refused)
              (ap (λ es. l.front ++ es) rest.rest_is ∙ sym (append_assoc l.front rest.next rest.more)) l.judged;
          committed_are = brought callers loader later h.owned_is ∙ (ap entries_of facts.own ∙ entries_behind (with_run run l.front) l.marks rest.entries);
          marked_are = ap (brought_by loader) (sym h.frames) ∙ (framed callers loader later h.owned_is
              ∙ (ap frames_of facts.own ∙ (frames_behind (with_run run l.front) l.marks ∙ rest.frames)));
          accepted = l.committed_is.accepted ∙ plain (length l.front);
          sums = facts.sums_are ∙ ap sums_of (by_loader callers loader before later h.owned_is);
          ends = end_of_file limits run result.end l.rest (rest.next ++ rest.more) l.marks (items pass.seen) (items begins.0) (before ++ entries_of (items later)) mark
              (is_some (left old.source)) (left old.source) (left new.source) l.coming l.ends l.read_to tells (sym rest.rest_is)
              (seen_and_others pass.seen begins.0 begins.1) (broken_seen pass.seen begins.0 begins.1);
        }
      where
        own_mine : items_by (Some loader) history ≡ pass.added
        own_mine = ap (λ n. items_by (Some n) history) (sym d.same.number) ∙ own

        plain : (n : ℕ) → 0 + n ≡ n
        plain n = omega arith

    -- how far a file was read whose source failed
    cut_short : (bytes : List ℕ) → left old.source ≡ Some bytes → IsReadTo ReadFault (is_some (left old.source)) (left old.source) (left new.source) d.loads.coming
        → IsCutShort (Some bytes) (left new.source) d.loads.coming
    cut_short bytes given read =
        subst (λ start. IsCutShort start (left new.source) d.loads.coming) given (read (ap (λ (o : Option (List ℕ)). is_some o) given))

    pub loads_file : LoadsFile left faults limits before (entries_of (items later)) mark loader old new result
    unfolding file_loaded
    loads_file = record {
      loaded = file_loaded;
      read_to = λ bytes given is. cut_short bytes given (subst (λ e. IsReadTo e (is_some (left old.source)) (left old.source) (left new.source) d.loads.coming) is d.loads.read_to);
      code = d.code;
      broken = λ is. broken_seen pass.seen begins.0 begins.1 (subst (λ e. IsEndOf (origin_of limits before) e d.loads.rest d.loads.marks (items pass.seen)) is d.loads.ends).0;
      later = d.faults_are.later;
      cause = d.faults_are.cause;
    }

module _ {O S : Type 0} (limits : Limits) (lock : Lock O) (before : List Entry) (left : S → Option (List ℕ)) (bound faults : S → ℕ)
    (loader : ℕ) (old : InputFile S) (pass : Pass O Event) (new : InputFile S) (result : FileResult)
    (d : Did limits lock before left bound faults loader old pass new result) where
  left_of : HasLeft loader (next_run before) result.end d.loads.rest d.loads.marks
  left_of = has_left loader (origin_of limits before) result.end d.loads.rest d.loads.marks (items pass.seen)
      (judged_rest loader old.code d.loads.done d.loads.front d.loads.rest result.refused d.loads.judged) d.loads.ends

  pub did_fair : IsFair before pass
  did_fair =
      let l = d.loads in
      let all = committed_by loader (next_run before) l.front l.marks (judged_front loader old.code l.done l.front l.rest result.refused l.judged) left_of.by in
      record {
        begins = (l.committed_is.later, sym l.committed_is.seen);
        own = subst (λ n. AllByRecursion (IsBy n) pass.added) (sym d.same.number) (subst (AllByRecursion (IsBy loader)) (sym l.committed_is.added) all);
      }

  -- a file that ends by no device fault has no mark
  pub did_unmarked : result.end ≢ DeviceFault → is_broken pass.added ≡ false
  did_unmarked other =
      let l = d.loads in
      ap is_broken l.committed_is.added ∙ (broken_behind (with_run (next_run before) l.front) l.marks ∙ left_of.whole other)
