-- Files that were loaded whole into a journal that was closed make one history, and the console's lines are those of it.
use Rattle.std.proofs.Common.{◌≡◌, ℕ, ◌+◌, ◌<◌, ◌≤◌, max, true, List, [], ◌++◌, length, take, Option, Some, None, refl, sym, ap, subst, ◌∙◌, arith, append-nil}
use Rattle.std.specs.Prelude.{All, is_some}
use Rattle.std.proofs.Math.Logic.{∥∥₁_map}
use Rattle.std.proofs.lemmas.List.{take_all, take-append-le}
use Rattle.marc_types.specs.declared.entry.Entry.{Entry}
use Rattle.outside.specs.Room.{RoomView, bytes_or_none}
use Rattle.commit_journal.specs.declared.format.TheConstants.{BLANK_LENGTH}
use Rattle.commit_journal.specs.Log.{version_of, walk_of}
use Rattle.commit_journal.specs.Journal.{EndsAt}
use Rattle.command_words.specs.declared.library.Library.{Library}
use Rattle.entry_record.specs.History.{IsMerged, brought_by, with_run, next_run, IsWithin}
use Rattle.durable_catalogue.specs.Logs.{HasHistory}
use Rattle.durable_catalogue.specs.Images.{HoldsEntries, framed_lengths}
use Rattle.durable_catalogue.specs.Durables.{Opening}
use Rattle.durable_catalogue.proofs.Framed.{framed_append}
use Rattle.durable_catalogue.proofs.Images.{front_of, whole_is}
use Rattle.loader_workers.specs.declared.result.FileResult.{FileResult}
use Rattle.durable_catalogue.specs.Views.{DurableView}
use Rattle.journal_files.specs.Journals.{journal_limits, log_bytes, IsOpenedFrom, IsClosedTo, IsClosedAs}
use Rattle.loading_commands.specs.Outcomes.{IsLoadedWhole}
use Rattle.loading_commands.specs.Merged.{IsOneHistory}
use Rattle.loading_commands.specs.Console.{any_refused, refused_part}
use Rattle.loading_commands.specs.Texts.{totals_text, files_text, has_refused}
use Rattle.loading_commands.specs.Runs.{IsMergedLoad, told_of}
use Rattle.loading_commands.proofs.Merging.{Merges, merges, all_done}

some_of : {A : Type 0} (o : Option A) → is_some o ≡ true → (x : A) × (o ≡ Some x)
some_of None is = cc
some_of (Some x) is = (x, refl)

some_same : {A : Type 0} {x y : A} → Some x ≡ Some y → x ≡ y
some_same is = cc

-- an image that has all entries has the history
whole_history : (entries : List Entry) (image : List ℕ) → HoldsEntries (length entries) entries [] image → HasHistory entries image
whole_history entries image holds = ∥∥₁_map holds (λ r. whole_is entries image (front_of (length entries) entries image r))

module _ (old new : RoomView) (journal : List ℕ) (libraries : List Library) (before added : List Entry) (o : Opening) (results : List FileResult)
    (tells : old.tells ≡ true) (opened : IsOpenedFrom old journal before None o) (closed : IsClosedTo new journal (before ++ added) None o)
    (made : Merges old before added 0 libraries results) (loaders : All (λ (e : Entry). e.loader < length libraries) added)
    (within : IsWithin (journal_limits old) (before ++ added)) where
  first_sync : (s : ℕ) → (new.log journal).dated ≡ true → (new.log journal).synced 0 ≡ Some s → o.synced ≡ Some s
  first_sync s dated synced =
      let first = some_of o.synced (opened.synced (sym closed.left.dated ∙ dated)) in
      let kept = subst (λ t. (new.log journal).synced t ≡ Some first.0) opened.moment (closed.left.syncs first.0 first.1) in
      first.1 ∙ ap Some (some_same (sym kept ∙ synced))

  merged : IsMerged before made.accepted added
  merged = record {
    loaders = subst (λ n. All (λ (e : Entry). e.loader < n) added) (sym made.count) loaders;
    files = λ loader entries at. subst (λ n. brought_by n added ≡ with_run (next_run before) entries) (omega arith) (made.brought loader entries at);
  }

  -- what it was, of what it is now
  begun : take o.opened (before ++ added) ≡ before
  begun = ap (λ n. take n (before ++ added)) opened.opened ∙ take-append-le (length before) before added (omega arith) ∙ take_all (length before) before (omega arith)

  no_longer : length (log_bytes new journal) ≤ max BLANK_LENGTH (length (log_bytes old journal)) + framed_lengths added
  no_longer =
      let longest : length closed.bytes + framed_lengths (take o.opened (before ++ added)) ≤ o.length + framed_lengths ((before ++ added) ++ []) = closed.longest in
      omega (
        arith,
        ap length (ap bytes_or_none closed.file),
        longest,
        opened.length tells,
        ap framed_lengths begun,
        ap framed_lengths (append-nil (before ++ added)),
        framed_append before added,
      )

  pub one_history : IsOneHistory old new journal libraries before added made.accepted made.refused
  one_history = record {
    was = opened.history tells;
    version = opened.version tells;
    judged = made.judged;
    merged = merged;
    within = within;
    closed = closed.closed;
    there = ap is_some closed.file;
    is = subst (HasHistory (before ++ added)) (sym (ap bytes_or_none closed.file)) (whole_history (before ++ added) closed.bytes closed.holds);
    images = λ c image. whole_history (before ++ added) c (closed.left.images c (opened.tells tells) image);
    only = closed.only refl;
    ended = subst (λ b. EndsAt (walk_of b).place b) (sym (ap bytes_or_none closed.file)) (closed.ended refl);
    newest = subst (λ b. version_of b ≡ 2) (sym (ap bytes_or_none closed.file)) closed.newest;
    longest = no_longer;
    synced = λ dated.
        let first = some_of o.synced (opened.synced (sym closed.left.dated ∙ dated)) in
        ap is_some (subst (λ t. (new.log journal).synced t ≡ Some first.0) opened.moment (closed.left.syncs first.0 first.1));
    crash = λ s c dated synced left. subst (λ n. HoldsEntries n (before ++ added) [] c) opened.opened (closed.left.since s c (opened.tells tells) (first_sync s dated synced) left);
  }

-- what a load makes that is known by its results
pub record MergedBy (old new : RoomView) (journal : List ℕ) (libraries : List Library) (entries : List Entry) (results : List FileResult) : Type 0 where
  pub merged : IsMergedLoad old new journal libraries
  pub entries_are : entries ≡ merged.before ++ merged.added
  pub text_is : files_text libraries results ≡ told_of merged
  pub any_is : has_refused results ≡ any_refused merged.refused

-- and it has as many entries before it as the journal was opened with
pub merged_behind : (old new : RoomView) (journal : List ℕ) (libraries : List Library) (d : DurableView) (results : List FileResult)
    → IsWithin d.opened.origin.limits d.entries → IsLoadedWhole old journal libraries d results → (d.opened.tells ≡ true → IsClosedAs new journal d) → old.tells ≡ true
    → (m : MergedBy old new journal libraries d.entries results) × (d.opened.opened ≡ length m.merged.before)
merged_behind old new journal libraries d results within w closing tells =
    let o = d.opened in
    let closed = subst (λ m. IsClosedTo new journal (w.before ++ w.added) m o) w.unmarked (subst (λ es. IsClosedTo new journal es d.mark o) w.entries_are (closing (w.opened.tells tells))) in
    let made = merges old w.before w.added 0 libraries results w.loaded.files (all_done results w.faultless) in
    let loaders = subst (λ es. All (λ (e : Entry). e.loader < length libraries) es) (append-nil w.added) w.loaded.loaders in (
      record {
        merged = record {
          before = w.before;
          added = w.added;
          accepted = made.accepted;
          refused = made.refused;
          history = one_history old new journal libraries w.before w.added o results tells w.opened closed made loaders
              (subst (λ es. IsWithin (journal_limits old) es) w.entries_are (subst (λ limits. IsWithin limits d.entries) w.opened.limits within));
        };
        entries_are = w.entries_are;
        text_is = ap (λ text. text ++ totals_text libraries results) made.refused_is ∙ ap (λ text. refused_part libraries made.refused ++ text) made.totals_is;
        any_is = made.any_is;
      },
      w.opened.opened,
    )

pub merged_by : (old new : RoomView) (journal : List ℕ) (libraries : List Library) (d : DurableView) (results : List FileResult)
    → IsWithin d.opened.origin.limits d.entries → IsLoadedWhole old journal libraries d results → (d.opened.tells ≡ true → IsClosedAs new journal d) → old.tells ≡ true
    → MergedBy old new journal libraries d.entries results
merged_by old new journal libraries d results within w closing tells = (merged_behind old new journal libraries d results within w closing tells).0
