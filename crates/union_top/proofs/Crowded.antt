-- Loading ends as full only where the accepted entries of all files pass a limit behind the history.
use Rattle.std.proofs.Common.{◌≡◌, ℕ, ◌+◌, ◌<◌, ◌≤◌, true, false, ◌||◌, true≢false, List, [], ◌∷◌, ◌++◌, length, Option, Some, refl, sym, ap, subst, ◌∙◌, arith, append_assoc}
use Rattle.std.specs.Prelude.{All, nat_lt}
use Rattle.std.specs.List.{sum_by}
use Rattle.std.proofs.lemmas.List.Sums.{sum_by-append}
use Rattle.std.proofs.lemmas.List.Elements.{All-nil, All-cons, All-head, All-tail}
use Rattle.std.proofs.lemmas.List.{length-append}
use Rattle.std.proofs.lemmas.Bool.Decides.{nat_tests}
use Rattle.marc_types.specs.declared.entry.Entry.{Entry}
use Rattle.outside.specs.Room.{RoomView}
use Rattle.marc_stream.specs.Pieces.{Item, items}
use Rattle.command_words.specs.declared.library.Library.{Library}
use Rattle.entry_record.specs.History.{entry_size, entries_size, brought_by, in_run, with_run, next_run, passes_limits}
use Rattle.file_entries.specs.Files.{IsJudged}
use Rattle.file_entries.specs.declared.refused.RefusedItem.{RefusedItem}
use Rattle.durable_catalogue.specs.Durables.{marked}
use Rattle.loader_workers.specs.declared.file_end.FileEnd.{FileEnd}
use Rattle.loader_workers.specs.declared.file_end.FileEnd.TheVariants as end
use Rattle.loader_workers.specs.declared.result.FileResult.{FileResult}
use Rattle.loader_workers.specs.Turns.{IsFullBehind}
use Rattle.loader_workers.specs.Files.{IsEndOfFile}
use Rattle.journal_files.specs.Journals.{journal_limits}
use Rattle.loading_commands.specs.Outcomes.{IsLibraryLoaded, AreLibrariesLoaded, NoLibrary, OneLibrary, ends_so, any_ends}
use Rattle.loading_commands.specs.Merged.{AreJudged, NoFile, OneFile}
use Rattle.union_top.proofs.Weights.{IsRunless, total, totals, total_from, total-append, total_runless, total_is_sum, total_is_length, totals_are_sums, from_first, from_next, from_none}
use Rattle.union_top.proofs.Made.{made, made_first}

some_same : {A : Type 0} {x y : A} → Some x ≡ Some y → x ≡ y
some_same is = cc

pub all_parts : (P : Entry → Type 0) (xs ys : List Entry) → All P (xs ++ ys) → All P xs × All P ys
all_parts P [] ys all = (All-nil P, all)
all_parts P (x ∷ xs) ys all =
    let rest = all_parts P xs ys (All-tail P x (xs ++ ys) all) in (All-cons P x xs (All-head P x (xs ++ ys) all) rest.0, rest.1)

module _ (room : RoomView) (before added : List Entry) (mark : Option (List Entry)) where
  -- the accepted entries of a file: those that are committed, those that loading left, the first of which a device failed to take, and
  -- those of the items behind
  record Behind (loader : ℕ) (r : FileResult) (entries : List Entry) : Type 0 where
    pub front : List Entry
    pub next : List Entry
    pub more : List Entry
    pub coming : List Item
    pub rest : List Entry
    pub split : entries ≡ front ++ ((next ++ more) ++ rest)
    pub committed : brought_by loader added ≡ with_run (next_run before) front
    pub lost : brought_by loader (marked mark) ≡ with_run (next_run before) next
    pub ends : IsEndOfFile (journal_limits room) (before ++ added) (next_run before) mark r.end (next ++ more) coming

  behind : (loader : ℕ) (l : Library) (r : FileResult) (bytes : List ℕ) (entries : List Entry) (refused : List RefusedItem)
      → room.file l.file ≡ Some bytes → IsJudged l.code loader (items bytes) entries refused → IsLibraryLoaded room before added mark l loader r
      → Behind loader r entries
  behind loader l r bytes entries refused there judged one =
      let f = one.loaded in
      let same : items bytes ≡ f.done ++ f.coming = ap items (some_same (sym there ∙ one.there)) ∙ f.split in
      let all = subst (λ is. IsJudged l.code loader is entries refused) same judged in
      let first = made_first l.code loader f.done f.coming (f.front ++ f.next ++ f.more) entries (made l.code loader _ _ _ f.judged) (made l.code loader _ _ _ all) in
      record {
        front = f.front;
        next = f.next;
        more = f.more;
        coming = f.coming;
        rest = first.0;
        split = first.1 ∙ ap (λ es. es ++ first.0) (append_assoc f.front f.next f.more) ∙ append_assoc f.front (f.next ++ f.more) first.0;
        committed = f.committed_are;
        lost = f.marked_are;
        ends = f.ends;
      }

  -- what is committed of a file is part of its accepted entries
  weighs : (w : Entry → ℕ) → IsRunless w → (loader : ℕ) (r : FileResult) (entries : List Entry) (b : Behind loader r entries)
      → total w entries ≡ total w (brought_by loader added) + total w (b.next ++ b.more) + total w b.rest
  weighs w same loader r entries b =
      let split = ap (total w) b.split ∙ total-append w b.front ((b.next ++ b.more) ++ b.rest) in
      let left = total-append w (b.next ++ b.more) b.rest in
      let front = ap (total w) b.committed ∙ total_runless w (next_run before) same b.front in
      omega (arith, split, left, front)

  -- what is committed of a file, and what a device failed to take of it, is part of its accepted entries
  weighs_both : (w : Entry → ℕ) → IsRunless w → (loader : ℕ) (r : FileResult) (entries : List Entry) → Behind loader r entries
      → total w (brought_by loader added) + total w (brought_by loader (marked mark)) ≤ total w entries
  weighs_both w same loader r entries b =
      let all = weighs w same loader r entries b in
      let left = total-append w b.next b.more in
      let lost = ap (total w) b.lost ∙ total_runless w (next_run before) same b.next in
      omega (arith, all, left, lost)

  pub fits : (w : Entry → ℕ) → IsRunless w → (loader : ℕ) (libraries : List Library) (accepted : List (List Entry)) (refused : List (List RefusedItem)) (results : List FileResult)
      → All (λ (e : Entry). e.loader < loader + length libraries) added → All (λ (e : Entry). e.loader < loader + length libraries) (marked mark)
      → AreJudged room loader libraries accepted refused → AreLibrariesLoaded room before added mark loader libraries results
      → total_from w loader added + total_from w loader (marked mark) ≤ totals w accepted
  unfolding totals
  fits w same loader _ _ _ _ few few_marked (NoFile _) (NoLibrary _) =
      let none = from_none w loader added (subst (λ n. All (λ (e : Entry). e.loader < n) added) (omega arith) few) in
      let none_marked = from_none w loader (marked mark) (subst (λ n. All (λ (e : Entry). e.loader < n) (marked mark)) (omega arith) few_marked) in
      omega (arith, none, none_marked)
  fits w same loader _ _ _ _ few few_marked (OneFile _ l bytes entries refused_items libraries accepted refused there judged others) (OneLibrary _ _ results _ r one more) =
      let rest = fits w same (loader + 1) libraries accepted refused results (subst (λ n. All (λ (e : Entry). e.loader < n) added) (omega arith) few)
      (subst (λ n. All (λ (e : Entry). e.loader < n) (marked mark)) (omega arith) few_marked) others more in
      let here = weighs_both w same loader r entries (behind loader l r bytes entries refused_items there judged one) in
      let next = from_next w loader added in
      let next_marked = from_next w loader (marked mark) in
      omega (arith, rest, here, next, next_marked)

  -- an entry that passes a limit, and weighs no more together with all that is committed than what is accepted
  pub record Crowded (loader : ℕ) (accepted : List (List Entry)) : Type 0 where
    pub next : Entry
    pub passes : passes_limits (journal_limits room) (before ++ added) (in_run (next_run before) next) ≡ true
    pub weighs : (w : Entry → ℕ) → IsRunless w → total_from w loader added + w next ≤ totals w accepted

  module _ (loader : ℕ) (r : FileResult) (results : List FileResult) (entries : List Entry) (accepted : List (List Entry)) (b : Behind loader r entries)
      (others : (w : Entry → ℕ) → IsRunless w → total_from w (loader + 1) added ≤ totals w accepted) where
    first_crowded : r.end ≡ end.Full → Crowded loader (entries ∷ accepted)
    unfolding total totals
    first_crowded full =
        let full_behind : IsFullBehind (journal_limits room) (before ++ added) (next_run before) (b.next ++ b.more) =
        subst (λ e. IsEndOfFile (journal_limits room) (before ++ added) (next_run before) mark e (b.next ++ b.more) b.coming) full b.ends in
        record {
          next = full_behind.next;
          passes = full_behind.passes;
          weighs = λ w same.
              let rest = others w same in
              let all = weighs w same loader r entries b in
              let first = ap (total w) full_behind.rest_is in
              let next = from_next w loader added in
              omega (arith, rest, all, first, next);
        }

    later_crowded : Crowded (loader + 1) accepted → Crowded loader (entries ∷ accepted)
    unfolding totals
    later_crowded c = record {
      next = c.next;
      passes = c.passes;
      weighs = λ w same.
          let rest = c.weighs w same in
          let all = weighs w same loader r entries b in
          let next = from_next w loader added in
          omega (arith, rest, all, next);
    }

    one_crowded : (any_ends end.Full results ≡ true → Crowded (loader + 1) accepted) → any_ends end.Full (r ∷ results) ≡ true → Crowded loader (entries ∷ accepted)
    one_crowded later full = decided r.end refl
      where
        any : (e : FileEnd) → r.end ≡ e → ends_so end.Full e ≡ false → any_ends end.Full results ≡ true
        any e at other = ap (λ b. b || any_ends end.Full results) (sym other) ∙ ap (λ x. ends_so end.Full x || any_ends end.Full results) (sym at) ∙ full

        decided : (e : FileEnd) → r.end ≡ e → Crowded loader (entries ∷ accepted)
        decided end.Full at = first_crowded at
        decided end.Done at = later_crowded (later (any end.Done at refl))
        decided end.ReadFault at = later_crowded (later (any end.ReadFault at refl))
        decided end.DeviceFault at = later_crowded (later (any end.DeviceFault at refl))
        decided end.NoMemory at = later_crowded (later (any end.NoMemory at refl))

  pub crowded : (loader : ℕ) (libraries : List Library) (accepted : List (List Entry)) (refused : List (List RefusedItem)) (results : List FileResult)
      → All (λ (e : Entry). e.loader < loader + length libraries) added → All (λ (e : Entry). e.loader < loader + length libraries) (marked mark)
      → AreJudged room loader libraries accepted refused → AreLibrariesLoaded room before added mark loader libraries results
      → any_ends end.Full results ≡ true → Crowded loader accepted
  crowded loader _ _ _ _ few few_marked (NoFile _) (NoLibrary _) full = absurd (true≢false (sym full))
  crowded loader _ _ _ _ few few_marked (OneFile _ l bytes entries refused_items libraries accepted refused there judged others) (OneLibrary _ _ results _ r one more) full =
      let fewer : All (λ (e : Entry). e.loader < (loader + 1) + length libraries) added = subst (λ n. All (λ (e : Entry). e.loader < n) added) (omega arith) few in
      let fewer_marked : All (λ (e : Entry). e.loader < (loader + 1) + length libraries) (marked mark) =
      subst (λ n. All (λ (e : Entry). e.loader < n) (marked mark)) (omega arith) few_marked in
      one_crowded loader r results entries accepted (behind loader l r bytes entries refused_items there judged one)
      (λ w same. let both = fits w same (loader + 1) libraries accepted refused results fewer fewer_marked others more in omega (arith, both))
      (crowded (loader + 1) libraries accepted refused results fewer fewer_marked others more) full

  -- with as many entries and bytes as fit, none passes a limit
  pub never_crowded : (accepted : List (List Entry)) → length before + sum_by length accepted ≤ (journal_limits room).entries → entries_size before + sum_by entries_size accepted ≤ (journal_limits room).bytes
      → Crowded 0 accepted → ⊥
  never_crowded accepted few small c =
      let one : IsRunless (λ e. 1) = λ run e. refl in
      let size : IsRunless entry_size = λ run e. refl in
      let numbers = c.weighs (λ e. 1) one in
      let sizes = c.weighs entry_size size in
      let added_number = from_first (λ e. 1) added ∙ total_is_length added in
      let added_size = from_first entry_size added ∙ total_is_sum entry_size added in
      let number = totals_are_sums (λ e. 1) length total_is_length accepted in
      let bytes = totals_are_sums entry_size entries_size (total_is_sum entry_size) accepted in
      let both_numbers = length-append before added in
      let both_sizes = sum_by-append entry_size before added in
      let no_more : nat_lt (journal_limits room).entries (length (before ++ added) + 1) ≡ false = grind (arith, nat_tests) in
      let no_larger : nat_lt (journal_limits room).bytes (entries_size (before ++ added) + entry_size (in_run (next_run before) c.next)) ≡ false = grind (arith, nat_tests) in
      let passes : true ≡ false = sym c.passes ∙ ap (λ b. b || nat_lt (journal_limits room).bytes (entries_size (before ++ added) + entry_size (in_run (next_run before) c.next))) no_more ∙ no_larger in
      true≢false passes
