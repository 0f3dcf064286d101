-- What loading all files did.
use Rattle.std.proofs.Common.{◌≡◌, ◌≢◌, ◌∙◌, ℕ, suc, ◌+◌, ◌<◌, ◌≤◌, false, List, [], ◌∷◌, ◌++◌, length, Option, Some, None, refl, sym, ap, subst}
use Rattle.std.specs.Prelude.{All}
use Rattle.std.specs.List.{AllByRecursion}
use Rattle.std.proofs.lemmas.List.Elements.{All-from_recursion, recursion_from_All, All-append}
use mathlib.Core.List.{IsPrefix}
use Rattle.marc_types.specs.declared.entry.Entry.{Entry}
use Rattle.marc_types.specs.declared.entry.Limits.{Limits}
use Rattle.entry_history.specs.Events.{entries_of, is_broken}
use Rattle.entry_history.specs.declared.event.Event.{Event}
use Rattle.catalogue_lock.specs.declared.view.Numbered.{Numbered}
use Rattle.catalogue_lock.specs.History.{items, items_by}
use Rattle.catalogue_lock.specs.Passes.{Lock, Pass, Closed, IsPassOf}
use Rattle.durable_catalogue.specs.Durables.{marked, events}
use Rattle.loader_workers.specs.declared.file_end.FileEnd.TheVariants.{DeviceFault}
use Rattle.loader_workers.specs.declared.result.FileResult.{FileResult}
use Rattle.loader_workers.specs.declared.input.InputFile.{InputFile}
use Rattle.loader_workers.specs.Files.{LoadsFile, EachLoaded, NoFile, OneMore, AreOfOneFile, AreLoaded}
use Rattle.loader_workers.proofs.Loaders.{frames_of, entries_below, frames_below}
use Rattle.loader_workers.proofs.Marks.{no_mark, no_mark_told}
use Rattle.loader_workers.proofs.MarkedFrame.{of_one_file}
use Rattle.loader_workers.proofs.Tasks.{all_at, all_of, AllDid, NoneDid, OneDid}
use Rattle.loader_workers.proofs.OneHistory.{IsOneHistory, IsFair, begins, one_history}
use Rattle.loader_workers.proofs.FileDone.{Did, loads_file, did_fair, did_unmarked}

module _ {O S : Type 0} (D : ℕ → InputFile S → Pass O Event → InputFile S → FileResult → Type 0) where
  -- what holds of the pass of each file with a result of this kind
  pub passes_so : (P : Pass O Event → Type 0) (R : FileResult → Type 0) → ((k : ℕ) (f : InputFile S) (p : Pass O Event) (a : InputFile S) (r : FileResult) → D k f p a r → R r → P p)
      → (n : ℕ) (fs : List (InputFile S)) (ps : List (Pass O Event)) (bs : List (InputFile S)) (rs : List FileResult) → AllDid D n fs ps bs rs → AllByRecursion R rs → AllByRecursion P ps
  passes_so P R so _ _ _ _ _ (NoneDid n) all = tt
  passes_so P R so _ _ _ _ _ (OneDid n fs ps bs rs f p a r did rest) all = (so n f p a r did all.0, passes_so P R so (n + 1) fs ps bs rs rest all.1)

  pub as_many : (n : ℕ) (fs : List (InputFile S)) (ps : List (Pass O Event)) (bs : List (InputFile S)) (rs : List FileResult) → AllDid D n fs ps bs rs → length ps ≡ length fs
  as_many _ _ _ _ _ (NoneDid n) = refl
  as_many _ _ _ _ _ (OneDid n fs ps bs rs f p a r did rest) = ap suc (as_many (n + 1) fs ps bs rs rest)

  module _ (left : S → Option (List ℕ)) (faults : S → ℕ) (limits : Limits) (before added : List Entry) (mark : Option (List Entry)) where
    -- each file is loaded, where what became of it says so of a pass like this
    pub each_so : (P : Pass O Event → Type 0) → ((k : ℕ) (f : InputFile S) (p : Pass O Event) (a : InputFile S) (r : FileResult) → D k f p a r → P p → LoadsFile left faults limits before added mark k f a r)
        → (n : ℕ) (fs : List (InputFile S)) (ps : List (Pass O Event)) (bs : List (InputFile S)) (rs : List FileResult) → AllDid D n fs ps bs rs → AllByRecursion P ps
        → EachLoaded left faults limits before added mark n fs bs rs
    each_so P so _ _ _ _ _ (NoneDid n) all = NoFile n
    each_so P so _ _ _ _ _ (OneDid n fs ps bs rs f p a r did rest) all =
        OneMore n fs bs rs f a r (so n f p a r did all.0) (each_so P so (n + 1) fs ps bs rs rest all.1)

module _ {O S : Type 0} (limits : Limits) (lock : Lock O) (before : List Entry) (left : S → Option (List ℕ)) (bound faults : S → ℕ) where
  abbrev pub DidSo : ℕ → InputFile S → Pass O Event → InputFile S → FileResult → Type 0
  DidSo = Did limits lock before left bound faults

  module _ (callers : ℕ) (files : List (InputFile S)) (passes : List (Pass O Event)) (back : List (InputFile S)) (results : List FileResult)
      (all : AllDid DidSo 0 files passes back results) (after : List Entry) (mark : Option (List Entry))
      (closed : Closed callers passes (events before None) (events after mark)) where
    any_result : (rs : List FileResult) → AllByRecursion (λ (r : FileResult). Unit {0}) rs
    any_result [] = tt
    any_result (r ∷ rs) = (tt, any_result rs)

    all_fair : AllByRecursion (IsFair before) passes
    all_fair = passes_so DidSo (IsFair before) (λ r. Unit {0}) (λ k f p a r did any. did_fair limits lock before left bound faults k f p a r did) 0 files passes back results all (any_result results)

    -- what is known of each pass at the end
    abbrev IsClosed : Pass O Event → Type 0
    IsClosed p = IsPrefix p.seen closed.history × (items_by (Some p.number) closed.history ≡ p.added)

    all_closed : AllByRecursion IsClosed passes
    all_closed = all_of IsClosed passes (λ k p there. (closed.begins k p there, closed.own k p there))

    unmarked : (later : List (Numbered Event)) → IsOneHistory callers before after mark closed.history later → All (λ (r : FileResult). r.end ≢ DeviceFault) results → mark ≡ None
    unmarked later h others =
        let quiet : AllByRecursion (λ (p : Pass O Event). is_broken p.added ≡ false) passes =
        passes_so DidSo (λ (p : Pass O Event). is_broken p.added ≡ false) (λ (r : FileResult). r.end ≢ DeviceFault)
        (λ k f p a r did other. did_unmarked limits lock before left bound faults k f p a r did other) 0 files passes back results all
        (recursion_from_All (λ (r : FileResult). r.end ≢ DeviceFault) results others) in
        no_mark_told mark (sym h.broken_later ∙ no_mark callers later h.owned_is (λ n lt.
        let every = closed.every n lt in
        let p = every.1 in
        ap is_broken (sym (h.own n)) ∙ (ap (λ i. is_broken (items_by (Some i) closed.history)) (sym every.3)
        ∙ (ap is_broken (closed.own every.0 p every.2) ∙ all_at (λ (p : Pass O Event). is_broken p.added ≡ false) passes every.0 p quiet every.2))))

    pub are_loaded : 0 < callers → callers ≡ length files → length (marked mark) ≤ 32 → AreLoaded left faults limits before files back results after mark
    are_loaded some same few =
        let h = one_history callers passes before after mark closed all_fair some in
        let later = (begins callers passes before after mark closed all_fair some).0 in
        let added = entries_of (items later) in
        let entries = All-from_recursion (λ (e : Entry). e.loader < callers) added (entries_below callers later h.owned_is) in
        let frames = All-from_recursion (λ (e : Entry). e.loader < callers) (frames_of (items later)) (frames_below callers later h.owned_is) in
        record {
          added = added;
          after_is = h.after_is;
          loaders = subst (λ n. All (λ (e : Entry). e.loader < n) (added ++ marked mark)) same
              (All-append (λ (e : Entry). e.loader < callers) added (marked mark) entries (subst (All (λ (e : Entry). e.loader < callers)) h.frames frames));
          frame = subst (λ n. AreOfOneFile n (marked mark)) same (of_one_file callers some mark later h.owned_is added h.mark_last);
          few = few;
          each = each_so DidSo left faults limits before added mark IsClosed
              (λ k f p a r did is. loads_file callers limits lock before after mark closed.history later h left bound faults k f p a r did is.0 is.1)
              0 files passes back results all all_closed;
          unmarked = unmarked later h;
        }

  -- the passes are the lock's
  pub all_own : (files : List (InputFile S)) (passes : List (Pass O Event)) (back : List (InputFile S)) (results : List FileResult)
      → AllDid DidSo 0 files passes back results → All (IsPassOf lock) passes
  all_own files passes back results all =
      All-from_recursion (IsPassOf lock) passes
      (passes_so DidSo (IsPassOf lock) (λ r. Unit {0}) (λ k f p a r did any. (did.same.lock, did.same.opened)) 0 files passes back results all (any results))
    where
      any : (rs : List FileResult) → AllByRecursion (λ (r : FileResult). Unit {0}) rs
      any [] = tt
      any (r ∷ rs) = (tt, any rs)
