-- Loading files under a lock, from its passes to the catalogue that it gives back.
use Rattle.std.proofs.Common.{◌≡◌, ◌∙◌, ℕ, zero, suc, ◌+◌, ◌-◌, ◌<◌, ◌≤◌, List, [], ◌∷◌, ◌++◌, map, length, Option, Some, None, refl, sym, ap, subst, arith}
use Rattle.std.specs.Prelude.{All, IsTrue, IfOk, Result, slice_get}
use Rattle.marc_types.specs.declared.copying.NoMemory.{NoMemory}
use Rattle.std.specs.List.{range_with_len}
use Rattle.std.proofs.lemmas.List.Elements.{All-from_recursion, recursion_from_All}
use Rattle.std.proofs.lemmas.List.FromFn.{length-map-range_with_len}
use Rattle.marc_types.specs.declared.entry.Entry.{Entry}
use Rattle.marc_types.specs.declared.entry.Limits.{Limits}
use Rattle.marc_types.specs.Valid.{is_code}
use Rattle.entry_history.specs.Commits.{IsCommit}
use Rattle.entry_history.specs.declared.event.Event.{Event}
use Rattle.entry_history.specs.declared.reply.BatchReply.{BatchReply}
use Rattle.catalogue_lock.specs.History.{items_by}
use Rattle.catalogue_lock.specs.Passes.{Lock, Pass, Closed, IsPassOf}
use Rattle.catalogue_lock.proofs.Numbers.{items_by-other}
use Rattle.durable_catalogue.specs.Durables.{marked, events}
use Rattle.loader_workers.specs.SideBySide.{CanLoad, LoadsTask, HasTask, Each}
use Rattle.loader_workers.specs.Tasks.{task_of, tasks_from, tasks_in, results_of}
use Rattle.loader_workers.specs.Files.{CanBeLoaded, IsLockOver, AreLoaded, first_passes}
use Rattle.loader_workers.specs.declared.input.InputFile.{InputFile}
use Rattle.loader_workers.specs.declared.result.FileResult.{FileResult}
use Rattle.loader_workers.specs.declared.task.FileTask.{FileTask}
use Rattle.loader_workers.proofs.Tasks.{AllDid, HasResult, all_did, at_places, tasks_at, tasks_can, tasks_count}
use Rattle.loader_workers.proofs.FileDone.{origin_of, start_of, Did}
use Rattle.loader_workers.proofs.AllDone.{DidSo, as_many, are_loaded, all_own}

-- passes that are put behind no others
pub none_given : {X : Type 0} (given all passes : List X) → given ≡ [] → all ≡ given ++ passes → all ≡ passes
none_given given all passes none is = is ∙ ap (λ l. l ++ passes) none

-- What is known at the end of the passes behind one that added nothing and has the last number.
module _ {O : Type 0} (files : ℕ) (idle : Pass O Event) (passes : List (Pass O Event)) (brought left : List Event) (none : idle.added ≡ []) (last : idle.number ≡ files)
    (closed : Closed (files + 1) (idle ∷ passes) brought left) where
  behind_idle : (n : ℕ) → n < files → (k : ℕ) (p : Pass O Event) → slice_get (idle ∷ passes) k ≡ Some p → p.number ≡ n
      → (k : ℕ) × (p : Pass O Event) × (slice_get passes k ≡ Some p) × (p.number ≡ n)
  behind_idle n lt zero p there is =
      let same : idle ≡ p = cc there in absurd (omega (arith, lt, ap (λ (q : Pass O Event). q.number) same, last, is))
  behind_idle n lt (suc k) p there is = (k, p, there, is)

  nobody_else : (n more : ℕ) → n ≡ files + more → items_by (Some n) closed.history ≡ []
  nobody_else n zero is =
      let same : n ≡ idle.number = omega (arith, is, last) in
      ap (λ m. items_by (Some m) closed.history) same ∙ (closed.own 0 idle refl ∙ none)
  nobody_else n (suc more) is = closed.nobody n (omega (arith, is))

  pub without_idle : Closed files passes brought left
  without_idle = record {
    history = closed.history;
    whole = closed.whole;
    unnumbered = closed.unnumbered;
    begins = λ k p there. closed.begins (suc k) p there;
    own = λ k p there. closed.own (suc k) p there;
    every = λ n lt. let at = closed.every n (omega (arith, lt)) in behind_idle n lt at.0 at.1 at.2 at.3;
    nobody = λ n le. nobody_else n (n - files) (omega (arith, le));
  }

module _ {X : Type 0} where
  -- one thing is put into an empty list
  pub one_more : (none one : List X) (x : X) → none ≡ [] → one ≡ none ++ x ∷ [] → length one ≡ 1
  one_more none one x empty is = ap (length {A = X}) (is ∙ ap (λ l. l ++ x ∷ []) empty)

  -- what holds of the first of a list and of the others
  pub all_with : (P : X → Type 0) (first : X) (rest all : List X) → all ≡ first ∷ rest → P first → All P rest → All P all
  all_with P first rest all is one others =
      subst (All P) (sym is) (All-from_recursion P (first ∷ rest) (one, recursion_from_All P rest others))

-- what is known at the end, of the passes as they were put together
pub closed_so : {O : Type 0} (callers files : ℕ) (all passes : List (Pass O Event)) (brought left : List Event) → callers ≡ files + 1 → all ≡ passes
    → Closed callers all brought left → Closed (files + 1) passes brought left
closed_so callers files all passes brought left count is closed =
    subst (λ n. Closed n passes brought left) count (subst (λ ps. Closed callers ps brought left) is closed)

-- what an object of this origin replies
abbrev pub replies_of : Limits → ℕ → List Event → List Entry → BatchReply → List Event → Type 0
replies_of limits run before batch reply added = IsCommit (record { limits = limits; run = run }) before batch reply added

module _ {O S : Type 0} (before : List Entry) (mark : Option (List Entry)) (limits : Limits) (run : ℕ) (lock : Lock O) (passes : List (Pass O Event))
    (files : List (InputFile S)) (over : IsLockOver before mark limits run (length files) lock passes) (can : CanBeLoaded files) where
  starts : passes ≡ map (start_of lock before) (range_with_len 0 (length files))
  starts = over.passes_are ∙ ap (λ m. first_passes lock (events before m) (length files)) over.whole

  -- there are as many passes as files
  pub many_passes : length passes ≡ length files
  many_passes = ap (length {A = Pass O Event}) starts ∙ length-map-range_with_len (start_of lock before) 0 (length files)

  ready : (k : ℕ) (code : List ℕ) → IsTrue (is_code code) → CanLoad lock (start_of lock before k) code
  ready k code proper = record {
    turns = record { own = (refl, refl); seen = items_by-other (Some k) None (events before None) refl; room = omega arith };
    proper = proper;
  }

  module _ {C R Q A : Type 0} (places : List (Option (FileTask O S Event C R Q A))) (dealt : places ≡ at_places (tasks_from 0 passes files)) where
    places_are : places ≡ at_places (tasks_at (start_of lock before) 0 files)
    places_are = dealt ∙ ap (λ ps. at_places (tasks_from 0 ps files)) starts

    pub many_places : length places ≡ length files
    many_places = tasks_count (start_of lock before) 0 files places places_are

    pub can_load : All (HasTask (λ (t : FileTask O S Event C R Q A). CanLoad lock t.pass t.file.code)) places
    can_load =
        All-from_recursion (HasTask (λ (t : FileTask O S Event C R Q A). CanLoad lock t.pass t.file.code)) places
        (tasks_can (start_of lock before) lock ready 0 files (recursion_from_All (λ (f : InputFile S). IsTrue (is_code f.code)) files can.proper) places places_are)

    module _ (left : S → Option (List ℕ)) (bound faults : S → ℕ) (after : List (Option (FileTask O S Event C R Q A)))
        (each : Each (LoadsTask (replies_of limits run) left bound faults) places after)
        (back : List (InputFile S)) (passes_now : List (Pass O Event)) (results : List FileResult)
        (back_are : back ≡ map (λ (t : FileTask O S Event C R Q A). t.file) (tasks_in after)) (passes_are : passes_now ≡ map (λ (t : FileTask O S Event C R Q A). t.pass) (tasks_in after))
        (results_are : results ≡ results_of (tasks_in after)) where
      turned_so : (k : ℕ) (f : InputFile S) (t : FileTask O S Event C R Q A) → LoadsTask (replies_of limits run) left bound faults (task_of k (start_of lock before k) f) t
          → HasResult (Did limits lock before left bound faults k f t.pass t.file) t.result
      turned_so k f t did = record {
        result = did.result;
        told = did.told;
        is = record {
          loads = did.loads (origin_of limits before) (λ events_before batch reply added is.
              subst (λ n. IsCommit (record { limits = limits; run = n }) events_before batch reply added) over.run_is is);
          same = did.pass.same;
          code = did.code;
          faults_are = did.faults_are;
        };
      }

      did : AllDid (DidSo limits lock before left bound faults) 0 files passes_now back results
      did =
          subst (λ ps. AllDid (DidSo limits lock before left bound faults) 0 files ps back results) (sym passes_are)
          (subst (λ bs. AllDid (DidSo limits lock before left bound faults) 0 files (map (λ (t : FileTask O S Event C R Q A). t.pass) (tasks_in after)) bs results) (sym back_are)
          (subst (AllDid (DidSo limits lock before left bound faults) 0 files (map (λ (t : FileTask O S Event C R Q A). t.pass) (tasks_in after)) (map (λ (t : FileTask O S Event C R Q A). t.file) (tasks_in after))) (sym results_are)
          (all_did (start_of lock before) (LoadsTask (replies_of limits run) left bound faults) (DidSo limits lock before left bound faults) turned_so 0 files places after places_are each)))

      pub own_passes : All (IsPassOf lock) passes_now
      own_passes = all_own limits lock before left bound faults files passes_now back results did

      pub all_passes : length passes_now ≡ length files
      all_passes = as_many (DidSo limits lock before left bound faults) 0 files passes_now back results did

      pub loaded_under : (entries : List Entry) (mark_now : Option (List Entry)) (callers : ℕ) → callers ≡ length files
          → Closed callers passes_now (events before mark) (events entries mark_now) → length (marked mark_now) ≤ 32
          → AreLoaded left faults limits before files back results entries mark_now
      loaded_under entries mark_now callers same closed few =
          are_loaded limits lock before left bound faults (length files) files passes_now back results did entries mark_now
          (subst (λ m. Closed (length files) passes_now (events before m) (events entries mark_now)) over.whole
          (subst (λ n. Closed n passes_now (events before mark) (events entries mark_now)) same closed))
          can.some refl few

-- what was loaded, of the same things by other names
pub loaded_so : {S : Type 0} (left : S → Option (List ℕ)) (faults : S → ℕ) (limits limits' : Limits) (before before' : List Entry) (files back back' : List (InputFile S))
    (results results' : Result (List FileResult) NoMemory) (after after' : List Entry) (mark mark' : Option (List Entry))
    → limits' ≡ limits → before' ≡ before → back' ≡ back → results' ≡ results → after' ≡ after → mark' ≡ mark
    → IfOk results (λ rs. AreLoaded left faults limits before files back rs after mark) → IfOk results' (λ rs. AreLoaded left faults limits' before' files back' rs after' mark')
loaded_so left faults l l' b b' files k k' r r' a a' m m' same_limits same_before same_back same_results same_after same_mark loaded =
    subst (λ x. IfOk r' (λ rs. AreLoaded left faults x b' files k' rs a' m')) (sym same_limits)
    (subst (λ x. IfOk r' (λ rs. AreLoaded left faults l x files k' rs a' m')) (sym same_before)
    (subst (λ x. IfOk r' (λ rs. AreLoaded left faults l b files x rs a' m')) (sym same_back)
    (subst (λ x. IfOk x (λ rs. AreLoaded left faults l b files k rs a' m')) (sym same_results)
    (subst (λ x. IfOk r (λ rs. AreLoaded left faults l b files k rs x m')) (sym same_after)
    (subst (λ x. IfOk r (λ rs. AreLoaded left faults l b files k rs a x)) (sym same_mark) loaded)))))
