-- Tasks that are made of files and passes, and what became of them.
use Rattle.std.proofs.Common.{◌≡◌, ◌≢◌, ◌∙◌, ℕ, zero, suc, ◌+◌, ◌<◌, List, [], ◌∷◌, ◌++◌, map, length, append_assoc, append-nil, refl, sym, ap, subst, arith}
use Rattle.std.specs.Prelude.{slice_get, slice_index_or, take, drop, All, Option, Some, None, IsTrue}
use Rattle.std.specs.List.{AllByRecursion, range_with_len}
use Rattle.std.specs.Option.{option_to_list}
use Rattle.std.proofs.lemmas.List.{drop_all, take_all}
use Rattle.std.proofs.lemmas.List.Elements.{All-from_recursion, recursion_from_All}
use Rattle.marc_types.specs.Valid.{is_code}
use Rattle.entry_history.specs.declared.event.Event.{Event}
use Rattle.catalogue_lock.specs.Passes.{Lock, Pass}
use Rattle.loader_workers.specs.SideBySide.{CanLoad, HasTask, IsDone, Each, NoTask, NextTask}
use Rattle.loader_workers.specs.Tasks.{task_of, tasks_from, tasks_in, results_of}
use Rattle.loader_workers.specs.declared.input.InputFile.{InputFile}
use Rattle.loader_workers.specs.declared.result.FileResult.{FileResult}
use Rattle.loader_workers.specs.declared.task.FileTask.{FileTask}

module _ {X : Type 0} (P : X → Type 0) where
  pub all_at : (xs : List X) (k : ℕ) (x : X) → AllByRecursion P xs → slice_get xs k ≡ Some x → P x
  all_at [] k x all there = absurd (cc there)
  all_at (y ∷ xs) zero x all there = let same : y ≡ x = cc there in subst P same all.0
  all_at (y ∷ xs) (suc k) x all there = all_at xs k x all.1 there

  pub all_of : (xs : List X) → ((k : ℕ) (x : X) → slice_get xs k ≡ Some x → P x) → AllByRecursion P xs
  all_of [] each = tt
  all_of (x ∷ xs) each = (each zero x refl, all_of xs (λ k y there. each (suc k) y there))

pub none_left : {X : Type 0} (xs : List X) (n : ℕ) → n ≡ length xs → n ≡ 0 → xs ≡ []
none_left [] n same none = refl
none_left (x ∷ xs) n same none = absurd (omega (arith, same, none))

-- what was written to a list's elements is the list
pub written_back : {X : Type 0} (after before read : List X) (n : ℕ) → length after ≡ length read → read ≡ before → n ≡ length before
    → take n (after ++ drop (length after) before) ≡ after
written_back {X} after before read n len same is =
    let whole : length after ≡ length before = len ∙ ap (length {A = X}) same in
    ap (λ l. take n (after ++ l)) (drop_all (length after) before (omega arith)) ∙ (ap (take n) (append-nil after) ∙ take_all n after (omega arith))

module _ {J : Type 0} where
  -- what was done at each place
  pub each_of : (Did : J → J → Type 0) (before after : List (Option J)) → length after ≡ length before
      → ((k : ℕ) (d : Option J) → k < length before → IsDone Did (slice_index_or before k d) (slice_index_or after k d)) → Each Did before after
  each_of Did [] [] len done = NoTask
  each_of Did [] (y ∷ after) len done = absurd (omega arith)
  each_of Did (x ∷ before) [] len done = absurd (omega arith)
  each_of Did (x ∷ before) (y ∷ after) len done =
      let at : IsDone Did x y = done 0 x (omega arith) in
      let rest = each_of Did before after (omega arith) (λ k d within. done (suc k) d (omega arith)) in
      subst (λ place. Each Did (place ∷ before) (y ∷ after)) (sym at.was)
      (subst (λ place. Each Did (Some at.task ∷ before) (place ∷ after)) (sym at.is) (NextTask before after at.task at.new at.did rest))

  pub done_at : (Did : J → J → Type 0) (x y a b : Option J) → a ≡ x → b ≡ y → IsDone Did a b → IsDone Did x y
  done_at Did x y a b before after done = subst (λ place. IsDone Did place y) before (subst (λ place. IsDone Did a place) after done)

  -- what is at the places of a list, is so where that is read
  pub same_places : (Is : J → Type 0) (places read : List (Option J)) → All (HasTask Is) places → read ≡ places → All (HasTask Is) read
  same_places Is places read all same = subst (All (HasTask Is)) (sym same) all

  pub each_count : (Did : J → J → Type 0) (before after : List (Option J)) → Each Did before after → length after ≡ length before
  each_count Did _ _ NoTask = refl
  each_count Did _ _ (NextTask before after task new did rest) = omega (arith, each_count Did before after rest)

  -- what was done where a list is read, is done in the list once it is written back
  pub each_all : (Did : J → J → Type 0) (places read after : List (Option J)) (n : ℕ) → read ≡ places → Each Did read after → n ≡ length places
      → Each Did places (take n (after ++ drop (length after) places))
  each_all Did places read after n same each is =
      subst (Each Did places) (sym (written_back after places read n (each_count Did read after each) same is))
      (subst (λ l. Each Did l after) same each)

  -- what holds of each task that was done
  pub each_so : (Did : J → J → Type 0) (Is : J → Type 0) → ((old new : J) → Did old new → Is new) → (before after : List (Option J)) → Each Did before after
      → All (HasTask Is) after
  each_so Did Is so before after each = All-from_recursion (HasTask Is) after (at before after each)
    where
      at : (before after : List (Option J)) → Each Did before after → AllByRecursion (HasTask Is) after
      at _ _ NoTask = tt
      at _ _ (NextTask before after task new did rest) = (record { task = new; there = refl; is = so task new did }, at before after rest)

  -- the first of such tasks, and those behind it
  first_has : (Is : J → Type 0) (places rest : List (Option J)) (place : Option J) → places ≡ place ∷ rest → All (HasTask Is) places → HasTask Is place
  first_has Is places rest place is all = (recursion_from_All (HasTask Is) (place ∷ rest) (subst (All (HasTask Is)) is all)).0

  pub first_there : (Is : J → Type 0) (places rest : List (Option J)) (place : Option J) → places ≡ place ∷ rest → All (HasTask Is) places → place ≢ None
  first_there Is places rest place is all none = absurd (cc (sym none ∙ (first_has Is places rest place is all).there))

  pub first_of : (Is : J → Type 0) (places rest : List (Option J)) (place : Option J) (task : J) → places ≡ place ∷ rest → All (HasTask Is) places → place ≡ Some task
      → Is task
  first_of Is places rest place task is all there =
      let first = first_has Is places rest place is all in
      let same : first.task ≡ task = cc (sym first.there ∙ there) in
      subst Is same first.is

  pub others_of : (Is : J → Type 0) (places rest : List (Option J)) (place : Option J) → places ≡ place ∷ rest → All (HasTask Is) places → All (HasTask Is) rest
  others_of Is places rest place is all = All-from_recursion (HasTask Is) rest (recursion_from_All (HasTask Is) (place ∷ rest) (subst (All (HasTask Is)) is all)).1

module _ {O S E C R Q A : Type 0} where
  abbrev pub at_places : List (FileTask O S E C R Q A) → List (Option (FileTask O S E C R Q A))
  at_places tasks = map Some tasks

  -- no task is made yet
  pub dealt_none : (n : ℕ) (passes passes' : List (Pass O E)) (files files' : List (InputFile S)) (places : List (Option (FileTask O S E C R Q A)))
      → places ≡ [] → n ≡ 0 → passes' ≡ passes → files' ≡ files → places ++ at_places (tasks_from n passes' files') ≡ at_places (tasks_from 0 passes files)
  dealt_none n passes passes' files files' places none first same same_files =
      ap (λ l. l ++ at_places (tasks_from n passes' files')) none
      ∙ (ap (λ m. at_places (tasks_from m passes' files')) first
      ∙ (ap (λ ps. at_places (tasks_from 0 ps files')) same ∙ ap (λ fs. at_places (tasks_from 0 passes fs)) same_files))

  -- one more task is made, of the next file and pass
  pub dealt_one : (n n' : ℕ) (passes passes' : List (Pass O E)) (files files' : List (InputFile S)) (places places' all : List (Option (FileTask O S E C R Q A)))
      (pass : Pass O E) (file : InputFile S) → places ++ at_places (tasks_from n passes files) ≡ all → passes ≡ pass ∷ passes' → files ≡ file ∷ files'
      → places' ≡ places ++ Some (task_of n pass file) ∷ [] → n' ≡ n + 1 → places' ++ at_places (tasks_from n' passes' files') ≡ all
  dealt_one n n' passes passes' files files' places places' all pass file so_far next next_file pushed more =
      ap (λ l. l ++ at_places (tasks_from n' passes' files')) pushed
      ∙ (ap (λ m. (places ++ Some (task_of n pass file) ∷ []) ++ at_places (tasks_from m passes' files')) more
      ∙ (append_assoc places (Some (task_of n pass file) ∷ []) (at_places (tasks_from (n + 1) passes' files'))
      ∙ (sym (ap (λ ps. places ++ at_places (tasks_from n ps files)) next ∙ ap (λ fs. places ++ at_places (tasks_from n (pass ∷ passes') fs)) next_file) ∙ so_far)))

  tasks_none : (n : ℕ) (passes : List (Pass O E)) → at_places (tasks_from n passes []) ≡ []
  tasks_none n [] = refl
  tasks_none n (pass ∷ passes) = refl

  -- no file is left
  pub dealt_all : (n : ℕ) (passes : List (Pass O E)) (files : List (InputFile S)) (places all : List (Option (FileTask O S E C R Q A)))
      → places ++ at_places (tasks_from n passes files) ≡ all → files ≡ [] → places ≡ all
  dealt_all n passes files places all so_far none =
      sym (append-nil places) ∙ (sym (ap (λ l. places ++ l) (ap (λ fs. at_places (tasks_from n passes fs)) none ∙ tasks_none n passes)) ∙ so_far)

  -- no task is taken yet
  pub taken_none : {Y : Type 0} (f : FileTask O S E C R Q A → Y) (all left : List (Option (FileTask O S E C R Q A))) (taken : List Y)
      → left ≡ all → taken ≡ [] → map f (tasks_in all) ≡ taken ++ map f (tasks_in left)
  taken_none f all left taken same none = sym (ap (λ l. l ++ map f (tasks_in left)) none ∙ ap (λ l. map f (tasks_in l)) same)

  pub told_none : (all left : List (Option (FileTask O S E C R Q A))) (taken : List FileResult)
      → left ≡ all → taken ≡ [] → results_of (tasks_in all) ≡ taken ++ results_of (tasks_in left)
  told_none all left taken same none = sym (ap (λ l. l ++ results_of (tasks_in left)) none ∙ ap (λ l. results_of (tasks_in l)) same)

  -- the task at the next place is taken, and a part of it put behind those taken before
  pub taken_one : {Y : Type 0} (f : FileTask O S E C R Q A → Y) (all left left' : List (Option (FileTask O S E C R Q A))) (taken taken' : List Y) (place : Option (FileTask O S E C R Q A))
      (task : FileTask O S E C R Q A) → map f (tasks_in all) ≡ taken ++ map f (tasks_in left) → left ≡ place ∷ left' → place ≡ Some task
      → taken' ≡ taken ++ f task ∷ [] → map f (tasks_in all) ≡ taken' ++ map f (tasks_in left')
  taken_one f all left left' taken taken' place task so_far next is pushed =
      so_far ∙ (ap (λ l. taken ++ map f (tasks_in l)) (next ∙ ap (λ p. p ∷ left') is)
      ∙ (sym (append_assoc taken (f task ∷ []) (map f (tasks_in left'))) ∙ ap (λ l. l ++ map f (tasks_in left')) (sym pushed)))

  pub told_one : (all left left' : List (Option (FileTask O S E C R Q A))) (taken taken' : List FileResult) (place : Option (FileTask O S E C R Q A))
      (task : FileTask O S E C R Q A) (result : FileResult) → results_of (tasks_in all) ≡ taken ++ results_of (tasks_in left) → left ≡ place ∷ left' → place ≡ Some task
      → task.result ≡ Some result → taken' ≡ taken ++ result ∷ [] → results_of (tasks_in all) ≡ taken' ++ results_of (tasks_in left')
  told_one all left left' taken taken' place task result so_far next is told pushed =
      so_far ∙ (ap (λ l. taken ++ results_of (tasks_in l)) (next ∙ ap (λ p. p ∷ left') is)
      ∙ (ap (λ o. taken ++ (option_to_list o ++ results_of (tasks_in left'))) told
      ∙ (sym (append_assoc taken (result ∷ []) (results_of (tasks_in left'))) ∙ ap (λ l. l ++ results_of (tasks_in left')) (sym pushed))))

  pub told_all : (all left : List (Option (FileTask O S E C R Q A))) (taken : List FileResult)
      → results_of (tasks_in all) ≡ taken ++ results_of (tasks_in left) → left ≡ [] → taken ≡ results_of (tasks_in all)
  told_all all left taken so_far none = sym (so_far ∙ (ap (λ l. taken ++ results_of (tasks_in l)) none ∙ append-nil taken))

  pub taken_all : {Y : Type 0} (f : FileTask O S E C R Q A → Y) (all left : List (Option (FileTask O S E C R Q A))) (taken : List Y)
      → map f (tasks_in all) ≡ taken ++ map f (tasks_in left) → left ≡ [] → taken ≡ map f (tasks_in all)
  taken_all f all left taken so_far none = sym (so_far ∙ (ap (λ l. taken ++ map f (tasks_in l)) none ∙ append-nil taken))

  -- the same behind what was there
  pub behind_none : {Y : Type 0} (f : FileTask O S E C R Q A → Y) (all left : List (Option (FileTask O S E C R Q A))) (given : List Y)
      → left ≡ all → given ++ map f (tasks_in all) ≡ given ++ map f (tasks_in left)
  behind_none f all left given same = ap (λ l. given ++ map f (tasks_in l)) (sym same)

  pub behind_one : {Y : Type 0} (f : FileTask O S E C R Q A → Y) (all left left' : List (Option (FileTask O S E C R Q A))) (given taken taken' : List Y)
      (place : Option (FileTask O S E C R Q A)) (task : FileTask O S E C R Q A) → given ++ map f (tasks_in all) ≡ taken ++ map f (tasks_in left) → left ≡ place ∷ left'
      → place ≡ Some task → taken' ≡ taken ++ f task ∷ [] → given ++ map f (tasks_in all) ≡ taken' ++ map f (tasks_in left')
  behind_one f all left left' given taken taken' place task so_far next is pushed =
      so_far ∙ (ap (λ l. taken ++ map f (tasks_in l)) (next ∙ ap (λ p. p ∷ left') is)
      ∙ (sym (append_assoc taken (f task ∷ []) (map f (tasks_in left'))) ∙ ap (λ l. l ++ map f (tasks_in left')) (sym pushed)))

  pub behind_all : {Y : Type 0} (f : FileTask O S E C R Q A → Y) (all left : List (Option (FileTask O S E C R Q A))) (given taken : List Y)
      → given ++ map f (tasks_in all) ≡ taken ++ map f (tasks_in left) → left ≡ [] → taken ≡ given ++ map f (tasks_in all)
  behind_all f all left given taken so_far none = sym (so_far ∙ (ap (λ l. taken ++ map f (tasks_in l)) none ∙ append-nil taken))

-- there is such a result
pub record HasResult (Is : FileResult → Type 0) (answer : Option FileResult) : Type 0 where
  pub result : FileResult
  pub told : answer ≡ Some result
  pub is : Is result

module _ {O S : Type 0} where
  -- What became of each file, the first with this number: its pass at the end, itself as it came back, and its result
  pub data AllDid (Did : ℕ → InputFile S → Pass O Event → InputFile S → FileResult → Type 0) : (loader : ℕ) → List (InputFile S) → List (Pass O Event) → List (InputFile S) → List FileResult → Type 0 where
    NoneDid : (loader : ℕ) → AllDid Did loader [] [] [] []
    OneDid : (loader : ℕ) (fs : List (InputFile S)) (ps : List (Pass O Event)) (bs : List (InputFile S)) (rs : List FileResult) (f : InputFile S) (p : Pass O Event) (a : InputFile S) (r : FileResult)
        → Did loader f p a r → AllDid Did (loader + 1) fs ps bs rs → AllDid Did loader (f ∷ fs) (p ∷ ps) (a ∷ bs) (r ∷ rs)

  one_did : (Did : ℕ → InputFile S → Pass O Event → InputFile S → FileResult → Type 0) (loader : ℕ) (fs : List (InputFile S)) (ps : List (Pass O Event)) (bs : List (InputFile S))
      (rs : List FileResult) (f : InputFile S) (p : Pass O Event) (a : InputFile S) (answer : Option FileResult) → HasResult (Did loader f p a) answer → AllDid Did (loader + 1) fs ps bs rs
      → AllDid Did loader (f ∷ fs) (p ∷ ps) (a ∷ bs) (option_to_list answer ++ rs)
  one_did Did loader fs ps bs rs f p a answer has rest =
      subst (λ o. AllDid Did loader (f ∷ fs) (p ∷ ps) (a ∷ bs) (option_to_list o ++ rs)) (sym has.told) (OneDid loader fs ps bs rs f p a has.result has.is rest)

module _ {O S C R Q A : Type 0} (start : ℕ → Pass O Event) where
  -- the tasks of files with the passes from a place on
  abbrev pub tasks_at : ℕ → List (InputFile S) → List (FileTask O S Event C R Q A)
  tasks_at loader files = tasks_from loader (map start (range_with_len loader (length files))) files

  -- each can be done, where each pass is ready and each code proper
  pub tasks_can : (lock : Lock O) → ((k : ℕ) (code : List ℕ) → IsTrue (is_code code) → CanLoad lock (start k) code) → (loader : ℕ) (files : List (InputFile S))
      → AllByRecursion (λ (f : InputFile S). IsTrue (is_code f.code)) files
      → (places : List (Option (FileTask O S Event C R Q A))) → places ≡ at_places (tasks_at loader files)
      → AllByRecursion (HasTask (λ (t : FileTask O S Event C R Q A). CanLoad lock t.pass t.file.code)) places
  tasks_can lock ready loader [] proper places is =
      subst (AllByRecursion (HasTask (λ (t : FileTask O S Event C R Q A). CanLoad lock t.pass t.file.code))) (sym is) tt
  tasks_can lock ready loader (f ∷ files) proper places is =
      subst (AllByRecursion (HasTask (λ (t : FileTask O S Event C R Q A). CanLoad lock t.pass t.file.code))) (sym is) (
        record { task = task_of loader (start loader) f; there = refl; is = ready loader f.code proper.0 },
        tasks_can lock ready (loader + 1) files proper.1 (at_places (tasks_at (loader + 1) files)) refl,
      )

  pub tasks_count : (loader : ℕ) (files : List (InputFile S)) (places : List (Option (FileTask O S Event C R Q A))) → places ≡ at_places (tasks_at loader files)
      → length places ≡ length files
  tasks_count loader [] places is = ap (length {A = Option (FileTask O S Event C R Q A)}) is
  tasks_count loader (f ∷ files) places is =
      ap (length {A = Option (FileTask O S Event C R Q A)}) is ∙ ap suc (tasks_count (loader + 1) files (at_places (tasks_at (loader + 1) files)) refl)

  -- what was done of each task, of its file
  pub all_did : (TaskDid : FileTask O S Event C R Q A → FileTask O S Event C R Q A → Type 0) (Did : ℕ → InputFile S → Pass O Event → InputFile S → FileResult → Type 0)
      → ((k : ℕ) (f : InputFile S) (t : FileTask O S Event C R Q A) → TaskDid (task_of k (start k) f) t → HasResult (Did k f t.pass t.file) t.result)
      → (loader : ℕ) (files : List (InputFile S)) (before after : List (Option (FileTask O S Event C R Q A))) → before ≡ at_places (tasks_at loader files)
      → Each TaskDid before after
      → AllDid Did loader files (map (λ (t : FileTask O S Event C R Q A). t.pass) (tasks_in after)) (map (λ (t : FileTask O S Event C R Q A). t.file) (tasks_in after))
      (results_of (tasks_in after))
  all_did TaskDid Did turns loader [] _ _ is NoTask = NoneDid loader
  all_did TaskDid Did turns loader [] _ _ is (NextTask before after task new did rest) = absurd (cc is)
  all_did TaskDid Did turns loader (f ∷ files) _ _ is NoTask = absurd (cc is)
  all_did TaskDid Did turns loader (f ∷ files) _ _ is (NextTask before after task new did rest) =
      let first : task ≡ task_of loader (start loader) f = cc is in
      let others : before ≡ at_places (tasks_at (loader + 1) files) = cc is in
      one_did Did loader files _ _ _ f new.pass new.file new.result (turns loader f new (subst (λ (t : FileTask O S Event C R Q A). TaskDid t new) first did))
      (all_did TaskDid Did turns (loader + 1) files before after others rest)
