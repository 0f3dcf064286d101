-- What loading the files of libraries comes to, from what it does of their inputs.
use Rattle.std.proofs.Common.{◌≡◌, ◌≢◌, ℕ, ◌+◌, ◌<◌, suc, zero, Bool, true, false, ◌||◌, List, [], ◌∷◌, ◌++◌, length, slice_get, Option, Some, None, IsSome, is_some, refl, sym, ap, subst, ◌∙◌, arith}
use Rattle.std.specs.Prelude.{All}
use Rattle.std.proofs.lemmas.List.Elements.{All-nil, All-cons, All-head, All-tail}
use Rattle.marc_types.specs.declared.entry.Entry.{Entry}
use Rattle.marc_types.specs.declared.entry.Limits.{Limits}
use Rattle.outside.specs.Fault.{Rose}
use Rattle.outside.specs.Room.{RoomView}
use Rattle.command_words.specs.declared.library.Library.{Library}
use Rattle.loader_workers.specs.declared.file_end.FileEnd.{FileEnd}
use Rattle.loader_workers.specs.declared.file_end.FileEnd.TheVariants as end
use Rattle.loader_workers.specs.declared.result.FileResult.{FileResult}
use Rattle.loader_workers.specs.declared.input.InputFile.{InputFile}
use Rattle.loader_workers.specs.Files.{LoadsFile, EachLoaded, NoFile, OneMore}
use Rattle.journal_files.specs.Journals.{journal_limits}
use Rattle.file_entries.specs.Files.{IsJudged}
use Rattle.loading_commands.specs.Inputs.{IsInputOf, AreInputs, NoInput, OneInput, IsFresh, lefts_of_inputs}
use Rattle.loading_commands.specs.Outcomes.{IsLibraryLoaded, AreLibrariesLoaded, NoLibrary, OneLibrary, AreReadTo, ends_so, any_ends}

pub there_is : (o : Option (List ℕ)) → IsSome o → (b : List ℕ) × (o ≡ Some b)
there_is None is = cc
there_is (Some b) is = (b, refl)

-- the input of some file had a fault
pub record HadFault {S : Type 0} (faults : S → ℕ) (inputs : List (InputFile S)) : Type 0 where
  pub index : ℕ
  pub input : InputFile S
  pub within : index < length inputs
  pub is : slice_get inputs index ≡ Some input
  pub rose : Rose 0 (faults input.source)

-- whether the first of some results ends so decides, or the others do
ends_behind : (is e : FileEnd) (results : List FileResult) (r : FileResult) (b : Bool) → r.end ≡ e → any_ends is (r ∷ results) ≡ b → ends_so is e || any_ends is results ≡ b
ends_behind is e results r b at any = sym (ap (λ x. ends_so is x || any_ends is results) at) ∙ any

module _ {S : Type 0} (left : S → Option (List ℕ)) (faults : S → ℕ) (room : RoomView) where
  pub inputs_count : (libraries : List Library) (inputs : List (InputFile S)) → AreInputs left room libraries inputs → length inputs ≡ length libraries
  inputs_count _ _ NoInput = refl
  inputs_count _ _ (OneInput ls is l i one are) = ap suc (inputs_count ls is are)

  module _ (before added : List Entry) (mark : Option (List Entry)) where
    unfoldable pub library_loaded : (loader : ℕ) (library : Library) (old new : InputFile S) (result : FileResult) → room.tells ≡ true → IsInputOf left room library old
        → LoadsFile left faults (journal_limits room) before added mark loader old new result → IsLibraryLoaded room before added mark library loader result
    library_loaded loader library old new result tells is did =
        let there = there_is (room.file library.file) (is.there tells) in
        let told = is.bytes tells ∙ there.1 in
        record {
          bytes = there.0;
          there = there.1;
          loaded = let d = did.loaded there.0 told in record {
            done = d.done;
            coming = d.coming;
            front = d.front;
            next = d.next;
            more = d.more;
            split = d.split;
            judged = subst (λ code. IsJudged code loader d.done (d.front ++ d.next ++ d.more) result.refused) is.code d.judged;
            committed_are = d.committed_are;
            marked_are = d.marked_are;
            accepted = d.accepted;
            sums = d.sums;
            ends = d.ends;
          };
        }

    -- each library's file was loaded
    unfoldable pub libraries_loaded : (loader : ℕ) (libraries : List Library) (old new : List (InputFile S)) (results : List FileResult) → room.tells ≡ true
        → AreInputs left room libraries old → EachLoaded left faults (journal_limits room) before added mark loader old new results
        → AreLibrariesLoaded room before added mark loader libraries results
    libraries_loaded _ _ _ _ _ tells NoInput (NoFile loader) = NoLibrary loader
    libraries_loaded _ _ _ _ _ tells (OneInput ls is l i one are) (OneMore loader fs bs rs o n r did each) =
        OneLibrary loader ls rs l r (library_loaded loader l i n r tells one did) (libraries_loaded (loader + 1) ls is bs rs tells are each)

    -- and was read as far as its input gave it
    pub libraries_read : (loader : ℕ) (libraries : List Library) (old new : List (InputFile S)) (results : List FileResult) (tells : room.tells ≡ true)
        → (are : AreInputs left room libraries old) → (each : EachLoaded left faults (journal_limits room) before added mark loader old new results)
        → AreReadTo (libraries_loaded loader libraries old new results tells are each) (lefts_of_inputs left new)
    unfolding libraries_loaded library_loaded
    libraries_read _ _ _ _ _ tells NoInput (NoFile loader) = tt
    libraries_read _ _ _ _ _ tells (OneInput ls is l i one are) (OneMore loader fs bs rs o n r did each) =
        let there = there_is (room.file l.file) (one.there tells) in
        (did.read_to there.0 (one.bytes tells ∙ there.1), libraries_read (loader + 1) ls is bs rs tells are each)

  module _ (limits : Limits) (before added : List Entry) (mark : Option (List Entry)) where
    fault_here : (loader : ℕ) (o n : InputFile S) (r : FileResult) (bs : List (InputFile S)) (rs : List FileResult) → LoadsFile left faults limits before added mark loader o n r
        → IsFresh faults o → (any_ends end.ReadFault rs ≡ true → HadFault faults bs) → any_ends end.ReadFault (r ∷ rs) ≡ true → HadFault faults (n ∷ bs)
    fault_here loader o n r bs rs did fresh later any = decided r.end refl
      where
        behind : any_ends end.ReadFault rs ≡ true → HadFault faults (n ∷ bs)
        behind more = let had = later more in record {
          index = suc had.index;
          input = had.input;
          within = let less = had.within in omega (arith, less);
          is = had.is;
          rose = had.rose;
        }

        decided : (e : FileEnd) → r.end ≡ e → HadFault faults (n ∷ bs)
        decided end.ReadFault is = record {
          index = 0;
          input = n;
          within = omega arith;
          is = refl;
          rose = subst (λ was. Rose was (faults n.source)) fresh.faultless (did.cause is);
        }
        decided end.Done is = behind (ends_behind end.ReadFault end.Done rs r true is any)
        decided end.Full is = behind (ends_behind end.ReadFault end.Full rs r true is any)
        decided end.DeviceFault is = behind (ends_behind end.ReadFault end.DeviceFault rs r true is any)
        decided end.NoMemory is = behind (ends_behind end.ReadFault end.NoMemory rs r true is any)

    -- where a source failed, its count rose
    pub had_fault : (loader : ℕ) (old new : List (InputFile S)) (results : List FileResult) → All (IsFresh faults) old
        → EachLoaded left faults limits before added mark loader old new results → any_ends end.ReadFault results ≡ true → HadFault faults new
    had_fault _ _ _ _ fresh (NoFile loader) any = cc
    had_fault _ _ _ _ fresh (OneMore loader fs bs rs o n r did each) any =
        fault_here loader o n r bs rs did (All-head (IsFresh faults) o fs fresh) (had_fault (loader + 1) fs bs rs (All-tail (IsFresh faults) o fs fresh) each) any

    -- where a file's end is a read fault, its own source failed
    pub each_failed : (loader : ℕ) (old new : List (InputFile S)) (results : List FileResult) → All (IsFresh faults) old
        → EachLoaded left faults limits before added mark loader old new results → (index : ℕ) (result : FileResult) → slice_get results index ≡ Some result
        → result.end ≡ end.ReadFault → (input : InputFile S) × (slice_get new index ≡ Some input) × Rose 0 (faults input.source)
    each_failed _ _ _ _ fresh (NoFile loader) index result at is = cc
    each_failed _ _ _ _ fresh (OneMore loader fs bs rs o n r did each) zero result at is =
        let same : r ≡ result = cc in
        let head = All-head (IsFresh faults) o fs fresh in
        (n, refl, subst (λ was. Rose was (faults n.source)) head.faultless (did.cause (ap (λ (one : FileResult). one.end) same ∙ is)))
    each_failed _ _ _ _ fresh (OneMore loader fs bs rs o n r did each) (suc index) result at is =
        each_failed (loader + 1) fs bs rs (All-tail (IsFresh faults) o fs fresh) each index result at is

    mark_here : (loader : ℕ) (o n : InputFile S) (r : FileResult) (rs : List FileResult) → LoadsFile left faults limits before added mark loader o n r
        → (any_ends end.DeviceFault rs ≡ true → is_some mark ≡ true) → any_ends end.DeviceFault (r ∷ rs) ≡ true → is_some mark ≡ true
    mark_here loader o n r rs did later any = decided r.end refl
      where
        decided : (e : FileEnd) → r.end ≡ e → is_some mark ≡ true
        decided end.DeviceFault is = did.broken is
        decided end.ReadFault is = later (ends_behind end.DeviceFault end.ReadFault rs r true is any)
        decided end.Done is = later (ends_behind end.DeviceFault end.Done rs r true is any)
        decided end.Full is = later (ends_behind end.DeviceFault end.Full rs r true is any)
        decided end.NoMemory is = later (ends_behind end.DeviceFault end.NoMemory rs r true is any)

    -- where a device failed there is a mark
    pub has_mark : (loader : ℕ) (old new : List (InputFile S)) (results : List FileResult) → EachLoaded left faults limits before added mark loader old new results
        → any_ends end.DeviceFault results ≡ true → is_some mark ≡ true
    has_mark _ _ _ _ (NoFile loader) any = cc
    has_mark _ _ _ _ (OneMore loader fs bs rs o n r did each) any = mark_here loader o n r rs did (has_mark (loader + 1) fs bs rs each) any

    -- as many results as files
    pub results_count : (loader : ℕ) (old new : List (InputFile S)) (results : List FileResult) → EachLoaded left faults limits before added mark loader old new results → length results ≡ length old
    results_count _ _ _ _ (NoFile loader) = refl
    results_count _ _ _ _ (OneMore loader fs bs rs o n r did each) = ap suc (results_count (loader + 1) fs bs rs each)

    -- as many inputs come back
    pub after_count : (loader : ℕ) (old new : List (InputFile S)) (results : List FileResult) → EachLoaded left faults limits before added mark loader old new results → length new ≡ length old
    after_count _ _ _ _ (NoFile loader) = refl
    after_count _ _ _ _ (OneMore loader fs bs rs o n r did each) = ap suc (after_count (loader + 1) fs bs rs each)

other_here : (r : FileResult) (rs : List FileResult) → (any_ends end.DeviceFault rs ≡ false → All (λ (r : FileResult). r.end ≢ end.DeviceFault) rs) → any_ends end.DeviceFault (r ∷ rs) ≡ false
    → All (λ (r : FileResult). r.end ≢ end.DeviceFault) (r ∷ rs)
other_here r rs later none = decided r.end refl
  where
    behind : r.end ≢ end.DeviceFault → any_ends end.DeviceFault rs ≡ false → All (λ (r : FileResult). r.end ≢ end.DeviceFault) (r ∷ rs)
    behind other more = All-cons (λ (r : FileResult). r.end ≢ end.DeviceFault) r rs other (later more)

    decided : (e : FileEnd) → r.end ≡ e → All (λ (r : FileResult). r.end ≢ end.DeviceFault) (r ∷ rs)
    decided end.DeviceFault is = let no = ends_behind end.DeviceFault end.DeviceFault rs r false is none in cc
    decided end.ReadFault is = behind (λ same. let no = sym is ∙ same in cc) (ends_behind end.DeviceFault end.ReadFault rs r false is none)
    decided end.Done is = behind (λ same. let no = sym is ∙ same in cc) (ends_behind end.DeviceFault end.Done rs r false is none)
    decided end.Full is = behind (λ same. let no = sym is ∙ same in cc) (ends_behind end.DeviceFault end.Full rs r false is none)
    decided end.NoMemory is = behind (λ same. let no = sym is ∙ same in cc) (ends_behind end.DeviceFault end.NoMemory rs r false is none)

-- no result is a device's fault
pub none_failed : (results : List FileResult) → any_ends end.DeviceFault results ≡ false → All (λ (r : FileResult). r.end ≢ end.DeviceFault) results
none_failed [] none = All-nil (λ (r : FileResult). r.end ≢ end.DeviceFault)
none_failed (r ∷ results) none = other_here r results (none_failed results) none
