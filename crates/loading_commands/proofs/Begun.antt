-- Why loading didn't begin, or ended in part; and that it ended whole.
use Rattle.std.proofs.Common.{◌≡◌, ◌≢◌, ◌⊎◌, inl, inr, ℕ, ◌<◌, List, ◌++◌, length, map, Option, Some, None, Bool, true, false, IfSome, Result, Ok, Err, IfOk, IfErr, OnOk, OnErr, refl, sym, ap, subst, ◌∙◌, arith}
use Rattle.std.specs.Prelude.{is_some, All, if◌then◌else◌}
use Rattle.marc_types.specs.declared.entry.Entry.{Entry}
use Rattle.marc_types.specs.declared.entry.Limits.{Limits}
use Rattle.marc_types.specs.declared.copying.NoMemory.{NoMemory}
use Rattle.outside.specs.Room.{RoomView}
use Rattle.entry_record.specs.History.{IsWithin}
use Rattle.command_words.specs.declared.library.Library.{Library}
use Rattle.console_lines.specs.declared.fault.Fault.{Fault}
use Rattle.console_lines.specs.declared.fault.Fault.TheVariants as fault
use Rattle.durable_catalogue.specs.Durables.{Opening, marked}
use Rattle.durable_catalogue.specs.declared.fault.OpenFault.{OpenFault}
use Rattle.durable_catalogue.specs.declared.fault.OpenFault.TheVariants as opening
use Rattle.loader_workers.specs.declared.file_end.FileEnd.TheVariants as end
use Rattle.loader_workers.specs.declared.result.FileResult.{FileResult}
use Rattle.loader_workers.specs.declared.input.InputFile.{InputFile}
use Rattle.loader_workers.specs.Files.{EachLoaded, AreOfOneFile, AreLoaded}
use Rattle.journal_files.specs.Faults.{fault_of_opening}
use Rattle.journal_files.specs.Journals.{journal_limits, IsOpenedFrom, IsClosedTo}
use Rattle.loading_commands.specs.Inputs.{AreInputs, IsFresh, RisesFrom, lefts_of_inputs}
use Rattle.loading_commands.specs.Outcomes.{any_ends, loading_fault, AreLoadedBehind, IsLoadedWhole, AreUnread, IsUnbegun, Unbegun, IsLoadingFault, NotBegun, InPart, IsFinished, IsStopped, Unloaded, Faulty}
use Rattle.loading_commands.proofs.LoadedFiles.{inputs_count, libraries_loaded, libraries_read, none_failed, results_count, after_count, has_mark, had_fault, each_failed, HadFault}
use Rattle.loading_commands.proofs.Opened.{unread, take_all}

-- a fault of opening an input is its own or want of memory
either_fault : (why : Fault) → (why ≢ fault.Input → why ≡ fault.Memory) → (why ≡ fault.Input) ⊎ (why ≡ fault.Memory)
either_fault fault.Input other = inl refl
either_fault fault.Usage other = inr (other (λ is. cc))
either_fault fault.Device other = inr (other (λ is. cc))
either_fault (fault.NotAJournal place) other = inr (other (λ is. cc))
either_fault fault.Full other = inr (other (λ is. cc))
either_fault fault.Memory other = inr refl
either_fault fault.OldVersion other = inr (other (λ is. cc))
either_fault fault.OtherHistory other = inr (other (λ is. cc))

-- the faults of a journal, of inputs and of memory
abbrev IsOfFiles : Fault → Type 0
IsOfFiles fault.Usage = ⊥
IsOfFiles fault.OtherHistory = ⊥
IsOfFiles fault.Input = Unit {0}
IsOfFiles fault.Device = Unit {0}
IsOfFiles (fault.NotAJournal place) = Unit {0}
IsOfFiles fault.Full = Unit {0}
IsOfFiles fault.Memory = Unit {0}
IsOfFiles fault.OldVersion = Unit {0}

opening_is : (of : OpenFault) → IsOfFiles (fault_of_opening of)
opening_is opening.DeviceFault = tt
opening_is (opening.NotAJournal place) = tt
opening_is opening.OldVersion = tt
opening_is opening.Full = tt
opening_is opening.NoMemory = tt

pub opening_usage : (of : OpenFault) → fault_of_opening of ≡ fault.Usage → ⊥
opening_usage of is = subst IsOfFiles is (opening_is of)

pub opening_other_history : (of : OpenFault) → fault_of_opening of ≡ fault.OtherHistory → ⊥
opening_other_history of is = subst IsOfFiles is (opening_is of)

-- a fault of opening inputs is of no other kind
pub no_other : (why kind : Fault) → (why ≢ fault.Input → why ≡ fault.Memory) → kind ≢ fault.Input → kind ≢ fault.Memory → why ≢ kind
no_other why kind other first second is = second (sym is ∙ other (λ input. first (sym is ∙ input)))

-- a journal that was opened, and closed again with the same entries
pub unbegun : (old new : RoomView) (journal : List ℕ) (why : Fault) (before entries : List Entry) (mark was : Option (List Entry)) (o : Opening)
    → old.tells ≡ true → (why ≢ fault.Input → why ≡ fault.Memory) → IsOpenedFrom old journal before was o → entries ≡ before → mark ≡ None
    → (o.tells ≡ true → IsClosedTo new journal entries mark o) → (libraries : List Library) → AreUnread old new libraries → IsUnbegun old new journal libraries why
unbegun old new journal why before entries mark was o tells other opened same none closed libraries unread =
    Unbegun before o (either_fault why other) (subst (λ m. IsOpenedFrom old journal before m o) opened.unmarked opened)
    (subst (λ m. IsClosedTo new journal before m o) none (subst (λ es. IsClosedTo new journal es mark o) same (closed (opened.tells tells)))) unread

-- the fault that decides, by which kinds there are
abbrev first_fault : Bool → Bool → Bool → Bool → Option Fault
first_fault device full input memory =
    if device then Some fault.Device else if full then Some fault.Full else if input then Some fault.Input else if memory then Some fault.Memory else None

no_device : (a b c d : Bool) → first_fault a b c d ≡ None → a ≡ false
no_device false b c d is = refl
no_device true b c d is = cc

device_only : (a b c d : Bool) → first_fault a b c d ≡ Some fault.Device → a ≡ true
device_only true b c d is = refl
device_only false true c d is = cc
device_only false false true d is = cc
device_only false false false true is = cc
device_only false false false false is = cc

input_only : (a b c d : Bool) → first_fault a b c d ≡ Some fault.Input → c ≡ true
input_only true b c d is = cc
input_only false true c d is = cc
input_only false false true d is = refl
input_only false false false true is = cc
input_only false false false false is = cc

-- another fault than a device's
not_first : (a b c d : Bool) (why : Fault) → first_fault a b c d ≡ Some why → why ≢ fault.Device → a ≡ false
not_first false b c d why is other = refl
not_first true b c d why is other = let same : fault.Device ≡ why = cc in absurd (other (sym same))

loading_is : (a b c d : Bool) → IfSome (first_fault a b c d) IsOfFiles
loading_is true b c d = tt
loading_is false true c d = tt
loading_is false false true d = tt
loading_is false false false true = tt
loading_is false false false false = tt

module _ (results : List FileResult) where
  pub device_failed : loading_fault results ≡ Some fault.Device → any_ends end.DeviceFault results ≡ true
  unfolding loading_fault
  device_failed is = device_only (any_ends end.DeviceFault results) (any_ends end.Full results) (any_ends end.ReadFault results) (any_ends end.NoMemory results) is

  pub none_by_a_device : (why : Fault) → loading_fault results ≡ Some why → why ≢ fault.Device → any_ends end.DeviceFault results ≡ false
  unfolding loading_fault
  none_by_a_device why is other =
      not_first (any_ends end.DeviceFault results) (any_ends end.Full results) (any_ends end.ReadFault results) (any_ends end.NoMemory results) why is other

  pub source_failed : loading_fault results ≡ Some fault.Input → any_ends end.ReadFault results ≡ true
  unfolding loading_fault
  source_failed is = input_only (any_ends end.DeviceFault results) (any_ends end.Full results) (any_ends end.ReadFault results) (any_ends end.NoMemory results) is

  is_of_files : IfSome (loading_fault results) IsOfFiles
  unfolding loading_fault
  is_of_files = loading_is (any_ends end.DeviceFault results) (any_ends end.Full results) (any_ends end.ReadFault results) (any_ends end.NoMemory results)

  pub no_usage : loading_fault results ≡ Some fault.Usage → ⊥
  no_usage is = subst (λ o. IfSome o IsOfFiles) is is_of_files

  pub no_other_history : loading_fault results ≡ Some fault.OtherHistory → ⊥
  no_other_history is = subst (λ o. IfSome o IsOfFiles) is is_of_files

  pub none_device : loading_fault results ≡ None → any_ends end.DeviceFault results ≡ false
  unfolding loading_fault
  none_device is = no_device (any_ends end.DeviceFault results) (any_ends end.Full results) (any_ends end.ReadFault results) (any_ends end.NoMemory results) is

module _ {S : Type 0} (left : S → Option (List ℕ)) (faults : S → ℕ) (room : RoomView) (journal : List ℕ) (libraries : List Library) (files after : List (InputFile S))
    (limits : Limits) (before entries : List Entry) (was mark : Option (List Entry)) (o : Opening)
    (tells : room.tells ≡ true) (inputs : AreInputs left room libraries files) (same : limits ≡ journal_limits room) (opened : IsOpenedFrom room journal before was o) where
  opened_none : IsOpenedFrom room journal before None o
  opened_none = subst (λ m. IsOpenedFrom room journal before m o) opened.unmarked opened

  loaded_behind : (results : List FileResult) (l : AreLoaded left faults limits before files after results entries mark) → AreLoadedBehind room libraries before l.added mark results
  loaded_behind results l = record {
    files = libraries_loaded left faults room before l.added mark 0 libraries files after results tells inputs (subst (λ most. EachLoaded left faults most before l.added mark 0 files after results) same l.each);
    loaders = subst (λ n. All (λ (e : Entry). e.loader < n) (l.added ++ marked mark)) (inputs_count left faults room libraries files inputs) l.loaders;
    frame = subst (λ n. AreOfOneFile n (marked mark)) (inputs_count left faults room libraries files inputs) l.frame;
  }

  pub loaded_whole : (results : Result (List FileResult) NoMemory) (are : List FileResult)
      → IfOk results (λ rs. AreLoaded left faults limits before files after rs entries mark) → IsFinished results are → IsLoadedWhole room journal libraries (record { entries = entries; mark = mark; opened = o }) are
  loaded_whole results are loaded finished =
      let l : AreLoaded left faults limits before files after are entries mark = subst (λ r. IfOk r (λ rs. AreLoaded left faults limits before files after rs entries mark)) finished.ok loaded in
      let none : mark ≡ None = l.unmarked (none_failed are (none_device are finished.faultless)) in
      record {
        before = before;
        added = l.added;
        opened = opened_none;
        entries_are = l.after_is;
        unmarked = none;
        loaded = subst (λ m. AreLoadedBehind room libraries before l.added m are) none (loaded_behind are l);
        faultless = finished.faultless;
      }

  -- all files were opened, and nothing was read of them
  none_read : (new : RoomView) → after ≡ files → new.lefts ≡ lefts_of_inputs left after ++ room.lefts → AreUnread room new libraries
  none_read new same_files lefts = record {
    count = length libraries;
    lefts_are = lefts ∙ ap (λ inputs. lefts_of_inputs left inputs ++ room.lefts) same_files ∙ ap (λ ls. ls ++ room.lefts)
        (unread left room tells libraries files inputs ∙ ap (map (λ (l : Library). room.file l.file)) (sym (take_all libraries (length libraries) refl)));
  }

  -- the closed journal, in the words of what it had before
  closed_behind : {new : RoomView} (added : List Entry) → IsClosedTo new journal entries mark o → entries ≡ before ++ added → IsClosedTo new journal (before ++ added) mark o
  closed_behind {new} added closed after = subst (λ es. IsClosedTo new journal es mark o) after closed

  within_behind : {new : RoomView} (added : List Entry) → IsClosedTo new journal entries mark o → entries ≡ before ++ added
      → IsWithin (journal_limits room) ((before ++ added) ++ marked mark)
  within_behind {new} added closed after =
      subst (λ most. IsWithin most ((before ++ added) ++ marked mark)) opened.limits (subst (λ es. IsWithin o.origin.limits (es ++ marked mark)) after closed.left.within)

  pub loaded_part : (new : RoomView) (why : Fault) (results : Result (List FileResult) NoMemory)
      → IfOk results (λ rs. AreLoaded left faults limits before files after rs entries mark) → OnErr results (entries ≡ before) → OnErr results (mark ≡ None)
      → OnErr results (after ≡ files) → IsStopped why results → (o.tells ≡ true → IsClosedTo new journal entries mark o)
      → new.lefts ≡ lefts_of_inputs left after ++ room.lefts → All (IsFresh faults) files → RisesFrom faults 0 libraries after room new
      → IsLoadingFault room new journal libraries why
  unfolding loaded_behind
  loaded_part new why (Err e) loaded kept unmarked same_files (Unloaded e' is) closed lefts fresh rises =
      NotBegun (unbegun room new journal why before entries mark was o tells (λ other. is) opened kept unmarked closed libraries (none_read new same_files lefts))
  loaded_part new why (Ok results) loaded kept unmarked same_files (Faulty rs is) closed lefts fresh rises = InPart (record {
    before = before;
    added = loaded.added;
    mark = mark;
    results = results;
    o = o;
    opened = opened_none;
    loaded = loaded_behind results loaded;
    faulty = is;
    unmarked = λ other. loaded.unmarked (none_failed results (none_by_a_device results why is other));
    closed = closed_behind loaded.added (closed (opened.tells tells)) loaded.after_is;
    within = within_behind loaded.added (closed (opened.tells tells)) loaded.after_is;
    lefts = lefts_of_inputs left after;
    lefts_are = lefts;
    read_to = libraries_read left faults room before loaded.added mark 0 libraries files after results tells inputs
        (subst (λ most. EachLoaded left faults most before loaded.added mark 0 files after results) same loaded.each);
    failing = λ index library result named at fails.
        let (input, is_its, rose) = each_failed left faults room limits before loaded.added mark 0 files after results fresh loaded.each index result at fails in
        rises index library input (omega arith) named is_its rose;
  })

module _ {S : Type 0} (left : S → Option (List ℕ)) (faults : S → ℕ) (room : RoomView) (files after : List (InputFile S)) (limits : Limits) (before entries : List Entry) (mark : Option (List Entry)) where
  -- as many inputs come back, whether loading began or not
  pub same_count : (results : Result (List FileResult) NoMemory) → IfOk results (λ rs. AreLoaded left faults limits before files after rs entries mark)
      → OnErr results (after ≡ files) → length after ≡ length files
  same_count (Ok results) loaded kept = after_count left faults room limits before loaded.added mark 0 files after results loaded.each
  same_count (Err e) loaded kept = ap length kept

  pub result_count : (results : Result (List FileResult) NoMemory) (are : List FileResult) → IfOk results (λ rs. AreLoaded left faults limits before files after rs entries mark)
      → IsFinished results are → length are ≡ length files
  result_count results are loaded finished =
      let l : AreLoaded left faults limits before files after are entries mark = subst (λ r. IfOk r (λ rs. AreLoaded left faults limits before files after rs entries mark)) finished.ok loaded in
      results_count left faults room limits before l.added mark 0 files after are l.each

  -- a device's fault has its mark
  pub stopped_device : (why : Fault) (results : Result (List FileResult) NoMemory) → IfOk results (λ rs. AreLoaded left faults limits before files after rs entries mark)
      → IsStopped why results → why ≡ fault.Device → is_some mark ≡ true
  stopped_device why (Err e) loaded (Unloaded e' is) at = let no = sym is ∙ at in cc
  stopped_device why (Ok results) loaded (Faulty rs is) at =
      has_mark left faults room limits before loaded.added mark 0 files after results loaded.each (device_failed results (is ∙ ap Some at))

  -- a source's fault is that of some input
  pub stopped_input : (why : Fault) (results : Result (List FileResult) NoMemory) → IfOk results (λ rs. AreLoaded left faults limits before files after rs entries mark)
      → All (IsFresh faults) files → IsStopped why results → why ≡ fault.Input → HadFault faults after
  stopped_input why (Err e) loaded fresh (Unloaded e' is) at = let no = sym is ∙ at in cc
  stopped_input why (Ok results) loaded fresh (Faulty rs is) at =
      had_fault left faults room limits before loaded.added mark 0 files after results fresh loaded.each (source_failed results (is ∙ ap Some at))

pub stopped_usage : (why : Fault) (results : Result (List FileResult) NoMemory) → IsStopped why results → why ≢ fault.Usage
stopped_usage why (Err e) (Unloaded e' is) at = let no = sym is ∙ at in cc
stopped_usage why (Ok results) (Faulty rs is) at = no_usage results (is ∙ ap Some at)

pub stopped_other_history : (why : Fault) (results : Result (List FileResult) NoMemory) → IsStopped why results → why ≢ fault.OtherHistory
stopped_other_history why (Err e) (Unloaded e' is) at = let no = sym is ∙ at in cc
stopped_other_history why (Ok results) (Faulty rs is) at = no_other_history results (is ∙ ap Some at)

-- from facts of an answer to more
pub if_ok_more : {T E : Type 0} {P Q : T → Type 0} (r : Result T E) → ((x : T) → r ≡ Ok x → P x → Q x) → IfOk r P → IfOk r Q
if_ok_more (Ok x) more is = more x refl is
if_ok_more (Err e) more is = tt

pub if_err_more : {T E : Type 0} {P Q : E → Type 0} (r : Result T E) → ((e : E) → r ≡ Err e → P e → Q e) → IfErr r P → IfErr r Q
if_err_more (Ok x) more is = tt
if_err_more (Err e) more is = more e refl is

pub on_ok_at : {T E P : Type 0} (r : Result T E) (x : T) → r ≡ Ok x → OnOk r P → P
on_ok_at (Ok x) y at is = is
on_ok_at (Err e) y at is = cc
