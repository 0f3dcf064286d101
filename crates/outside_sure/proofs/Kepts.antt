-- What a sure room keeps under each name, after one entry changed or was added.
use Rattle.std.proofs.Common.{◌≡◌, ◌≢◌, ℕ, ◌+◌, zero, suc, ◌<◌, List, [], ◌∷◌, ◌++◌, length, set, get_or, Option, Some, None, IfSome, Result, Ok, Err, OnOk, OnErr, Bool, true, false, cond, refl, sym, ap, subst, true≢false, nat_eq, is_some, if◌then◌else◌, ◌∙◌, arith, inl, inr}
use Rattle.std.specs.List.{find, position_or_len, slice_get}
use Rattle.std.specs.Option.{option_or}
use Rattle.std.specs.Str.{bytes_eq}
use Rattle.std.specs.String.{string_bytes}
use Rattle.std.proofs.lemmas.Option.{slice_get-get_or}
use Rattle.std.proofs.lemmas.List.{get_or_default}
use Rattle.std.proofs.lemmas.List.Folds.{find-set, find_past, find-append, find_at}
use Rattle.std.proofs.lemmas.Bool.{cases_lt}
use Rattle.std.proofs.lemmas.List.Sums.{passes_at_first, position_or_len_is}
use Rattle.std.proofs.lemmas.Slice.Eq.{bytes_eq-Decides}
use Rattle.outside.proofs.Places.{not_both, slice_get_past}
use Rattle.outside.specs.Fault.{count_sum}
use Rattle.outside.specs.Room.{OpenSort, AsOutput, AsLog}
use Rattle.outside_sure.specs.declared.held.Held.{Held}
use Rattle.outside_sure.specs.declared.sure_disk.SureDisk.{SureDisk}
use Rattle.outside_sure.specs.declared.stored.Stored.{Stored}
use Rattle.outside_sure.specs.declared.stored.Stored.TheVariants.{Blank, File, Log, OpenLog}
use Rattle.outside_sure.specs.declared.drawer.Drawer.{Drawer}
use Rattle.outside_sure.specs.declared.drawer.Opened.{Opened}
use Rattle.outside_sure.specs.declared.drawer.Opened.TheVariants as opened
use Rattle.outside_sure.specs.declared.drawer.Closing.{Closing}
use Rattle.outside_sure.specs.declared.drawer.Closing.TheVariants as closing
use Rattle.outside_sure.specs.declared.kept.Kept.{Kept}
use Rattle.outside_sure.specs.declared.kept.Kept.TheVariants.{Input, InDrawer}
use Rattle.outside_sure.specs.declared.sure_files.SureFile.{SureFile}
use Rattle.outside_sure.specs.SureKept.{stored_sort, memory_of, drawer_sort, drawer_opened, drawer_closed, closing_sort, IsNewDrawer, IsDrawerWell, kept_sort, can_open, kept_opened, kept_closed, IsFull, IsKeptWell}
use Rattle.outside_sure.specs.SureFiles.{is_called, kept_by, kept_in, IsAt, IsUncalled, ChangesKept}

-- what isn't open
pub spare_of : (spare : Bool) (sort : Option OpenSort) → (if spare then sort else Some AsOutput) ≡ None → spare ≡ true
spare_of true sort closed = refl
spare_of false sort closed = let no : Some AsOutput ≡ None = closed in cc

pub sort_of : (spare : Bool) (sort : Option OpenSort) → (if spare then sort else Some AsOutput) ≡ None → sort ≡ None
sort_of true sort closed = closed
sort_of false sort closed = let no : Some AsOutput ≡ None = closed in cc

-- a drawer whose log had no fault
no_fault : (n : ℕ) → nat_eq n 0 ≡ true → n ≡ 0
no_fault n test = grind (arith, test)

a_fault : (n : ℕ) → nat_eq n 0 ≡ false → n ≢ 0
a_fault n test none = true≢false (sym (ap (λ m. nat_eq m 0) none) ∙ test)

log_spare : (spare : Bool) (sort : Option OpenSort) → (if spare then sort else Some AsOutput) ≡ Some AsLog → spare ≡ true
log_spare true sort is = refl
log_spare false sort is = let no : Some AsOutput ≡ Some AsLog = is in cc

sum_none : (more n : ℕ) → n ≡ 0 → more ≡ 0 → count_sum n more ≡ 0
sum_none more n none also = omega (arith, none, also)

module _ {room : ℕ} where
  -- no entry before that place has that name
  abbrev pub NoneBefore : List (SureFile room) → List ℕ → ℕ → Type 0
  NoneBefore files name place = (k : ℕ) (d : SureFile room) → k < place → is_called name (get_or files k d) ≡ false

  pub none_yet : (files : List (SureFile room)) (name : List ℕ) → NoneBefore files name 0
  none_yet files name k d below = absurd (omega (arith, below))

  pub none_more : (files : List (SureFile room)) (name : List ℕ) (place : ℕ) (file : SureFile room) → NoneBefore files name place → file ≡ get_or files place file
      → place < length files → is_called name file ≡ false → NoneBefore files name (place + 1)
  none_more files name place file before is within other k d below = elim (cases_lt k place) [
    | inl earlier ↦ before k d earlier
    | inr last ↦
        let same : k ≡ place = omega (arith, below, last) in
        rw same (ap (is_called name) (get_or_default files place d file within ∙ sym is) ∙ other)
  ]

  pub place_is : (files : List (SureFile room)) (name : List ℕ) (place : ℕ) (file : SureFile room) → NoneBefore files name place → file ≡ get_or files place file
      → place < length files → is_called name file ≡ true → IsAt files name place
  place_is files name place file before is within called = record {
    first = sym (position_or_len_is (is_called name) files place file (omega (arith, within)) (λ k below. before k file below) (λ _. ap (is_called name) (sym is) ∙ called));
    within = within;
  }

  pub none_is : (files : List (SureFile room)) (name : List ℕ) → NoneBefore files name (length files) → IsUncalled files name
  none_is [] name before = record { none = refl }
  none_is (file ∷ files) name before = record {
    none = position_or_len_is (is_called name) (file ∷ files) (length (file ∷ files)) file (omega arith) (λ k below. before k file below) (λ past. absurd (omega (arith, past)));
  }

  place_is_called : (files : List (SureFile room)) (name : List ℕ) (place : ℕ) (d : SureFile room) → IsAt files name place → is_called name (get_or files place d) ≡ true
  place_is_called files name place d at =
      let found : position_or_len (is_called name) files < length files = rw (← at.first) at.within in
      rw at.first (passes_at_first (is_called name) files d found)

  called_apart : (name other : List ℕ) (file : SureFile room) → other ≢ name → is_called name file ≡ true → is_called other file ≡ false
  called_apart name other file differ called = not_both (string_bytes file.name) name other (is_called other file) refl differ ((bytes_eq-Decides (string_bytes file.name) name).0 called)

  -- what is kept at a place
  pub kept_at : (files : List (SureFile room)) (name : List ℕ) (place : ℕ) (file : SureFile room) → IsAt files name place → file ≡ get_or files place file → kept_in files name ≡ Some file.kept
  unfolding kept_in
  kept_at files name place file at is =
      ap kept_by (find_at (is_called name) files ∙ sym (ap (slice_get files) at.first) ∙ slice_get-get_or files place file at.within) ∙ ap (λ (f : SureFile room). Some f.kept) (sym is)

  -- the entry at a place changes, and keeps its name
  pub changes_kept : (files : List (SureFile room)) (name : List ℕ) (place : ℕ) (old file : SureFile room) → IsAt files name place → old ≡ get_or files place old
      → string_bytes file.name ≡ string_bytes old.name → ChangesKept files (set files place file) name (Some file.kept)
  unfolding kept_in
  changes_kept files name place old file at is same =
      let named : string_bytes file.name ≡ string_bytes (get_or files place old).name = same ∙ ap (λ (f : SureFile room). string_bytes f.name) is in
      let called : is_called name file ≡ true = ap (λ own. bytes_eq own name) named ∙ place_is_called files name place old at in
      record {
        here = ap kept_by (find-set (is_called name) files place file at.first at.within called);
        others = λ n differ. ap kept_by (find_past (is_called n) files place file file
            (called_apart name n (get_or files place file) differ (place_is_called files name place file at)) (called_apart name n file differ called));
      }

  find_none : (files : List (SureFile room)) (name : List ℕ) → IsUncalled files name → find (is_called name) files ≡ None
  find_none files name is = find_at (is_called name) files ∙ ap (slice_get files) is.none ∙ slice_get_past files (length files) (omega arith)

  -- where no entry has a name, nothing is kept under it
  pub kept_nowhere : (files : List (SureFile room)) (name : List ℕ) → IsUncalled files name → kept_in files name ≡ None
  unfolding kept_in
  kept_nowhere files name is = ap kept_by (find_none files name is)

  or_this : (found : Option (SureFile room)) (file : SureFile room) (b : Bool) → found ≡ None → b ≡ true → kept_by (option_or found (cond b (Some file) None)) ≡ Some file.kept
  or_this found file b none is = rw (none, is) refl

  or_none : (found : Option (SureFile room)) (file : SureFile room) (b : Bool) → b ≡ false → kept_by (option_or found (cond b (Some file) None)) ≡ kept_by found
  or_none (Some other) file b is = refl
  or_none None file b is = rw is refl

  -- an entry of a new name is added
  pub kept_entered : (files : List (SureFile room)) (name : List ℕ) (file : SureFile room) → IsUncalled files name → string_bytes file.name ≡ name
      → ChangesKept files (files ++ file ∷ []) name (Some file.kept)
  unfolding kept_in
  kept_entered files name file is named =
      let called : is_called name file ≡ true = (bytes_eq-Decides (string_bytes file.name) name).1 named in
      record {
        here = ap kept_by (find-append (is_called name) files (file ∷ [])) ∙ or_this (find (is_called name) files) file (is_called name file) (find_none files name is) called;
        others = λ n differ. ap kept_by (find-append (is_called n) files (file ∷ []))
            ∙ or_none (find (is_called n) files) file (is_called n file) (called_apart name n file differ called);
      }

  -- an empty list keeps nothing
  pub kept_in_none : (name : List ℕ) → kept_in {room = room} [] name ≡ None
  unfolding kept_in
  kept_in_none name = refl

  -- an entry of a new name is added to a list
  pub entered_list : (files new : List (SureFile room)) (name : List ℕ) (file : SureFile room) → IsUncalled files name → new ≡ files ++ file ∷ []
      → string_bytes file.name ≡ name → ChangesKept files new name (Some file.kept)
  entered_list files new name file is added named = rw added (kept_entered files name file is named)

  -- where no entry has a name, an opening or a close of it changes nothing
  stays_nowhere : (files : List (SureFile room)) (name : List ℕ) (kept : Option (Kept room)) → kept_in files name ≡ kept → ChangesKept files files name kept
  stays_nowhere files name kept is = record { here = is; others = λ n differ. refl }

  pub opened_nowhere : (files : List (SureFile room)) (name : List ℕ) (sort : Opened) → IsUncalled files name
      → ChangesKept files files name (kept_opened sort (kept_in files name))
  opened_nowhere files name sort is =
      let none = kept_nowhere files name is in stays_nowhere files name _ (none ∙ sym (ap (kept_opened sort) none))

  pub closed_nowhere : (files : List (SureFile room)) (name : List ℕ) (given : Closing room) (more : ℕ) → IsUncalled files name
      → ChangesKept files files name (kept_closed given more (kept_in files name))
  closed_nowhere files name given more is =
      let none = kept_nowhere files name is in stays_nowhere files name _ (none ∙ sym (ap (kept_closed given more) none))

  pub ready_nowhere : (files : List (SureFile room)) (name : List ℕ) (sort : Opened) → IsUncalled files name → can_open sort (kept_in files name) ≡ false
  ready_nowhere files name sort is = ap (can_open sort) (kept_nowhere files name is)

  -- what is kept at a place changes
  pub changes_at : (files : List (SureFile room)) (name : List ℕ) (place : ℕ) (old file : SureFile room) (change : Option (Kept room) → Option (Kept room))
      → IsAt files name place → old ≡ get_or files place old → string_bytes file.name ≡ string_bytes old.name → Some file.kept ≡ change (Some old.kept)
      → ChangesKept files (set files place file) name (change (kept_in files name))
  changes_at files name place old file change at is same made =
      let changes = changes_kept files name place old file at is same in
      record { here = changes.here ∙ made ∙ sym (ap change (kept_at files name place old at is)); others = changes.others }

  -- nothing is kept well
  pub well_none : (files : List (SureFile room)) → files ≡ [] → (n : List ℕ) → IsKeptWell (kept_in files n)
  well_none files none n = subst (λ fs. IsKeptWell (kept_in fs n)) (sym none) (rw (kept_in_none n) tt)

  well_at : (b : Bool) (new old : Option (Kept room)) (here : b ≡ true → IsKeptWell new) (same : b ≡ false → new ≡ old) → IsKeptWell old → IsKeptWell new
  well_at true new old here same was = here refl
  well_at false new old here same was = subst IsKeptWell (sym (same refl)) was

  -- what is kept is kept well after a change
  pub well_changed : (old new : List (SureFile room)) (name : List ℕ) (kept : Option (Kept room)) → ChangesKept old new name kept → IsKeptWell kept
      → ((n : List ℕ) → IsKeptWell (kept_in old n)) → (n : List ℕ) → IsKeptWell (kept_in new n)
  well_changed old new name kept changes well was n =
      let decides = bytes_eq-Decides n name in
      well_at (bytes_eq n name) (kept_in new n) (kept_in old n)
      (λ same. subst (λ m. IsKeptWell (kept_in new m)) (sym (decides.0 same)) (subst IsKeptWell (sym changes.here) well))
      (λ differ. changes.others n (λ same. absurd (true≢false (sym (decides.1 same) ∙ differ)))) (was n)

  -- and where it was added or there was no memory for it
  pub well_added : {T E : Type 0} (result : Result T E) (old new : List (SureFile room)) (name : List ℕ) (kept : Option (Kept room))
      → OnOk result (ChangesKept old new name kept) → OnErr result (new ≡ old) → IsKeptWell kept → ((n : List ℕ) → IsKeptWell (kept_in old n))
      → (n : List ℕ) → IsKeptWell (kept_in new n)
  well_added (Ok value) old new name kept changes same well was = well_changed old new name kept changes well was
  well_added (Err fault) old new name kept changes same well was = λ n. subst (λ files. IsKeptWell (kept_in files n)) (sym same) (was n)

  well_output : (d : Drawer room) → drawer_sort d ≡ None → IsDrawerWell d → d.log_faults ≡ 0 → IsDrawerWell (record d { spare = None })
  well_output d closed was none = record {
    outs = was.outs;
    logs = was.logs;
    apart = λ _. sort_of (is_some d.spare) (stored_sort d.stored) closed;
    closed = λ some. absurd (some none);
    full = λ some. absurd (some none);
  }

  well_log : (d : Drawer room) → drawer_sort d ≡ None → IsDrawerWell d → d.log_faults ≡ 0 → IsDrawerWell (record d { stored = OpenLog })
  well_log d closed was none = record {
    outs = was.outs;
    logs = was.logs;
    apart = λ taken. absurd (true≢false (sym (spare_of (is_some d.spare) (stored_sort d.stored) closed) ∙ taken));
    closed = λ some. absurd (some none);
    full = λ some. absurd (some none);
  }

  well_refused_output : (d : Drawer room) → IsDrawerWell d → IsDrawerWell (record d { out_faults = count_sum d.out_faults 1 })
  well_refused_output d was = record { outs = omega arith; logs = was.logs; apart = was.apart; closed = was.closed; full = was.full }

  well_refused_log : (d : Drawer room) → IsDrawerWell d → d.log_faults ≢ 0 → IsDrawerWell (record d { log_faults = count_sum d.log_faults 1 })
  well_refused_log d was some = record { outs = was.outs; logs = omega arith; apart = was.apart; closed = λ _. was.closed some; full = λ _. was.full some }

  well_opened_if : (sort : Opened) (d : Drawer room) (b : Bool) → nat_eq d.log_faults 0 ≡ b → drawer_sort d ≡ None → IsDrawerWell d
      → IsDrawerWell (drawer_opened sort d)
  well_opened_if opened.Output d true test closed was = rw test (well_output d closed was (no_fault d.log_faults test))
  well_opened_if opened.Output d false test closed was = rw test (well_refused_output d was)
  well_opened_if opened.Log d true test closed was = rw test (well_log d closed was (no_fault d.log_faults test))
  well_opened_if opened.Log d false test closed was = rw test (well_refused_log d was (a_fault d.log_faults test))

  -- and after an opening
  pub well_opened : (sort : Opened) (kept : Option (Kept room)) → kept_sort kept ≡ None → IsKeptWell kept → IsKeptWell (kept_opened sort kept)
  well_opened sort None closed was = tt
  well_opened sort (Some (Input source)) closed was = tt
  well_opened sort (Some (InDrawer d)) closed was = well_opened_if sort d (nat_eq d.log_faults 0) refl closed was

  -- a drawer that is open has no fault of a log
  open_fault : (d : Drawer room) (sort : OpenSort) (n : ℕ) → d.log_faults ≡ n → drawer_sort d ≡ Some sort → IsDrawerWell d → d.log_faults ≡ 0
  open_fault d sort zero is open_so was = is
  open_fault d sort (suc n) is open_so was =
      let closed = was.closed (λ none. absurd (omega (arith, none, is))) in
      absurd (true≢false (sym (ap is_some open_so) ∙ ap is_some closed))

  never_output : {X : Type 0} (stored : Stored room) → stored_sort stored ≡ Some AsOutput → X
  never_output (Blank held) is = let no : None ≡ Some AsOutput = is in cc
  never_output (File held) is = let no : None ≡ Some AsOutput = is in cc
  never_output (Log disk) is = let no : None ≡ Some AsOutput = is in cc
  never_output OpenLog is = let no : Some AsLog ≡ Some AsOutput = is in cc

  output_alone : (stored : Stored room) (spare : Bool) → (spare ≡ false → stored_sort stored ≡ None)
      → (if spare then stored_sort stored else Some AsOutput) ≡ Some AsOutput → stored_sort stored ≡ None
  output_alone stored true apart is = never_output stored is
  output_alone stored false apart is = apart refl

  pub has_memory : (stored : Stored room) → stored_sort stored ≡ None → is_some (memory_of stored) ≡ true
  has_memory (Blank held) closed = refl
  has_memory (File held) closed = refl
  has_memory (Log disk) closed = refl
  has_memory OpenLog closed = let no : Some AsLog ≡ None = closed in cc

  -- what an open output is to replace isn't open
  pub replaced : (d : Drawer room) → IsDrawerWell d → drawer_sort d ≡ Some AsOutput → stored_sort d.stored ≡ None
  replaced d was is = output_alone d.stored (is_some d.spare) was.apart is

  pub open_spare : (d : Drawer room) → drawer_sort d ≡ Some AsLog → is_some d.spare ≡ true
  open_spare d is = log_spare (is_some d.spare) (stored_sort d.stored) is

  well_closed_log : (d : Drawer room) (disk : SureDisk room) (more : ℕ) → drawer_sort d ≡ Some AsLog → (more ≢ 0 → length disk.held.buffer.items ≡ room)
      → IsDrawerWell d → IsDrawerWell (record d { stored = Log disk; log_faults = count_sum d.log_faults more })
  well_closed_log d disk more is full was =
      let spare = open_spare d is in
      let none = open_fault d AsLog d.log_faults refl is was in
      record {
        outs = was.outs;
        logs = omega arith;
        apart = λ taken. absurd (true≢false (sym spare ∙ taken));
        closed = λ some. rw spare refl;
        full = λ some. full (λ also. some (sum_none more d.log_faults none also));
      }

  well_put : (d : Drawer room) (held : Held room) (more : ℕ) → drawer_sort d ≡ Some AsOutput → IsDrawerWell d
      → IsDrawerWell (record d { stored = File held; spare = memory_of d.stored; out_faults = count_sum d.out_faults more })
  well_put d held more is was =
      let none = open_fault d AsOutput d.log_faults refl is was in
      record { outs = omega arith; logs = was.logs; apart = λ taken. refl; closed = λ some. absurd (some none); full = λ some. absurd (some none) }

  well_given_up : (d : Drawer room) (held : Held room) (more : ℕ) → drawer_sort d ≡ Some AsOutput → IsDrawerWell d
      → IsDrawerWell (record d { spare = Some held; out_faults = count_sum d.out_faults more })
  well_given_up d held more is was =
      let none = open_fault d AsOutput d.log_faults refl is was in
      record {
        outs = omega arith;
        logs = was.logs;
        apart = λ taken. absurd (true≢false taken);
        closed = λ some. absurd (some none);
        full = λ some. absurd (some none);
      }

  well_closed_drawer : (given : Closing room) (more : ℕ) (d : Drawer room) → drawer_sort d ≡ Some (closing_sort given) → IsFull given more → IsDrawerWell d
      → IsDrawerWell (drawer_closed given more d)
  well_closed_drawer (closing.Log disk) more d is full was = well_closed_log d disk more is full was
  well_closed_drawer (closing.Put held) more d is full was = well_put d held more is was
  well_closed_drawer (closing.GivenUp held) more d is full was = well_given_up d held more is was

  -- and after a close
  pub well_closed : (given : Closing room) (more : ℕ) (kept : Option (Kept room)) → kept_sort kept ≡ Some (closing_sort given) → IsFull given more → IsKeptWell kept
      → IsKeptWell (kept_closed given more kept)
  well_closed given more None is full was = tt
  well_closed given more (Some (Input source)) is full was = tt
  well_closed given more (Some (InDrawer d)) is full was = well_closed_drawer given more d is full was

  -- a drawer that was just made is kept well
  pub well_new : (bytes : Option (List ℕ)) (d : Drawer room) → IsNewDrawer bytes d → IsDrawerWell d
  well_new bytes d new = record {
    outs = omega (arith, new.outs);
    logs = omega (arith, new.logs);
    apart = λ taken. absurd (true≢false (sym new.spare ∙ taken));
    closed = λ some. absurd (some new.logs);
    full = λ some. absurd (some new.logs);
  }

-- what holds of what is answered has what follows from it
pub if_some_then : {X : Type 0} (r : Option X) (P Q : X → Type 0) → ((x : X) → P x → Q x) → IfSome r P → IfSome r Q
if_some_then None P Q so holds = tt
if_some_then (Some x) P Q so holds = so x holds
