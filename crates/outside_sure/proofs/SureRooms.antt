-- A sure room, seen as any room is, after what is kept under its names changed or stayed.
use Rattle.std.proofs.Common.{◌≡◌, ◌≢◌, ℕ, zero, suc, ◌≤◌, max, Bool, true, false, not, ◌&&◌, true≢false, nat_eq, is_some, is_none, if◌then◌else◌, List, [], ◌∷◌, Option, Some, None, refl, sym, ap, subst, ◌∙◌, arith}
use Rattle.std.specs.Str.{bytes_eq}
use Rattle.std.proofs.lemmas.Slice.Eq.{bytes_eq-Decides}
use Rattle.outside.specs.Disk.{SameDisk}
use Rattle.outside.specs.Fault.{count_sum, greatest_count}
use Rattle.outside.specs.Room.{SameBut, IsUntouched, IsPut, IsPutOrNot, Untouched, OpenSort, AsOutput, AsLog}
use Rattle.outside.proofs.Disks.{same_disk}
use Rattle.outside_sure.specs.SureDisk.{sure_disk_view}
use Rattle.outside_sure.specs.SureKept.{told_kept, kept_sort, is_kept_log, kept_log, faults_in, faults_out, faults_log, kept_failed_at, drawer_failed_at, kept_promise, can_open, drawer_sort, drawer_opened, drawer_closed, closing_sort, kept_opened, kept_closed, stored_sort, IsDrawerWell, IsKeptWell}
use Rattle.outside_sure.specs.SureRoom.{kept_under, sure_room_view, SameKept, KeepsUnder}
use Rattle.outside_sure.specs.declared.held.Held.{Held}
use Rattle.outside_sure.specs.declared.drawer.Drawer.{Drawer}
use Rattle.outside_sure.specs.declared.drawer.Opened.{Opened}
use Rattle.outside_sure.specs.declared.drawer.Opened.TheVariants as opened
use Rattle.outside_sure.specs.declared.drawer.Closing.{Closing}
use Rattle.outside_sure.specs.declared.drawer.Closing.TheVariants as closing
use Rattle.outside_sure.specs.declared.kept.Kept.{Kept}
use Rattle.outside_sure.specs.declared.kept.Kept.TheVariants.{Input, InDrawer}
use Rattle.outside_sure.specs.declared.stored.Stored.TheVariants.{OpenLog}
use Rattle.outside_sure.specs.declared.sure_disk.SureDisk.{SureDisk}
use Rattle.outside_sure.specs.declared.sure_room.SureRoom.{SureRoom}
use Rattle.outside_sure.proofs.Kepts.{spare_of, sort_of, has_memory, replaced, open_spare}

some_not_none : {X : Type 0} {Y : Type 0} {x : X} → Some x ≡ None → Y
some_not_none is = absurd (true≢false (ap is_some is))

-- a drawer that isn't opened though it is closed had a fault
no_spare : (a spare : Bool) → spare ≡ true → true ≡ not (a && spare) → a ≡ false
no_spare true spare is failed = absurd (true≢false (failed ∙ ap not is))
no_spare false spare is failed = refl

no_file : (a : Bool) (sort : Option OpenSort) → sort ≡ None → true ≡ not (a && is_none sort) → a ≡ false
no_file true sort is failed = absurd (true≢false (failed ∙ ap (λ o. not (is_none o)) is))
no_file false sort is failed = refl

-- a fault more of what had one changes nothing in how far outputs came
failed_more : (room outs logs : ℕ) → nat_eq logs 0 ≡ false
    → (if nat_eq (count_sum outs 1) 0 && nat_eq logs 0 then 0 else room) ≡ (if nat_eq outs 0 && nat_eq logs 0 then 0 else room)
failed_more room outs logs test = both (nat_eq (count_sum outs 1) 0) (nat_eq outs 0) (nat_eq logs 0) test
  where
    both : (a b c : Bool) → c ≡ false → (if a && c then 0 else room) ≡ (if b && c then 0 else room)
    both a b true is = absurd (true≢false is)
    both true true false is = refl
    both true false false is = refl
    both false true false is = refl
    both false false false is = refl

log_more : (room outs logs : ℕ) → nat_eq logs 0 ≡ false
    → (if nat_eq outs 0 && nat_eq (count_sum logs 1) 0 then 0 else room) ≡ (if nat_eq outs 0 && nat_eq logs 0 then 0 else room)
log_more room outs logs test =
    let more : nat_eq (count_sum logs 1) 0 ≡ false = grind (arith, test) in
    ap (λ b. if nat_eq outs 0 && b then 0 else room) (more ∙ sym test)

no_more : (room outs logs : ℕ) → outs ≤ greatest_count
    → (if nat_eq (count_sum outs 0) 0 && nat_eq logs 0 then 0 else room) ≡ (if nat_eq outs 0 && nat_eq logs 0 then 0 else room)
no_more room outs logs most =
    let same : count_sum outs 0 ≡ outs = omega (arith, most) in
    ap (λ n. if nat_eq n 0 && nat_eq logs 0 then 0 else room) same

module _ {room : ℕ} where
  same_log : (a b : Option (Kept room)) → b ≡ a → SameDisk (kept_log a) (kept_log b)
  same_log a b same = subst (λ s. SameDisk (kept_log a) (kept_log s)) (sym same) (same_disk (kept_log a))

  -- what is kept is of the same sort, and no count of it falls where the room's counts don't
  record Grows (was now : Option (Kept room)) : Type 0 where
    promise : kept_promise now ≡ kept_promise was
    ins : (a b : ℕ) → a ≤ b → faults_in was a ≤ faults_in now b
    outs : (a b : ℕ) → a ≤ b → faults_out was a ≤ faults_out now b
    logs : (a b : ℕ) → a ≤ b → faults_log was a ≤ faults_log now b

  grows_same : (kept : Option (Kept room)) → Grows kept kept
  grows_same None = record { promise = refl; ins = λ a b le. le; outs = λ a b le. le; logs = λ a b le. le }
  grows_same (Some (Input source)) = record { promise = refl; ins = λ a b le. omega arith; outs = λ a b le. le; logs = λ a b le. le }
  grows_same (Some (InDrawer d)) = record { promise = refl; ins = λ a b le. le; outs = λ a b le. omega arith; logs = λ a b le. omega arith }

  grows_counts : (d e : Drawer room) → d.out_faults ≤ e.out_faults → d.log_faults ≤ e.log_faults → Grows (Some (InDrawer d)) (Some (InDrawer e))
  grows_counts d e outs logs = record { promise = refl; ins = λ a b le. le; outs = λ a b le. outs; logs = λ a b le. logs }

  grows_opened_if : (sort : Opened) (d : Drawer room) (b : Bool) → nat_eq d.log_faults 0 ≡ b → IsDrawerWell d → Grows (Some (InDrawer d)) (Some (InDrawer (drawer_opened sort d)))
  grows_opened_if opened.Output d true test well = rw test (grows_counts d (record d { spare = None }) (omega arith) (omega arith))
  grows_opened_if opened.Output d false test well = rw test (grows_counts d (record d { out_faults = count_sum d.out_faults 1 }) (omega (arith, well.outs)) (omega arith))
  grows_opened_if opened.Log d true test well = rw test (grows_counts d (record d { stored = OpenLog }) (omega arith) (omega arith))
  grows_opened_if opened.Log d false test well = rw test (grows_counts d (record d { log_faults = count_sum d.log_faults 1 }) (omega arith) (omega (arith, well.logs)))

  grows_opened : (sort : Opened) (kept : Option (Kept room)) → IsKeptWell kept → Grows kept (kept_opened sort kept)
  grows_opened sort None well = grows_same None
  grows_opened sort (Some (Input source)) well = grows_same (Some (Input source))
  grows_opened sort (Some (InDrawer d)) well = grows_opened_if sort d (nat_eq d.log_faults 0) refl well

  grows_closed : (given : Closing room) (more : ℕ) (kept : Option (Kept room)) → IsKeptWell kept → Grows kept (kept_closed given more kept)
  grows_closed given more None well = grows_same None
  grows_closed given more (Some (Input source)) well = grows_same (Some (Input source))
  grows_closed (closing.Log disk) more (Some (InDrawer d)) well =
      grows_counts d (drawer_closed (closing.Log disk) more d) (omega arith) (omega (arith, well.logs))
  grows_closed (closing.Put held) more (Some (InDrawer d)) well =
      grows_counts d (drawer_closed (closing.Put held) more d) (omega (arith, well.outs)) (omega arith)
  grows_closed (closing.GivenUp held) more (Some (InDrawer d)) well =
      grows_counts d (drawer_closed (closing.GivenUp held) more d) (omega (arith, well.outs)) (omega arith)

  -- a fact on what was kept and what is, that holds of what stays and of what is kept under one name now, holds of each name
  of_each : (P : Option (Kept room) → Option (Kept room) → Type 0) (old new : SureRoom room) (name : List ℕ) (kept : Option (Kept room)) → KeepsUnder old new name kept
      → ((k : Option (Kept room)) → P k k) → P (kept_under old name) kept → (n : List ℕ) → P (kept_under old n) (kept_under new n)
  of_each P old new name kept keeps stays here n = decided (bytes_eq n name) refl
    where
      decided : (b : Bool) → bytes_eq n name ≡ b → P (kept_under old n) (kept_under new n)
      decided true same =
          let is : n ≡ name = (bytes_eq-Decides n name).0 same in
          subst (λ m. P (kept_under old m) (kept_under new m)) (sym is) (subst (P (kept_under old name)) (sym keeps.here) here)
      decided false differ =
          let other : n ≢ name = (λ e. true≢false (sym ((bytes_eq-Decides n name).1 e) ∙ differ)) in
          subst (P (kept_under old n)) (sym (keeps.others n other)) (stays (kept_under old n))

  -- what is kept under each name stays
  pub stays_kept : (old new : SureRoom room) → SameKept old new → old.in_faults ≤ new.in_faults → old.out_faults ≤ new.out_faults → old.log_faults ≤ new.log_faults
      → SameBut (sure_room_view old) (sure_room_view new) []
  stays_kept old new same ins outs logs = record {
    tells = refl;
    files = λ n _. ap told_kept (same.under n);
    open_names = λ n _. ap kept_sort (same.under n);
    log_names = λ n _. ap is_kept_log (same.under n);
    logs = λ n _ _. same_log (kept_under old n) (kept_under new n) (same.under n);
    ins = λ n. subst (λ k. faults_in (kept_under old n) old.in_faults ≤ faults_in k new.in_faults) (sym (same.under n)) ((grows_same (kept_under old n)).ins _ _ ins);
    outs = λ n. subst (λ k. faults_out (kept_under old n) old.out_faults ≤ faults_out k new.out_faults) (sym (same.under n)) ((grows_same (kept_under old n)).outs _ _ outs);
    log_counts = λ n. subst (λ k. faults_log (kept_under old n) old.log_faults ≤ faults_log k new.log_faults) (sym (same.under n)) ((grows_same (kept_under old n)).logs _ _ logs);
    failed_ats = λ n _. ap kept_failed_at (same.under n);
    promises = λ n. ap kept_promise (same.under n);
    sizes = same.size;
  }

  -- something else is kept under one name
  apart_grown : (old new : SureRoom room) (name : List ℕ) (kept : Option (Kept room)) → KeepsUnder old new name kept → Grows (kept_under old name) kept
      → old.in_faults ≤ new.in_faults → old.out_faults ≤ new.out_faults → old.log_faults ≤ new.log_faults → SameBut (sure_room_view old) (sure_room_view new) (name ∷ [])
  apart_grown old new name kept keeps grows ins outs logs = record {
    tells = refl;
    files = λ n other. ap told_kept (keeps.others n other.0);
    open_names = λ n other. ap kept_sort (keeps.others n other.0);
    log_names = λ n other. ap is_kept_log (keeps.others n other.0);
    logs = λ n other _. same_log (kept_under old n) (kept_under new n) (keeps.others n other.0);
    ins = λ n. (of_each Grows old new name kept keeps grows_same grows n).ins _ _ ins;
    outs = λ n. (of_each Grows old new name kept keeps grows_same grows n).outs _ _ outs;
    log_counts = λ n. (of_each Grows old new name kept keeps grows_same grows n).logs _ _ logs;
    failed_ats = λ n other. ap kept_failed_at (keeps.others n other.0);
    promises = λ n. (of_each Grows old new name kept keeps grows_same grows n).promise;
    sizes = keeps.size;
  }

  pub apart_opened : (old new : SureRoom room) (name : List ℕ) (sort : Opened) → KeepsUnder old new name (kept_opened sort (kept_under old name))
      → old.in_faults ≤ new.in_faults → old.out_faults ≤ new.out_faults → old.log_faults ≤ new.log_faults → SameBut (sure_room_view old) (sure_room_view new) (name ∷ [])
  apart_opened old new name sort keeps = apart_grown old new name _ keeps (grows_opened sort (kept_under old name) (old.files.well name))

  pub apart_closed : (old new : SureRoom room) (name : List ℕ) (given : Closing room) (more : ℕ) → KeepsUnder old new name (kept_closed given more (kept_under old name))
      → old.in_faults ≤ new.in_faults → old.out_faults ≤ new.out_faults → old.log_faults ≤ new.log_faults → SameBut (sure_room_view old) (sure_room_view new) (name ∷ [])
  apart_closed old new name given more keeps = apart_grown old new name _ keeps (grows_closed given more (kept_under old name) (old.files.well name))

  -- what an opening or a close leaves as it is that changes no file
  record Holds (was now : Option (Kept room)) : Type 0 where
    told : told_kept now ≡ told_kept was
    is_log : is_kept_log now ≡ is_kept_log was
    log : SameDisk (kept_log was) (kept_log now)

  holds_same : (kept : Option (Kept room)) → Holds kept kept
  holds_same kept = record { told = refl; is_log = refl; log = same_disk (kept_log kept) }

  holds_stored : (d e : Drawer room) → e.stored ≡ d.stored → Holds (Some (InDrawer d)) (Some (InDrawer e))
  holds_stored d e same = record {
    told = ap (λ s. told_kept (Some (InDrawer (record d { stored = s })))) same;
    is_log = ap (λ s. is_kept_log (Some (InDrawer (record d { stored = s })))) same;
    log = subst (λ s. SameDisk (kept_log (Some (InDrawer d))) (kept_log (Some (InDrawer (record d { stored = s }))))) (sym same) (same_disk (kept_log (Some (InDrawer d))));
  }

  untouched_held : (old new : SureRoom room) (name : List ℕ) → Holds (kept_under old name) (kept_under new name)
      → IsUntouched (sure_room_view old) (sure_room_view new) name
  untouched_held old new name holds = record { file = holds.told; is_log = holds.is_log; log = λ _. holds.log }

  -- an opening that failed changes counts alone
  record Refused (was now : Option (Kept room)) : Type 0 where
    holds : Holds was now
    sort : kept_sort now ≡ kept_sort was
    failed_at : kept_failed_at now ≡ kept_failed_at was

  refused_same : (kept : Option (Kept room)) → Refused kept kept
  refused_same kept = record { holds = holds_same kept; sort = refl; failed_at = refl }

  can_open_closed : (sort : Opened) (d : Drawer room) → drawer_sort d ≡ None → true ≡ not (can_open sort (Some (InDrawer d))) → nat_eq d.log_faults 0 ≡ false
  can_open_closed opened.Output d closed failed =
      no_spare (nat_eq d.log_faults 0) (is_some d.spare) (spare_of (is_some d.spare) (stored_sort d.stored) closed) failed
  can_open_closed opened.Log d closed failed =
      no_file (nat_eq d.log_faults 0) (stored_sort d.stored) (sort_of (is_some d.spare) (stored_sort d.stored) closed) failed

  refused_output : (d : Drawer room) (b : Bool) → nat_eq d.log_faults 0 ≡ false → b ≡ false
      → Refused (Some (InDrawer d)) (Some (InDrawer (if b then record d { spare = None } else record d { out_faults = count_sum d.out_faults 1 })))
  refused_output d true test is = absurd (true≢false is)
  refused_output d false test is = record {
    holds = holds_stored d (record d { out_faults = count_sum d.out_faults 1 }) refl;
    sort = refl;
    failed_at = failed_more room d.out_faults d.log_faults test;
  }

  refused_log : (d : Drawer room) (b : Bool) → nat_eq d.log_faults 0 ≡ false → b ≡ false
      → Refused (Some (InDrawer d)) (Some (InDrawer (if b then record d { stored = OpenLog } else record d { log_faults = count_sum d.log_faults 1 })))
  refused_log d true test is = absurd (true≢false is)
  refused_log d false test is = record {
    holds = holds_stored d (record d { log_faults = count_sum d.log_faults 1 }) refl;
    sort = refl;
    failed_at = log_more room d.out_faults d.log_faults test;
  }

  refused_drawer : (sort : Opened) (d : Drawer room) → nat_eq d.log_faults 0 ≡ false → Refused (Some (InDrawer d)) (Some (InDrawer (drawer_opened sort d)))
  refused_drawer opened.Output d test = refused_output d (nat_eq d.log_faults 0) test test
  refused_drawer opened.Log d test = refused_log d (nat_eq d.log_faults 0) test test

  refused_kept : (sort : Opened) (kept : Option (Kept room)) → kept_sort kept ≡ None → true ≡ not (can_open sort kept) → Refused kept (kept_opened sort kept)
  refused_kept sort None closed failed = refused_same None
  refused_kept sort (Some (Input source)) closed failed = refused_same (Some (Input source))
  refused_kept sort (Some (InDrawer d)) closed failed = refused_drawer sort d (can_open_closed sort d closed failed)

  -- an opening that failed
  pub stays_refused : (old new : SureRoom room) (name : List ℕ) (sort : Opened) → KeepsUnder old new name (kept_opened sort (kept_under old name))
      → kept_sort (kept_under old name) ≡ None → true ≡ not (can_open sort (kept_under old name))
      → old.in_faults ≤ new.in_faults → old.out_faults ≤ new.out_faults → old.log_faults ≤ new.log_faults → SameBut (sure_room_view old) (sure_room_view new) []
  stays_refused old new name sort keeps closed failed ins outs logs =
      let grows = grows_opened sort (kept_under old name) (old.files.well name) in
      let refused = refused_kept sort (kept_under old name) closed failed in
      record {
        tells = refl;
        files = λ n _. (of_each Refused old new name _ keeps refused_same refused n).holds.told;
        open_names = λ n _. (of_each Refused old new name _ keeps refused_same refused n).sort;
        log_names = λ n _. (of_each Refused old new name _ keeps refused_same refused n).holds.is_log;
        logs = λ n _ _. (of_each Refused old new name _ keeps refused_same refused n).holds.log;
        ins = λ n. (of_each Grows old new name _ keeps grows_same grows n).ins _ _ ins;
        outs = λ n. (of_each Grows old new name _ keeps grows_same grows n).outs _ _ outs;
        log_counts = λ n. (of_each Grows old new name _ keeps grows_same grows n).logs _ _ logs;
        failed_ats = λ n _. (of_each Refused old new name _ keeps refused_same refused n).failed_at;
        promises = λ n. (of_each Grows old new name _ keeps grows_same grows n).promise;
        sizes = keeps.size;
      }

  output_if : (d : Drawer room) (b : Bool) → nat_eq d.log_faults 0 ≡ b → (drawer_opened opened.Output d).stored ≡ d.stored
  output_if d true test = rw test refl
  output_if d false test = rw test refl

  failed_if : (d : Drawer room) (b : Bool) → nat_eq d.log_faults 0 ≡ b
      → drawer_failed_at (if b then record d { spare = None } else record d { out_faults = count_sum d.out_faults 1 }) ≡ drawer_failed_at d
  failed_if d true test = refl
  failed_if d false test = failed_more room d.out_faults d.log_faults test

  holds_output : (kept : Option (Kept room)) → Holds kept (kept_opened opened.Output kept)
  holds_output None = holds_same None
  holds_output (Some (Input source)) = holds_same (Some (Input source))
  holds_output (Some (InDrawer d)) = holds_stored d (drawer_opened opened.Output d) (output_if d (nat_eq d.log_faults 0) refl)

  failed_output : (kept : Option (Kept room)) → kept_failed_at (kept_opened opened.Output kept) ≡ kept_failed_at kept
  failed_output None = refl
  failed_output (Some (Input source)) = refl
  failed_output (Some (InDrawer d)) = failed_if d (nat_eq d.log_faults 0) refl

  -- an output was begun, or not
  pub begun_untouched : (old new : SureRoom room) (name : List ℕ) → KeepsUnder old new name (kept_opened opened.Output (kept_under old name))
      → IsUntouched (sure_room_view old) (sure_room_view new) name
  begun_untouched old new name keeps =
      untouched_held old new name (subst (Holds (kept_under old name)) (sym keeps.here) (holds_output (kept_under old name)))

  pub begun_failed_at : (old new : SureRoom room) (name : List ℕ) → KeepsUnder old new name (kept_opened opened.Output (kept_under old name))
      → kept_failed_at (kept_under new name) ≡ kept_failed_at (kept_under old name)
  begun_failed_at old new name keeps = ap kept_failed_at keeps.here ∙ failed_output (kept_under old name)

  begun_if : (d : Drawer room) (b : Bool) → nat_eq d.log_faults 0 ≡ b → false ≡ not (can_open opened.Output (Some (InDrawer d)))
      → drawer_sort (drawer_opened opened.Output d) ≡ Some AsOutput
  begun_if d true test ready = rw test refl
  begun_if d false test ready = let no : false ≡ true = ready ∙ ap (λ b. not (b && is_some d.spare)) test in cc

  -- an output that was begun is open
  pub begun_sort : (kept now : Option (Kept room)) → now ≡ kept_opened opened.Output kept → false ≡ not (can_open opened.Output kept)
      → kept_sort now ≡ Some AsOutput
  begun_sort None now is ready = let no : false ≡ true = ready in cc
  begun_sort (Some (Input source)) now is ready = let no : false ≡ true = ready in cc
  begun_sort (Some (InDrawer d)) now is ready = ap kept_sort is ∙ begun_if d (nat_eq d.log_faults 0) refl ready

  opened_log : (d : Drawer room) (b : Bool) → nat_eq d.log_faults 0 ≡ b → drawer_sort d ≡ None → false ≡ not (can_open opened.Log (Some (InDrawer d)))
      → drawer_sort (drawer_opened opened.Log d) ≡ Some AsLog
  opened_log d true test closed ready = rw (test, spare_of (is_some d.spare) (stored_sort d.stored) closed) refl
  opened_log d false test closed ready = let no : false ≡ true = ready ∙ ap (λ b. not (b && is_none (stored_sort d.stored))) test in cc

  -- and so is a log
  pub log_sort : (kept now : Option (Kept room)) → now ≡ kept_opened opened.Log kept → kept_sort kept ≡ None → false ≡ not (can_open opened.Log kept)
      → kept_sort now ≡ Some AsLog
  log_sort None now is closed ready = let no : false ≡ true = ready in cc
  log_sort (Some (Input source)) now is closed ready = let no : false ≡ true = ready in cc
  log_sort (Some (InDrawer d)) now is closed ready = ap kept_sort is ∙ opened_log d (nat_eq d.log_faults 0) refl closed ready

  holds_given_up : (held : Held room) (more : ℕ) (kept : Option (Kept room)) → Holds kept (kept_closed (closing.GivenUp held) more kept)
  holds_given_up held more None = holds_same None
  holds_given_up held more (Some (Input source)) = holds_same (Some (Input source))
  holds_given_up held more (Some (InDrawer d)) = holds_stored d (drawer_closed (closing.GivenUp held) more d) refl

  -- an output was given up
  pub given_up_untouched : (old new : SureRoom room) (name : List ℕ) (held : Held room) (more : ℕ)
      → KeepsUnder old new name (kept_closed (closing.GivenUp held) more (kept_under old name)) → IsUntouched (sure_room_view old) (sure_room_view new) name
  given_up_untouched old new name held more keeps =
      untouched_held old new name (subst (Holds (kept_under old name)) (sym keeps.here) (holds_given_up held more (kept_under old name)))

  pub given_up_not_put : (old new : SureRoom room) (name : List ℕ) (held : Held room) (more : ℕ) (bytes : Option (List ℕ))
      → KeepsUnder old new name (kept_closed (closing.GivenUp held) more (kept_under old name)) → IsPutOrNot (sure_room_view old) (sure_room_view new) name bytes
  given_up_not_put old new name held more bytes keeps = Untouched (given_up_untouched old new name held more keeps)

  -- what a drawer that was open has after its close, seen by its name
  closed_drawer : (given : Closing room) (more : ℕ) (d : Drawer room) → IsDrawerWell d → drawer_sort d ≡ Some (closing_sort given)
      → drawer_sort (drawer_closed given more d) ≡ None
  closed_drawer (closing.Log disk) more d well is = rw (open_spare d is) refl
  closed_drawer (closing.Put held) more d well is = rw (has_memory d.stored (replaced d well is)) refl
  closed_drawer (closing.GivenUp held) more d well is = replaced d well is

  pub closed_sort : (kept now : Option (Kept room)) (given : Closing room) (more : ℕ) → IsKeptWell kept → now ≡ kept_closed given more kept
      → kept_sort kept ≡ Some (closing_sort given) → kept_sort now ≡ None
  closed_sort None now given more well is was = some_not_none (sym was)
  closed_sort (Some (Input source)) now given more well is was = some_not_none (sym was)
  closed_sort (Some (InDrawer d)) now given more well is was = ap kept_sort is ∙ closed_drawer given more d well was

  pub put_told : (old new : SureRoom room) (name : List ℕ) (held : Held room) (more : ℕ)
      → KeepsUnder old new name (kept_closed (closing.Put held) more (kept_under old name)) → kept_sort (kept_under old name) ≡ Some AsOutput
      → IsPut (sure_room_view old) (sure_room_view new) name (Some held.buffer.items)
  put_told old new name held more keeps was = here (kept_under old name) keeps.here was
    where
      here : (kept : Option (Kept room)) → kept_under new name ≡ kept_closed (closing.Put held) more kept → kept_sort kept ≡ Some AsOutput
          → IsPut (sure_room_view old) (sure_room_view new) name (Some held.buffer.items)
      here None is sort = some_not_none (sym sort)
      here (Some (Input source)) is sort = some_not_none (sym sort)
      here (Some (InDrawer d)) is sort = record { file = λ _. ap told_kept is; no_log = ap is_kept_log is }

  -- an output's close adds its faults
  pub output_counts : (kept now : Option (Kept room)) (given : Closing room) (more a : ℕ) → now ≡ kept_closed given more kept
      → kept_sort kept ≡ Some AsOutput → closing_sort given ≡ AsOutput → faults_out now a ≡ count_sum (faults_out kept a) more
  output_counts None now given more a is was sort = some_not_none (sym was)
  output_counts (Some (Input source)) now given more a is was sort = some_not_none (sym was)
  output_counts (Some (InDrawer d)) now (closing.Log disk) more a is was sort = let no : AsLog ≡ AsOutput = sort in cc
  output_counts (Some (InDrawer d)) now (closing.Put held) more a is was sort = ap (λ k. faults_out k a) is
  output_counts (Some (InDrawer d)) now (closing.GivenUp held) more a is was sort = ap (λ k. faults_out k a) is

  at_most_room : (b : Bool) → (if b then 0 else room) ≤ room
  at_most_room true = omega arith
  at_most_room false = omega arith

  failed_most : (outs logs more len n : ℕ) → more ≡ n → outs ≤ greatest_count → (more ≢ 0 → len ≡ room)
      → (if nat_eq (count_sum outs more) 0 && nat_eq logs 0 then 0 else room) ≤ max (if nat_eq outs 0 && nat_eq logs 0 then 0 else room) len
  failed_most outs logs more len zero none most full =
      let same = no_more room outs logs most in
      subst (λ m. (if nat_eq (count_sum outs m) 0 && nat_eq logs 0 then 0 else room) ≤ max (if nat_eq outs 0 && nat_eq logs 0 then 0 else room) len)
      (sym none) (omega (arith, same))
  failed_most outs logs more len (suc n) some most full =
      let all = full (λ none. absurd (omega (arith, none, some))) in
      let within = at_most_room (nat_eq (count_sum outs more) 0 && nat_eq logs 0) in
      omega (arith, all, within)

  -- an output that was closed with no fault, or had all its room
  pub output_failed_at : (kept now : Option (Kept room)) (given : Closing room) (more len : ℕ) → IsKeptWell kept → now ≡ kept_closed given more kept
      → closing_sort given ≡ AsOutput → (more ≢ 0 → len ≡ room) → kept_failed_at now ≤ max (kept_failed_at kept) len
  output_failed_at None now given more len well is sort full = let same = ap kept_failed_at is in omega (arith, same)
  output_failed_at (Some (Input source)) now given more len well is sort full = let same = ap kept_failed_at is in omega (arith, same)
  output_failed_at (Some (InDrawer d)) now (closing.Log disk) more len well is sort full = let no : AsLog ≡ AsOutput = sort in cc
  output_failed_at (Some (InDrawer d)) now (closing.Put held) more len well is sort full =
      let same = ap kept_failed_at is in
      let most = failed_most d.out_faults d.log_faults more len more refl well.outs full in
      omega (arith, same, most)
  output_failed_at (Some (InDrawer d)) now (closing.GivenUp held) more len well is sort full =
      let same = ap kept_failed_at is in
      let most = failed_most d.out_faults d.log_faults more len more refl well.outs full in
      omega (arith, same, most)

  -- one whose close counted a fault more
  pub faulty_failed_at : (kept now : Option (Kept room)) (held : Held room) (faults len : ℕ) → IsKeptWell kept
      → now ≡ kept_closed (closing.GivenUp held) (count_sum faults 1) kept → faults ≢ 0 → (faults ≢ 0 → len ≡ room)
      → kept_failed_at now ≤ max (kept_failed_at kept) len
  faulty_failed_at kept now held faults len well is some full = output_failed_at kept now (closing.GivenUp held) (count_sum faults 1) len well is refl (λ _. full some)

  -- a log that was closed is the closed log, and its close adds its faults
  pub log_counts : (kept now : Option (Kept room)) (disk : SureDisk room) (more a : ℕ) → now ≡ kept_closed (closing.Log disk) more kept
      → kept_sort kept ≡ Some AsLog → faults_log now a ≡ count_sum (faults_log kept a) more
  log_counts None now disk more a is was = some_not_none (sym was)
  log_counts (Some (Input source)) now disk more a is was = some_not_none (sym was)
  log_counts (Some (InDrawer d)) now disk more a is was = ap (λ k. faults_log k a) is

  pub log_told : (kept now : Option (Kept room)) (disk : SureDisk room) (more : ℕ) → now ≡ kept_closed (closing.Log disk) more kept
      → kept_sort kept ≡ Some AsLog → told_kept now ≡ Some disk.held.buffer.items
  log_told None now disk more is was = some_not_none (sym was)
  log_told (Some (Input source)) now disk more is was = some_not_none (sym was)
  log_told (Some (InDrawer d)) now disk more is was = ap told_kept is

  pub log_is_log : (kept now : Option (Kept room)) (disk : SureDisk room) (more : ℕ) → now ≡ kept_closed (closing.Log disk) more kept
      → kept_sort kept ≡ Some AsLog → is_kept_log now ≡ true
  log_is_log None now disk more is was = some_not_none (sym was)
  log_is_log (Some (Input source)) now disk more is was = some_not_none (sym was)
  log_is_log (Some (InDrawer d)) now disk more is was = ap is_kept_log is

  pub closed_log : (kept now : Option (Kept room)) (disk : SureDisk room) (more : ℕ) → now ≡ kept_closed (closing.Log disk) more kept
      → kept_sort kept ≡ Some AsLog → SameDisk (sure_disk_view disk) (kept_log now)
  closed_log None now disk more is was = some_not_none (sym was)
  closed_log (Some (Input source)) now disk more is was = some_not_none (sym was)
  closed_log (Some (InDrawer d)) now disk more is was = same_log (Some (InDrawer (drawer_closed (closing.Log disk) more d))) now is

  -- an input that is closed has no faults to add
  pub counts_none : (kept : Option (Kept room)) (old new : ℕ) → new ≡ count_sum old 0 → faults_in kept new ≡ count_sum (faults_in kept old) 0
  counts_none None old new is = is
  counts_none (Some (Input source)) old new is = omega arith
  counts_none (Some (InDrawer d)) old new is = is
