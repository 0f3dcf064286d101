-- What clauses see of a room in memory that fails for want of room alone.
use Rattle.std.specs.Prelude.{◌≡◌, ◌≢◌, ℕ, List, Option, Some, None, Bool, true, false, is_some, if◌then◌else◌, refl}
use Rattle.std.proofs.Common.{sym, ◌∙◌}
use Rattle.outside.specs.Room.{RoomView, OpenSort, AsOutput, AsLog, HoldsUpTo}
use Rattle.outside_sure.specs.SureKept.{told_stored, stored_sort, is_stored_log, told_kept, kept_sort, is_kept_log, kept_log, faults_in, faults_out, faults_log, kept_failed_at, kept_promise, can_open, kept_opened, kept_closed}
use Rattle.outside_sure.specs.SureFiles.{kept_in}
use Rattle.outside_sure.specs.declared.stored.Stored.{Stored}
use Rattle.outside_sure.specs.declared.stored.Stored.TheVariants.{Blank, File, Log, OpenLog}
use Rattle.outside_sure.specs.declared.drawer.Closing.{Closing}
use Rattle.outside_sure.specs.declared.drawer.Opened.{Opened}
use Rattle.outside_sure.specs.declared.kept.Kept.{Kept}
use Rattle.outside_sure.specs.declared.kept.Kept.TheVariants.{Input, InDrawer}
use Rattle.outside_sure.specs.declared.sure_room.SureRoom.{SureRoom}

never_log : {X : Type 0} {sort : Option OpenSort} → sort ≡ None → sort ≡ Some AsLog → X
never_log none is = let no : None ≡ Some AsLog = sym none ∙ is in cc

-- a drawer that is open as a log isn't as an output
as_log : (spare : Bool) (sort : Option OpenSort) → (if spare then sort else Some AsOutput) ≡ Some AsLog → sort ≡ Some AsLog
as_log true sort is = is
as_log false sort is = let no : Some AsOutput ≡ Some AsLog = is in cc

module _ {room : ℕ} where
  -- what is kept under a name
  abbrev pub kept_under : SureRoom room → List ℕ → Option (Kept room)
  kept_under sure name = kept_in sure.files.items.items name

  -- the room as any room is seen
  abbrev pub sure_room_view : SureRoom room → RoomView
  sure_room_view sure = record {
    tells = true;
    is_large = sure.large;
    file = λ name. told_kept (kept_under sure name);
    open_as = λ name. kept_sort (kept_under sure name);
    has_log = λ name. is_kept_log (kept_under sure name);
    log = λ name. kept_log (kept_under sure name);
    in_faults = λ name. faults_in (kept_under sure name) sure.in_faults;
    out_faults = λ name. faults_out (kept_under sure name) sure.out_faults;
    log_faults = λ name. faults_log (kept_under sure name) sure.log_faults;
    failed_at = λ name. kept_failed_at (kept_under sure name);
    lefts = sure.closed;
    promise = λ name. kept_promise (kept_under sure name);
  }

  -- what is kept under each name stays, and whether the room is large
  pub record SameKept (old new : SureRoom room) : Type 0 where
    pub size : new.large ≡ old.large
    pub under : (n : List ℕ) → kept_under new n ≡ kept_under old n

  -- this is kept under the name now; what is kept under any other stays, and whether the room is large
  pub record KeepsUnder (old new : SureRoom room) (name : List ℕ) (kept : Option (Kept room)) : Type 0 where
    pub size : new.large ≡ old.large
    pub here : kept_under new name ≡ kept
    pub others : (n : List ℕ) → n ≢ name → kept_under new n ≡ kept_under old n

  -- the name was opened so, as far as it can be
  abbrev pub Opens : SureRoom room → SureRoom room → List ℕ → Opened → Type 0
  Opens old new name sort = KeepsUnder old new name (kept_opened sort (kept_under old name))

  -- the name was closed so, with as many faults more
  abbrev pub Closes : SureRoom room → SureRoom room → List ℕ → Closing room → ℕ → Type 0
  Closes old new name given more = KeepsUnder old new name (kept_closed given more (kept_under old name))

  -- the name is a drawer without a fault, which has a file of these bytes or none; what is kept under any other name stays, and whether the
  -- room is large
  pub record MakesDrawer (old new : SureRoom room) (name : List ℕ) (bytes : Option (List ℕ)) : Type 0 where
    pub size : new.large ≡ old.large
    pub file : told_kept (kept_under new name) ≡ bytes
    pub opens : (sort : Opened) → can_open sort (kept_under new name) ≡ true
    pub failed_at : kept_failed_at (kept_under new name) ≡ 0
    pub closed : kept_sort (kept_under new name) ≡ None
    pub no_log : is_kept_log (kept_under new name) ≡ false
    pub promise : kept_promise (kept_under new name) ≡ HoldsUpTo room
    pub others : (n : List ℕ) → n ≢ name → kept_under new n ≡ kept_under old n

  -- the room's counts of failed openings as input, output and log
  pub record HasSureCounts (sure : SureRoom room) (inputs outputs of_logs : ℕ) : Type 0 where
    pub ins : sure.in_faults ≡ inputs
    pub outs : sure.out_faults ≡ outputs
    pub logs : sure.log_faults ≡ of_logs

  stored_untold : (stored : Stored room) → stored_sort stored ≡ Some AsLog → told_stored stored ≡ None
  stored_untold (Blank held) is = refl
  stored_untold (File held) is = never_log refl is
  stored_untold (Log disk) is = never_log refl is
  stored_untold OpenLog is = refl

  stored_unlogged : (stored : Stored room) → stored_sort stored ≡ Some AsLog → is_stored_log stored ≡ false
  stored_unlogged (Blank held) is = refl
  stored_unlogged (File held) is = refl
  stored_unlogged (Log disk) is = never_log refl is
  stored_unlogged OpenLog is = refl

  -- an open log tells no file
  pub kept_untold : (kept : Option (Kept room)) → kept_sort kept ≡ Some AsLog → told_kept kept ≡ None
  kept_untold None is = refl
  kept_untold (Some (Input source)) is = never_log refl is
  kept_untold (Some (InDrawer drawer)) is = stored_untold drawer.stored (as_log (is_some drawer.spare) (stored_sort drawer.stored) is)

  -- and is no closed log
  pub kept_unlogged : (kept : Option (Kept room)) → kept_sort kept ≡ Some AsLog → is_kept_log kept ≡ false
  kept_unlogged None is = refl
  kept_unlogged (Some (Input source)) is = refl
  kept_unlogged (Some (InDrawer drawer)) is = stored_unlogged drawer.stored (as_log (is_some drawer.spare) (stored_sort drawer.stored) is)
