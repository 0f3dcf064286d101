-- What a sure room keeps under a name.
use Rattle.std.specs.Prelude.{◌≡◌, ◌≢◌, ℕ, ◌≤◌, List, [], length, Option, Some, None, Bool, true, false, ◌&&◌, is_some, is_none, nat_eq, if◌then◌else◌}
use Rattle.outside.specs.Disk.{DiskView}
use Rattle.outside.specs.Fault.{count_sum, greatest_count}
use Rattle.outside.specs.Room.{OpenSort, AsOutput, AsLog, Promise, Unpromised, ReadsAlways, HoldsUpTo, bytes_or_none}
use Rattle.outside_sure.specs.SureDisk.{sure_view, sure_disk_view}
use Rattle.outside_sure.specs.declared.stored.Stored.{Stored}
use Rattle.outside_sure.specs.declared.stored.Stored.TheVariants.{Blank, File, Log, OpenLog}
use Rattle.outside_sure.specs.declared.held.Held.{Held}
use Rattle.outside_sure.specs.declared.drawer.Drawer.{Drawer}
use Rattle.outside_sure.specs.declared.drawer.Opened.{Opened}
use Rattle.outside_sure.specs.declared.drawer.Opened.TheVariants as opened
use Rattle.outside_sure.specs.declared.drawer.Closing.{Closing}
use Rattle.outside_sure.specs.declared.drawer.Closing.TheVariants as closing
use Rattle.outside_sure.specs.declared.kept.Kept.{Kept}
use Rattle.outside_sure.specs.declared.kept.Kept.TheVariants.{Input, InDrawer}

module _ {room : ℕ} where
  -- the bytes of a drawer's file, where it has one that isn't open
  abbrev pub told_stored : Stored room → Option (List ℕ)
  told_stored (Blank held) = None
  told_stored (File held) = Some held.buffer.items
  told_stored (Log disk) = Some disk.held.buffer.items
  told_stored OpenLog = None

  -- how it is open as a log
  abbrev pub stored_sort : Stored room → Option OpenSort
  stored_sort (Blank held) = None
  stored_sort (File held) = None
  stored_sort (Log disk) = None
  stored_sort OpenLog = Some AsLog

  -- whether it was closed as a log
  abbrev pub is_stored_log : Stored room → Bool
  is_stored_log (Blank held) = false
  is_stored_log (File held) = false
  is_stored_log (Log disk) = true
  is_stored_log OpenLog = false

  -- a closed log as any disk is seen, and an empty disk for what is none
  abbrev pub stored_log : Stored room → DiskView
  stored_log (Blank held) = sure_view [] 0
  stored_log (File held) = sure_view [] 0
  stored_log (Log disk) = sure_disk_view disk
  stored_log OpenLog = sure_view [] 0

  -- a drawer that was just made, with a file of these bytes or none
  pub record IsNewStored (bytes : Option (List ℕ)) (stored : Stored room) : Type 0 where
    pub told : told_stored stored ≡ bytes
    pub closed : stored_sort stored ≡ None
    pub no_log : is_stored_log stored ≡ false

  -- the memory of what isn't open
  abbrev pub memory_of : Stored room → Option (Held room)
  memory_of (Blank held) = Some held
  memory_of (File held) = Some held
  memory_of (Log disk) = Some disk.held
  memory_of OpenLog = None

  -- how a drawer is open
  abbrev pub drawer_sort : Drawer room → Option OpenSort
  drawer_sort drawer = if is_some drawer.spare then stored_sort drawer.stored else Some AsOutput

  -- a drawer that was just made, with a file of these bytes or none
  pub record IsNewDrawer (bytes : Option (List ℕ)) (drawer : Drawer room) : Type 0 where
    pub stored : IsNewStored bytes drawer.stored
    pub spare : is_some drawer.spare ≡ true
    pub outs : drawer.out_faults ≡ 0
    pub logs : drawer.log_faults ≡ 0

  -- whether a drawer is opened so: none is whose log had a fault, and none that is open so
  abbrev pub can_open_drawer : Opened → Drawer room → Bool
  can_open_drawer opened.Output drawer = nat_eq drawer.log_faults 0 && is_some drawer.spare
  can_open_drawer opened.Log drawer = nat_eq drawer.log_faults 0 && is_none (stored_sort drawer.stored)

  -- what it is after an opening: its memory for outputs is taken, or its file; or a fault more is counted
  abbrev pub drawer_opened : Opened → Drawer room → Drawer room
  drawer_opened opened.Output drawer =
      if nat_eq drawer.log_faults 0 then record drawer { spare = None } else record drawer { out_faults = count_sum drawer.out_faults 1 }
  drawer_opened opened.Log drawer =
      if nat_eq drawer.log_faults 0 then record drawer { stored = OpenLog } else record drawer { log_faults = count_sum drawer.log_faults 1 }

  -- what it is after a close: it has the log; or the output, whose place the memory of what was there takes; or what it had
  abbrev pub drawer_closed : Closing room → ℕ → Drawer room → Drawer room
  drawer_closed (closing.Log disk) more drawer = record drawer { stored = Log disk; log_faults = count_sum drawer.log_faults more }
  drawer_closed (closing.Put held) more drawer =
      record drawer { stored = File held; spare = memory_of drawer.stored; out_faults = count_sum drawer.out_faults more }
  drawer_closed (closing.GivenUp held) more drawer = record drawer { spare = Some held; out_faults = count_sum drawer.out_faults more }

  -- how far its outputs came that failed: each filled the room
  abbrev pub drawer_failed_at : Drawer room → ℕ
  drawer_failed_at drawer = if nat_eq drawer.out_faults 0 && nat_eq drawer.log_faults 0 then 0 else room

  -- the file that is told of what is kept under a name
  abbrev pub told_kept : Option (Kept room) → Option (List ℕ)
  told_kept None = None
  told_kept (Some (Input source)) = Some source
  told_kept (Some (InDrawer drawer)) = told_stored drawer.stored

  -- as what it is open, where it is
  abbrev pub kept_sort : Option (Kept room) → Option OpenSort
  kept_sort None = None
  kept_sort (Some (Input source)) = None
  kept_sort (Some (InDrawer drawer)) = drawer_sort drawer

  -- whether it is a file that was closed as a log
  abbrev pub is_kept_log : Option (Kept room) → Bool
  is_kept_log None = false
  is_kept_log (Some (Input source)) = false
  is_kept_log (Some (InDrawer drawer)) = is_stored_log drawer.stored

  -- the disk of that log
  abbrev pub kept_log : Option (Kept room) → DiskView
  kept_log None = sure_view [] 0
  kept_log (Some (Input source)) = sure_view [] 0
  kept_log (Some (InDrawer drawer)) = stored_log drawer.stored

  -- the faults of a name's inputs: none for an input, else the room's count
  abbrev pub faults_in : Option (Kept room) → ℕ → ℕ
  faults_in None count = count
  faults_in (Some (Input source)) count = 0
  faults_in (Some (InDrawer drawer)) count = count

  -- the faults of a name's outputs: a drawer's own count, else the room's count
  abbrev pub faults_out : Option (Kept room) → ℕ → ℕ
  faults_out None count = count
  faults_out (Some (Input source)) count = count
  faults_out (Some (InDrawer drawer)) count = drawer.out_faults

  -- and of its logs
  abbrev pub faults_log : Option (Kept room) → ℕ → ℕ
  faults_log None count = count
  faults_log (Some (Input source)) count = count
  faults_log (Some (InDrawer drawer)) count = drawer.log_faults

  -- how far its outputs came that failed
  abbrev pub kept_failed_at : Option (Kept room) → ℕ
  kept_failed_at None = 0
  kept_failed_at (Some (Input source)) = 0
  kept_failed_at (Some (InDrawer drawer)) = drawer_failed_at drawer

  -- what is promised of it
  abbrev pub kept_promise : Option (Kept room) → Promise
  kept_promise None = Unpromised
  kept_promise (Some (Input source)) = ReadsAlways
  kept_promise (Some (InDrawer drawer)) = HoldsUpTo room

  -- whether it is an input
  abbrev pub is_input : Option (Kept room) → Bool
  is_input None = false
  is_input (Some (Input source)) = true
  is_input (Some (InDrawer drawer)) = false

  -- whether it is a drawer that is opened so
  abbrev pub can_open : Opened → Option (Kept room) → Bool
  can_open sort None = false
  can_open sort (Some (Input source)) = false
  can_open sort (Some (InDrawer drawer)) = can_open_drawer sort drawer

  -- what it is after an opening and after a close, which are of drawers alone
  abbrev pub kept_opened : Opened → Option (Kept room) → Option (Kept room)
  kept_opened sort None = None
  kept_opened sort (Some (Input source)) = Some (Input source)
  kept_opened sort (Some (InDrawer drawer)) = Some (InDrawer (drawer_opened sort drawer))

  -- a drawer gets back what was opened of it, and counts the faults; an input and nothing stay
  abbrev pub kept_closed : Closing room → ℕ → Option (Kept room) → Option (Kept room)
  kept_closed given more None = None
  kept_closed given more (Some (Input source)) = Some (Input source)
  kept_closed given more (Some (InDrawer drawer)) = Some (InDrawer (drawer_closed given more drawer))

  -- how what is given back was open
  abbrev pub closing_sort : Closing room → OpenSort
  closing_sort (closing.Log disk) = AsLog
  closing_sort (closing.Put held) = AsOutput
  closing_sort (closing.GivenUp held) = AsOutput

  -- a log that is given back with so many faults fills the room, where it had any
  abbrev pub IsFull : Closing room → ℕ → Type 0
  IsFull (closing.Log disk) more = more ≢ 0 → length disk.held.buffer.items ≡ room
  IsFull (closing.Put held) more = Unit {0}
  IsFull (closing.GivenUp held) more = Unit {0}

  -- a drawer is open as one thing at most, and where its log had a fault it isn't open, and has a file that fills the room
  pub record IsDrawerWell (drawer : Drawer room) : Type 0 where
    pub outs : drawer.out_faults ≤ greatest_count
    pub logs : drawer.log_faults ≤ greatest_count
    pub apart : is_some drawer.spare ≡ false → stored_sort drawer.stored ≡ None
    pub closed : drawer.log_faults ≢ 0 → drawer_sort drawer ≡ None
    pub full : drawer.log_faults ≢ 0 → length (bytes_or_none (told_stored drawer.stored)) ≡ room

  -- a drawer is kept well; an input and nothing always are
  abbrev pub IsKeptWell : Option (Kept room) → Type 0
  IsKeptWell None = Unit {0}
  IsKeptWell (Some (Input source)) = Unit {0}
  IsKeptWell (Some (InDrawer drawer)) = IsDrawerWell drawer
