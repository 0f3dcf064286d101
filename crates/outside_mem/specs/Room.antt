-- What clauses see of a room in memory.
use Rattle.std.specs.Prelude.{◌≡◌, ◌≢◌, ℕ, ◌-◌, ◌^◌, List, [], Option, Some, None, Bool, true, false, ◌&&◌, not, nat_eq, if◌then◌else◌, refl}
use Rattle.outside.specs.Disk.{DiskView}
use Rattle.outside.specs.Room.{RoomView, OpenSort, AsOutput, AsLog, Unpromised, bytes_or_none}
use Rattle.outside_mem.specs.Disk.{view_of}
use Rattle.outside_mem.specs.declared.disk.MemDisk.{MemDisk}
use Rattle.outside_mem.specs.MemDisk.{disk_view}
use Rattle.outside_mem.specs.declared.files.FileState.{FileState}
use Rattle.outside_mem.specs.declared.files.FileState.TheVariants.{Absent, Closed, ClosedLog, OpenLog}
use Rattle.outside_mem.specs.declared.room.MemRoom.{MemRoom}
use Rattle.outside_mem.specs.Files.{NamedFile, file_in, told_file}
use Rattle.outside_mem.specs.Calls.{fresh_calls, is_next_listed}
use Rattle.outside_mem.specs.Objects.{SourceState, SinkState}

-- what stands under a name, and what is to fail there
abbrev pub file_under : MemRoom → List ℕ → NamedFile
file_under room name = file_in room.files.items name

-- how what stands under a name is open: as a log, or an output of the name is
abbrev pub sort_of : FileState → Bool → Option OpenSort
sort_of Absent output = if output then Some AsOutput else None
sort_of (Closed bytes) output = if output then Some AsOutput else None
sort_of (ClosedLog disk) output = if output then Some AsOutput else None
sort_of OpenLog output = Some AsLog

-- as what the file is open, where it is
abbrev pub open_sort : NamedFile → Option OpenSort
open_sort file = sort_of file.state file.is_output

-- whether it was closed as a log
abbrev pub is_closed_log : FileState → Bool
is_closed_log Absent = false
is_closed_log (Closed bytes) = false
is_closed_log (ClosedLog disk) = true
is_closed_log OpenLog = false

-- a closed log as any disk is seen, and an empty disk for what is none
abbrev pub log_view : FileState → DiskView
log_view Absent = view_of [] [] [] 0
log_view (Closed bytes) = view_of [] [] [] 0
log_view (ClosedLog disk) = disk_view disk
log_view OpenLog = view_of [] [] [] 0

-- the room as any room is seen: it tells its files and closed logs, and has one count per sort for every name
abbrev pub room_view : MemRoom → RoomView
room_view room = record {
  tells = true;
  is_large = room.large;
  file = λ name. told_file (file_under room name).state;
  open_as = λ name. open_sort (file_under room name);
  has_log = λ name. is_closed_log (file_under room name).state;
  log = λ name. log_view (file_under room name).state;
  in_faults = λ _. room.in_faults;
  out_faults = λ _. room.out_faults;
  log_faults = λ _. room.log_faults;
  failed_at = λ _. 0;
  lefts = room.closed;
  promise = λ _. Unpromised;
}

never_log : {X : Type 0} (output : Bool) → (if output then Some AsOutput else None) ≡ Some AsLog → X
never_log true is = let no : Some AsOutput ≡ Some AsLog = is in cc
never_log false is = let no : None ≡ Some AsLog = is in cc

untold_log : (state : FileState) (output : Bool) → sort_of state output ≡ Some AsLog → told_file state ≡ None
untold_log Absent output is = refl
untold_log (Closed bytes) output is = never_log output is
untold_log (ClosedLog disk) output is = never_log output is
untold_log OpenLog output is = refl

unclosed_log : (state : FileState) (output : Bool) → sort_of state output ≡ Some AsLog → is_closed_log state ≡ false
unclosed_log Absent output is = refl
unclosed_log (Closed bytes) output is = refl
unclosed_log (ClosedLog disk) output is = never_log output is
unclosed_log OpenLog output is = refl

-- an open log tells no file
pub open_is_untold : (file : NamedFile) → open_sort file ≡ Some AsLog → told_file file.state ≡ None
open_is_untold file is = untold_log file.state file.is_output is

-- and is no closed log
pub open_is_unlogged : (file : NamedFile) → open_sort file ≡ Some AsLog → is_closed_log file.state ≡ false
open_is_unlogged file is = unclosed_log file.state file.is_output is

-- what stands under each name stays
pub record SameFiles (old new : MemRoom) : Type 0 where
  pub under : (n : List ℕ) → file_under new n ≡ file_under old n

-- this stands under the name now, and what stands under any other stays
pub record ChangesUnder (old new : MemRoom) (name : List ℕ) (file : NamedFile) : Type 0 where
  pub here : file_under new name ≡ file
  pub others : (n : List ℕ) → n ≢ name → file_under new n ≡ file_under old n

-- the faults of all inputs, of all outputs, and of all logs
abbrev pub in_count : MemRoom → ℕ
in_count room = room.in_faults

-- how often an output was at fault
abbrev pub out_count : MemRoom → ℕ
out_count room = room.out_faults

-- how often a log was at fault
abbrev pub log_count : MemRoom → ℕ
log_count room = room.log_faults

-- the counts are these
pub record HasCounts (room : MemRoom) (inputs outputs of_logs : ℕ) : Type 0 where
  pub ins : in_count room ≡ inputs
  pub outs : out_count room ≡ outputs
  pub logs : log_count room ≡ of_logs

-- the counts stay
abbrev pub SameCounts : MemRoom → MemRoom → Type 0
SameCounts old new = HasCounts new (in_count old) (out_count old) (log_count old)

-- the source gives the closed file, whose opening isn't to fail
pub record IsSourceOf (file : NamedFile) (source : SourceState) : Type 0 where
  pub allowed : file.opening_fails ≡ false
  pub bytes : told_file file.state ≡ Some source.left
  pub chunk : source.chunk ≡ 2 ^ 64 - 1
  pub calls : source.calls ≡ fresh_calls file.fails

-- the sink is empty, and opening it isn't to fail
pub record IsSinkOf (file : NamedFile) (sink : SinkState) : Type 0 where
  pub allowed : file.opening_fails ≡ false
  pub bytes : sink.bytes ≡ []
  pub calls : sink.calls ≡ fresh_calls file.fails

-- the disk has the file's bytes, whose opening isn't to fail, and no change yet
pub record IsLogOf (file : NamedFile) (disk : MemDisk) : Type 0 where
  pub allowed : file.opening_fails ≡ false
  pub bytes : disk.tape.bytes ≡ bytes_or_none (told_file file.state)
  pub first : disk.tape.first ≡ disk.tape.bytes
  pub changes : disk.tape.changes ≡ []
  pub calls : disk.calls ≡ fresh_calls file.fails

-- whether a sink is put in the place of a file when it is closed: it had no fault, and its close, which is a call on it, isn't to fail
abbrev pub can_be_put : SinkState → Bool
can_be_put sink = nat_eq sink.calls.faults 0 && not (is_next_listed sink.calls)
