-- A room in memory, seen as any room is, after what stands under its names changed or stayed.
use Rattle.std.proofs.Common.{◌≡◌, ◌≤◌, ◌∙◌, Bool, true, false, List, ℕ, Some, None, refl, sym, ap, subst, ◌∷◌, []}
use Rattle.outside.specs.Disk.{SameDisk}
use Rattle.outside.specs.Room.{AsOutput, AsLog, SameBut, IsUntouched, IsPut, IsPutOrNot, Untouched}
use Rattle.outside.proofs.Disks.{same_disk}
use Rattle.outside.proofs.Rooms.{same_but_none}
use Rattle.outside_mem.specs.declared.disk.MemDisk.{MemDisk}
use Rattle.outside_mem.specs.declared.files.FileState.{FileState}
use Rattle.outside_mem.specs.declared.files.FileState.TheVariants.{Absent, Closed, ClosedLog, OpenLog}
use Rattle.outside_mem.specs.declared.room.MemRoom.{MemRoom}
use Rattle.outside_mem.specs.Files.{NamedFile, told_file}
use Rattle.outside_mem.specs.Room.{file_under, room_view, log_view, sort_of, open_sort, is_closed_log, in_count, out_count, log_count, SameFiles, ChangesUnder}
use Rattle.outside_mem.specs.MemDisk.{disk_view}

same_log : (a b : FileState) → b ≡ a → SameDisk (log_view a) (log_view b)
same_log a b same = subst (λ s. SameDisk (log_view a) (log_view s)) (sym same) (same_disk (log_view a))

state_of : (a b : NamedFile) → a ≡ b → a.state ≡ b.state
state_of a b same = ap (λ (f : NamedFile). f.state) same

-- what stands under each name stays
pub stays_same : (old new : MemRoom) → SameFiles old new → in_count old ≤ in_count new → out_count old ≤ out_count new → log_count old ≤ log_count new
    → new.large ≡ old.large → SameBut (room_view old) (room_view new) []
stays_same old new same ins outs logs size = record {
  tells = refl;
  files = λ n _. ap told_file (state_of (file_under new n) (file_under old n) (same.under n));
  open_names = λ n _. ap open_sort (same.under n);
  log_names = λ n _. ap is_closed_log (state_of (file_under new n) (file_under old n) (same.under n));
  logs = λ n _ _. same_log (file_under old n).state (file_under new n).state (state_of (file_under new n) (file_under old n) (same.under n));
  ins = λ n. ins;
  outs = λ n. outs;
  log_counts = λ n. logs;
  failed_ats = λ n _. refl;
  promises = λ n. refl;
  sizes = size;
}

pub apart_same : (old new : MemRoom) (name : List ℕ) → SameFiles old new → in_count old ≤ in_count new → out_count old ≤ out_count new → log_count old ≤ log_count new
    → new.large ≡ old.large → SameBut (room_view old) (room_view new) (name ∷ [])
apart_same old new name same ins outs logs size = same_but_none (room_view old) (room_view new) (name ∷ []) (stays_same old new same ins outs logs size)

-- something else stands under one name
pub apart_changed : (old new : MemRoom) (name : List ℕ) (file : NamedFile) → ChangesUnder old new name file
    → in_count old ≤ in_count new → out_count old ≤ out_count new → log_count old ≤ log_count new → new.large ≡ old.large
    → SameBut (room_view old) (room_view new) (name ∷ [])
apart_changed old new name file changed ins outs logs size = record {
  tells = refl;
  files = λ n other. ap told_file (state_of (file_under new n) (file_under old n) (changed.others n other.0));
  open_names = λ n other. ap open_sort (changed.others n other.0);
  log_names = λ n other. ap is_closed_log (state_of (file_under new n) (file_under old n) (changed.others n other.0));
  logs = λ n other _. same_log (file_under old n).state (file_under new n).state (state_of (file_under new n) (file_under old n) (changed.others n other.0));
  ins = λ n. ins;
  outs = λ n. outs;
  log_counts = λ n. logs;
  failed_ats = λ n _. refl;
  promises = λ n. refl;
  sizes = size;
}

-- the disk that was closed is the closed log
pub closed_log : (old new : MemRoom) (name : List ℕ) (disk : MemDisk)
    → ChangesUnder old new name (record (file_under old name) { state = ClosedLog disk; is_output = false })
    → SameDisk (disk_view disk) (log_view (file_under new name).state)
closed_log old new name disk changed =
    same_log (ClosedLog disk) (file_under new name).state
    (state_of (file_under new name) (record (file_under old name) { state = ClosedLog disk; is_output = false }) changed.here)

-- only whether an output of the name is open changed
pub untouched_output : (old new : MemRoom) (name : List ℕ) (output : Bool) → ChangesUnder old new name (record (file_under old name) { is_output = output })
    → IsUntouched (room_view old) (room_view new) name
untouched_output old new name output changed =
    let same = state_of (file_under new name) (record (file_under old name) { is_output = output }) changed.here in
    record { file = ap told_file same; is_log = ap is_closed_log same; log = λ _. same_log (file_under old name).state (file_under new name).state same }

pub untouched_files : (old new : MemRoom) (name : List ℕ) → SameFiles old new → IsUntouched (room_view old) (room_view new) name
untouched_files old new name files =
    let same = state_of (file_under new name) (file_under old name) (files.under name) in
    record { file = ap told_file same; is_log = ap is_closed_log same; log = λ _. same_log (file_under old name).state (file_under new name).state same }

begun : (state : FileState) (output : Bool) → sort_of state output ≡ None → sort_of state true ≡ Some AsOutput
begun Absent output closed = refl
begun (Closed bytes) output closed = refl
begun (ClosedLog disk) output closed = refl
begun OpenLog output closed = let no : Some AsLog ≡ None = closed in cc

ended : (state : FileState) (output : Bool) → sort_of state output ≡ Some AsOutput → sort_of state false ≡ None
ended Absent output is = refl
ended (Closed bytes) output is = refl
ended (ClosedLog disk) output is = refl
ended OpenLog output is = let no : Some AsLog ≡ Some AsOutput = is in cc

-- an output that was begun is open
pub begun_sort : (old new : MemRoom) (name : List ℕ) → open_sort (file_under old name) ≡ None
    → ChangesUnder old new name (record (file_under old name) { is_output = true }) → open_sort (file_under new name) ≡ Some AsOutput
begun_sort old new name closed changed = ap open_sort changed.here ∙ begun (file_under old name).state (file_under old name).is_output closed

-- and one that ended isn't
pub ended_sort : (old new : MemRoom) (name : List ℕ) → open_sort (file_under old name) ≡ Some AsOutput
    → ChangesUnder old new name (record (file_under old name) { is_output = false }) → open_sort (file_under new name) ≡ None
ended_sort old new name is changed = ap open_sort changed.here ∙ ended (file_under old name).state (file_under old name).is_output is

-- an output was put in the place of the file
pub put_output : (old new : MemRoom) (name bytes : List ℕ)
    → ChangesUnder old new name (record (file_under old name) { state = Closed bytes; is_output = false })
    → IsPut (room_view old) (room_view new) name (Some bytes)
put_output old new name bytes changed =
    let same = state_of (file_under new name) (record (file_under old name) { state = Closed bytes; is_output = false }) changed.here in
    record { file = λ _. ap told_file same; no_log = ap is_closed_log same }

pub not_put : (old new : MemRoom) (name bytes : List ℕ) → ChangesUnder old new name (record (file_under old name) { is_output = false })
    → IsPutOrNot (room_view old) (room_view new) name (Some bytes)
not_put old new name bytes changed = Untouched (untouched_output old new name false changed)
