-- What clauses see of real files: a room tells no file, and one count of faults per sort stands for every name.
use Rattle.std.specs.Prelude.{◌≡◌, ℕ, Bool, false, List, Option, Some, None, if◌then◌else◌}
use Rattle.outside.specs.Disk.{DiskView}
use Rattle.outside.specs.Room.{RoomView, OpenSort, AsOutput, AsLog, Unpromised}
use Rattle.outside_real.specs.declared.disk.FileDisk.{FileDisk}
use Rattle.outside_real.specs.declared.room.FileRoom.{FileRoom}
use Rattle.std.specs.BTreeSet.{contains_text}

-- the most bytes of an input: one gibibyte, and where the room is large one tebibyte
abbrev pub longest_of : Bool → ℕ
longest_of is_large = if is_large then 1099511627776 else 1073741824

-- a disk that tells its length alone
abbrev pub untold_disk : ℕ → ℕ → DiskView
untold_disk len faults = record {
  len = len;
  content = None;
  image = λ _. ⊥;
  moment = 0;
  left = λ _ _. ⊥;
  synced = λ _. None;
  dated = false;
  faults = faults;
}

-- a disk over a file as any disk is seen
abbrev pub file_disk_view : {R : Type 0} → FileDisk R → DiskView
file_disk_view disk = untold_disk disk.len disk.faults

-- how a name is open that is or isn't among the outputs and among the logs
abbrev pub opened : Bool → Bool → Option OpenSort
opened as_output as_log = if as_output then Some AsOutput else if as_log then Some AsLog else None

-- a room that tells no file, with its limits, the names that are open and its counts
abbrev pub untold_room : Bool → (List ℕ → Bool) → (List ℕ → Bool) → ℕ → ℕ → ℕ → List (Option (List ℕ)) → RoomView
untold_room is_large is_output is_log ins outs logs lefts = record {
  tells = false;
  is_large = is_large;
  file = λ _. None;
  open_as = λ name. opened (is_output name) (is_log name);
  has_log = λ _. false;
  log = λ _. untold_disk 0 0;
  in_faults = λ _. ins;
  out_faults = λ _. outs;
  log_faults = λ _. logs;
  failed_at = λ _. 0;
  lefts = lefts;
  promise = λ _. Unpromised;
}

-- a room over real files as any room is seen
abbrev pub file_room_view : {R File Dir : Type 0} → FileRoom R File Dir → RoomView
file_room_view room = untold_room room.large (contains_text room.outputs.set) (contains_text room.open_logs.set) room.ins room.outs room.logs room.closed

-- the faults of all inputs, of all outputs, and of all logs
pub record HasCounts {R File Dir : Type 0} (room : FileRoom R File Dir) (inputs outputs of_logs : ℕ) : Type 0 where
  pub ins : room.ins ≡ inputs
  pub outs : room.outs ≡ outputs
  pub logs : room.logs ≡ of_logs
