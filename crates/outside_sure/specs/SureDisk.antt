-- What clauses see of a disk in memory that fails for want of room alone.
use Rattle.std.specs.Prelude.{◌≡◌, ◌≢◌, ℕ, false, List, length, Some, None}
use Rattle.outside.specs.Disk.{DiskView}
use Rattle.outside_sure.specs.SureState.{SureState}
use Rattle.outside_sure.specs.declared.sure_disk.SureDisk.{SureDisk}

-- a disk that has these bytes, and tells its content and no moments, as any disk is seen
abbrev pub sure_view : List ℕ → ℕ → DiskView
sure_view bytes faults = record {
  len = length bytes;
  content = Some bytes;
  image = λ c. c ≡ bytes;
  moment = 0;
  left = λ _ _. ⊥;
  synced = λ _. None;
  dated = false;
  faults = faults;
}

-- a sure disk's bytes and faults
abbrev pub disk_state : {room : ℕ} → SureDisk room → SureState
disk_state disk = record { bytes = disk.held.buffer.items; faults = disk.faults }

-- a disk with a fault is full
pub full_disk : {room : ℕ} (disk : SureDisk room) → (disk_state disk).faults ≢ 0 → length (disk_state disk).bytes ≡ room
full_disk disk = disk.full

-- a sure disk as any disk is seen
abbrev pub sure_disk_view : {room : ℕ} → SureDisk room → DiskView
sure_disk_view disk = sure_view disk.held.buffer.items disk.faults
