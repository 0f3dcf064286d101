-- What a log is found to be, as it is read.
use Rattle.std.specs.Prelude.{◌≡◌, ◌≢◌, ◌⊎◌, ℕ, ◌+◌, ◌<◌, ◌≤◌, false, List, [], ◌∷◌, length, take, drop, slice_index, Option, Some, None, Result, IsErrOf}
use Rattle.outside.specs.Disk.{DiskView, Unchanged}
use Rattle.outside.specs.Fault.{Rose}
use Rattle.commit_journal.specs.declared.fault.JournalFault.{JournalFault}
use Rattle.commit_journal.specs.declared.fault.JournalFault.TheVariants.{DeviceFault}
use Rattle.commit_journal.specs.declared.frame.Frame.{Frame}
use Rattle.commit_journal.specs.declared.reading.Head.{Head}
use Rattle.commit_journal.specs.declared.reading.Head.TheVariants.{Closed, Lost, Frame as HeadFrame}
use Rattle.commit_journal.specs.declared.format.TheConstants.{LENGTH_BYTES, CLOSED_GATE, LARGEST_PAYLOAD, BLANK_LENGTH, FIRST_GATE}
use Rattle.commit_journal.specs.Log.{header_fault, version_of_header, payload_length, walk, walk_of, closed_at, lost_at, behind}

-- the disk was only read, and a device fault has its cause in it
pub record HasRead {T : Type 0} (old new : DiskView) (result : Result T JournalFault) : Type 0 where
  pub unchanged : Unchanged old new
  pub later : old.faults ≤ new.faults
  pub failed : IsErrOf result DeviceFault → Rose old.faults new.faults

-- what the bytes of a gate and a length say, where so many bytes are left from the gate on
abbrev pub HeadSays : List ℕ → ℕ → Head → Type 0
HeadSays head left Closed = slice_index head 0 ≡ CLOSED_GATE
HeadSays head left (HeadFrame count) = (slice_index head 0 ≢ CLOSED_GATE) × (count ≡ payload_length (drop 1 head)) × (1 ≤ count) × (count ≤ LARGEST_PAYLOAD) × (1 + LENGTH_BYTES + count < left)
HeadSays head left Lost = (slice_index head 0 ≢ CLOSED_GATE) × ((payload_length (drop 1 head) ≡ 0) ⊎ (LARGEST_PAYLOAD < payload_length (drop 1 head)) ⊎ (left ≤ 1 + LENGTH_BYTES + payload_length (drop 1 head)))

-- what stands at a gate's place
abbrev pub IsHead : ℕ → List ℕ → Head → Type 0
IsHead place log Closed = walk place 0 (drop place log) ≡ closed_at place
IsHead place log (HeadFrame count) = walk place 0 (drop place log) ≡ behind (record { gate = place; payload = take count (drop (place + 1 + LENGTH_BYTES) log) } ∷ []) (walk (place + 1 + LENGTH_BYTES + count) 0 (drop (place + 1 + LENGTH_BYTES + count) log))
IsHead place log Lost = walk place 0 (drop place log) ≡ lost_at place

-- a frame of that length, and a gate behind it, take no more than so many bytes
abbrev pub HeadFits : ℕ → Head → Type 0
HeadFits left Closed = Unit {0}
HeadFits left (HeadFrame count) = (1 ≤ count) × (1 + LENGTH_BYTES + count < left)
HeadFits left Lost = Unit {0}

-- from that place on the log leads over this payload's frame, or ends
abbrev pub IsStep : ℕ → List ℕ → Option (List ℕ) → Type 0
IsStep place log None = walk place 0 (drop place log) ≡ closed_at place
IsStep place log (Some payload) =
    let next = place + 1 + LENGTH_BYTES + length payload in
    walk place 0 (drop place log) ≡ behind (record { gate = place; payload = payload } ∷ []) (walk next 0 (drop next log))

-- the log leads to no closed gate, but to that place
pub record IsWalk (place : ℕ) (log : List ℕ) : Type 0 where
  pub at : (walk_of log).place ≡ place
  pub lost : (walk_of log).is_closed ≡ false

-- a log of a right header of that version, which leads over these frames to a closed gate at that place
pub record IsLog (frames : List Frame) (place version : ℕ) (log : List ℕ) : Type 0 where
  pub header : header_fault log ≡ None
  pub says : version_of_header log ≡ version
  pub walked : walk_of log ≡ behind frames (closed_at place)

-- a disk's log is blank, and so of version 2, or has a right header of that version
pub record HasHeader (version : ℕ) (disk : DiskView) : Type 0 where
  pub blank : disk.len ≤ BLANK_LENGTH → version ≡ 2
  pub right : BLANK_LENGTH < disk.len → (log : List ℕ) → disk.content ≡ Some log → header_fault log ≡ None
  pub says : BLANK_LENGTH < disk.len → (log : List ℕ) → disk.content ≡ Some log → version_of_header log ≡ version

-- a disk's log is blank, or of a right header of that version and leads to a closed gate at that place
pub record IsReadAt (place version : ℕ) (disk : DiskView) : Type 0 where
  pub blank : disk.len ≤ BLANK_LENGTH → (place ≡ FIRST_GATE) × (version ≡ 2)
  pub long : BLANK_LENGTH < disk.len → (log : List ℕ) → disk.content ≡ Some log → IsLog (walk_of log).frames place version log
  pub within : BLANK_LENGTH < disk.len → place < disk.len

-- the same, and these are its frames
pub record IsReadFrom (frames : List Frame) (place version : ℕ) (disk : DiskView) : Type 0 where
  pub blank : disk.len ≤ BLANK_LENGTH → (frames ≡ []) × (place ≡ FIRST_GATE) × (version ≡ 2)
  pub long : BLANK_LENGTH < disk.len → (log : List ℕ) → disk.content ≡ Some log → IsLog frames place version log
  pub within : BLANK_LENGTH < disk.len → place < disk.len
