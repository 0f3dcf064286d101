-- What a journal keeps of its log, and what a crash leaves of it.
use Rattle.std.specs.Prelude.{◌≡◌, ◌≢◌, ◌⊎◌, ℕ, ◌+◌, ◌<◌, ◌≤◌, max, true, List, [], ◌∷◌, ◌++◌, length, take, nat_le, if◌then◌else◌, Some, None, is_some, Result, Ok, Err}
use Rattle.std.specs.Int.{w32, to_be_bytes}
use Rattle.std.specs.List.{flat_map}
use Rattle.outside.specs.Disk.{DiskView, OnlyContent, SameDisk, NoNewImage}
use Rattle.outside.specs.Fault.{Rose}
use Rattle.commit_journal.specs.declared.fault.JournalFault.{JournalFault}
use Rattle.commit_journal.specs.declared.fault.JournalFault.TheVariants.{DeviceFault, NotAJournal, NoMemory}
use Rattle.commit_journal.specs.declared.frame.Frame.{Frame}
use Rattle.commit_journal.specs.declared.format.TheConstants.{BLANK_LENGTH, CLOSED_GATE, OPEN_GATE, EMPTY_LOG, LENGTH_BYTES, LARGEST_PAYLOAD}
use Rattle.commit_journal.specs.Log.{header_fault, walk_of, version_of_header, frames_of, version_of}
use Rattle.commit_journal.specs.Reading.{IsReadFrom}

-- the length of a payload, the payload, and the gate behind it
abbrev pub gated : ℕ → List ℕ → List ℕ
gated gate payload = to_be_bytes w32 (length payload) ++ payload ++ gate ∷ []

-- a payload's frame and a closed gate
abbrev pub frame_text : List ℕ → List ℕ
frame_text payload = gated CLOSED_GATE payload

-- frames with open gates between them, and a last one with a closed gate
abbrev pub chain_text : List (List ℕ) → List ℕ → List ℕ
chain_text front last = flat_map (gated OPEN_GATE) front ++ frame_text last

-- payloads as frames, the first of which has its gate at that place
abbrev pub frames_from : ℕ → List (List ℕ) → List Frame
frames_from place [] = []
frames_from place (payload ∷ payloads) = record { gate = place; payload = payload } ∷ frames_from (place + 1 + LENGTH_BYTES + length payload) payloads

-- how many bytes payloads take as frames, each with a gate
abbrev pub frames_len : List (List ℕ) → ℕ
frames_len [] = 0
frames_len (payload ∷ payloads) = LENGTH_BYTES + length payload + 1 + frames_len payloads

-- a payload of 1 to 3,201,025 bytes
abbrev pub IsPayload : List ℕ → Type 0
IsPayload payload = (1 ≤ length payload) × (length payload ≤ LARGEST_PAYLOAD)

-- frames, and more
abbrev pub and_frames : Result (List Frame) ℕ → List Frame → Result (List Frame) ℕ
and_frames (Ok frames) more = Ok (frames ++ more)
and_frames (Err place) more = Err place

-- frames, and one more
abbrev pub and_frame : Result (List Frame) ℕ → Frame → Result (List Frame) ℕ
and_frame (Ok frames) frame = Ok (frames ++ frame ∷ [])
and_frame (Err place) frame = Err place

-- the log has a right header, and ends with its first closed gate, which stands at that place
pub record EndsAt (place : ℕ) (log : List ℕ) : Type 0 where
  pub header : header_fault log ≡ None
  pub closed : (walk_of log).is_closed ≡ true
  pub gate : (walk_of log).place ≡ place
  pub end : length log ≡ place + 1

-- the log ends with its closed gate at that place, and is all that a crash may leave
pub record IsDurableLog (place version : ℕ) (disk : DiskView) : Type 0 where
  pub ends : (log : List ℕ) → disk.content ≡ Some log → EndsAt place log
  pub header : (log : List ℕ) → disk.content ≡ Some log → version_of_header log ≡ version
  pub only : OnlyContent disk
  pub len : disk.len ≡ place + 1

-- an image has the log's frames, or these and the new one; it is no longer than the log with the frame and one gate
pub record HasFrameOrNot (log : List ℕ) (frame : Frame) (image : List ℕ) : Type 0 where
  pub frames : (frames_of image ≡ frames_of log) ⊎ (frames_of image ≡ and_frame (frames_of log) frame)
  pub version : version_of image ≡ version_of log
  pub no_longer : length image ≤ length log + LENGTH_BYTES + length frame.payload + 1

-- an image has the log's frames, or these and those of all payloads; it is no longer than the log with all payloads and their gates
pub record HasAllOrNone (log : List ℕ) (place : ℕ) (payloads : List (List ℕ)) (image : List ℕ) : Type 0 where
  pub frames : (frames_of image ≡ frames_of log) ⊎ (frames_of image ≡ and_frames (frames_of log) (frames_from place payloads))
  pub version : version_of image ≡ version_of log
  pub no_longer : length image ≤ length log + frames_len payloads

-- an image has the log's frames, or the same wrong place; it is of its version or blank, and no longer than the log, or than a blank one
pub record SameLog (log image : List ℕ) : Type 0 where
  pub frames : frames_of image ≡ frames_of log
  pub version : BLANK_LENGTH < length image → version_of image ≡ version_of log
  pub no_longer : length image ≤ max BLANK_LENGTH (length log)

-- What an opening leaves of a log, whatever it answers, and a crash of it: the same log. One that is no journal at a place is as it
-- was, byte for byte.
pub record LeavesLog (log now : List ℕ) : Type 0 where
  pub same : SameLog log now
  pub lost : (place : ℕ) → frames_of log ≡ Err place → now ≡ log

-- so it is where the disk tells its content
abbrev pub LeavesContent : DiskView → DiskView → Type 0
LeavesContent old new = (log now : List ℕ) → old.content ≡ Some log → new.content ≡ Some now → LeavesLog log now

-- a log that is brought into order: a blank one is written anew, and of a longer one what stands behind its first closed gate is cut off
unfoldable pub in_order : List ℕ → List ℕ
in_order log = if nat_le (length log) BLANK_LENGTH then EMPTY_LOG else take ((walk_of log).place + 1) log

-- time goes on: what a crash might have left it still may, a first sync stays the first, and whether the disk tells stays
pub record Continues (old new : DiskView) : Type 0 where
  pub later : old.moment ≤ new.moment
  pub keeps : (t : ℕ) (c : List ℕ) → t ≤ old.moment → old.left t c → new.left t c
  pub syncs : (t s : ℕ) → t ≤ old.moment → old.synced t ≡ Some s → new.synced t ≡ Some s
  pub dated : new.dated ≡ old.dated
  pub tells : is_some new.content ≡ is_some old.content

-- a run of calls, in which each image is one from before the run, after this step
pub record Steps (step : List ℕ → List ℕ → Type 0) (old new : DiskView) : Type 0 where
  pub continues : Continues old new
  pub since : (t : ℕ) (c : List ℕ) → t ≤ old.moment → new.left t c → old.left t c ⊎ ((d : List ℕ) × old.image d × step d c)
  pub now : (c : List ℕ) → new.image c → (d : List ℕ) × old.image d × step d c

-- the image is no longer than a blank log, or than before
abbrev pub StaysShort : List ℕ → List ℕ → Type 0
StaysShort old new = length new ≤ max BLANK_LENGTH (length old)

-- each image has P, since any earlier moment too
pub record Keeps (P : List ℕ → Type 0) (old new : DiskView) : Type 0 where
  pub since : (t : ℕ) (c : List ℕ) → t ≤ old.moment → new.left t c → old.left t c ⊎ P c
  pub now : (c : List ℕ) → new.image c → P c

-- a told log is recovered: these are its frames, before and after, it is brought into order, and it ends with its closed gate
pub record IsRecovered (frames : List Frame) (place version : ℕ) (old new : DiskView) : Type 0 where
  pub was : (log : List ℕ) → old.content ≡ Some log → frames_of log ≡ Ok frames
  pub named : (log : List ℕ) → old.content ≡ Some log → version_of log ≡ version
  pub is : (log : List ℕ) → new.content ≡ Some log → frames_of log ≡ Ok frames
  pub ordered : (log : List ℕ) → old.content ≡ Some log → new.content ≡ Some (in_order log)
  pub settled : IsDurableLog place version new

-- an opening: each image since its first sync that succeeded is what it leaves of the log, and where none did the content is as it was
pub record Opens (old new : DiskView) : Type 0 where
  pub continues : Continues old new
  pub crash : (s : ℕ) (log c : List ℕ) → new.synced old.moment ≡ Some s → old.content ≡ Some log → new.left s c → LeavesLog log c
  pub unsynced : old.dated ≡ true → new.synced old.moment ≡ None → new.content ≡ old.content

-- nothing was written
pub record Unwritten (old new : DiskView) : Type 0 where
  pub content : new.content ≡ old.content
  pub len : new.len ≡ old.len
  pub images : NoNewImage old new

-- Why a disk was not opened: what the fault says of it. Unless a device failed, the content is all that a crash may leave; or there was
-- no memory for the opening to begin, and the disk is as it was.
pub record HasOpenCause (old new : DiskView) (fault : JournalFault) : Type 0 where
  pub failed : fault ≡ DeviceFault → Rose old.faults new.faults
  pub lost : (wrong : ℕ) (log : List ℕ) → fault ≡ NotAJournal wrong → old.content ≡ Some log → frames_of log ≡ Err wrong
  pub unwritten : fault ≢ DeviceFault → Unwritten old new
  pub settled : fault ≢ DeviceFault → OnlyContent new ⊎ ((fault ≡ NoMemory) × SameDisk old new)
  pub synced : (wrong : ℕ) → fault ≡ NotAJournal wrong → old.dated ≡ true → is_some (new.synced old.moment) ≡ true

-- A log was found to be of that version and to have these frames, up to a closed gate at that place: its disk was synced and read, the
-- content is all that a crash may leave, and nothing was written.
pub record IsFound (frames : List Frame) (place version : ℕ) (old new : DiskView) : Type 0 where
  pub was : (log : List ℕ) → old.content ≡ Some log → frames_of log ≡ Ok frames
  pub named : (log : List ℕ) → old.content ≡ Some log → version_of log ≡ version
  pub unwritten : Unwritten old new
  pub only : OnlyContent new
  pub opens : Opens old new
  pub synced : old.dated ≡ true → is_some (new.synced old.moment) ≡ true
  pub later : old.faults ≤ new.faults
  pub read : IsReadFrom frames place version new

-- A log that was found is settled, or a device failed meanwhile: each image since the first sync is the same log, and so is the content.
pub record IsSettling (old new : DiskView) : Type 0 where
  pub opens : Opens old new
  pub content : LeavesContent old new
  pub synced : old.dated ≡ true → is_some (new.synced old.moment) ≡ true
