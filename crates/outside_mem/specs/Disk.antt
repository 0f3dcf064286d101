-- What a disk in memory was through, and what a crash at any of its moments may leave.
use Rattle.std.specs.Prelude.{◌≡◌, ◌⊎◌, ℕ, zero, suc, ◌+◌, ◌-◌, ◌≤◌, Bool, true, false, List, [], ◌∷◌, ◌++◌, length, drop, take, replicate, Option, Some, None, if◌then◌else◌, nat_lt, nat_le, ◌&&◌, Vec}
use Rattle.std.specs.Option.{option_or}
use Rattle.std.specs.declared.alloc.Global.{Global}
use Rattle.outside.specs.Disk.{DiskView, longest_disk, patch, Torn, TornCut}
use Rattle.outside_mem.specs.declared.change.Change.{Change}
use Rattle.outside_mem.specs.declared.change.Change.TheVariants.{Write, Cut, Sync}

-- the content after one more change; a call that failed changed nothing
abbrev pub next_content : Change → List ℕ → List ℕ
next_content (Write at bytes true) content = patch at bytes content
next_content (Write at bytes false) content = content
next_content (Cut len true) content = take len content
next_content (Cut len false) content = content
next_content (Sync done) content = content

-- the content after changes, the latest of them first
abbrev pub content_after : List ℕ → List Change → List ℕ
content_after first [] = first
content_after first (change ∷ earlier) = next_content change (content_after first earlier)

-- what a crash may leave then: each write and cut since the last sync that succeeded may have happened in any part
abbrev pub IsImageAfter : List ℕ → List Change → List ℕ → Type 0
IsImageAfter first [] c = c ≡ first
IsImageAfter first (Write at bytes done ∷ earlier) c = (d : List ℕ) × IsImageAfter first earlier d × Torn at (length bytes) d c
IsImageAfter first (Cut len done ∷ earlier) c = (d : List ℕ) × IsImageAfter first earlier d × TornCut len d c
IsImageAfter first (Sync true ∷ earlier) c = c ≡ content_after first earlier
IsImageAfter first (Sync false ∷ earlier) c = IsImageAfter first earlier c

-- what a crash at any moment since t may leave; there are as many moments as changes, and the start
abbrev pub LeavesSince : List ℕ → List Change → ℕ → List ℕ → Type 0
LeavesSince first [] t c = (t ≤ 0) × IsImageAfter first [] c
LeavesSince first (change ∷ earlier) t c = ((t ≤ length earlier + 1) × IsImageAfter first (change ∷ earlier) c) ⊎ LeavesSince first earlier t c

-- the moment of the first sync since t that succeeded
abbrev pub synced_since : List Change → ℕ → Option ℕ
synced_since [] t = None
synced_since (Sync true ∷ earlier) t = option_or (synced_since earlier t) (if nat_lt t (length earlier + 1) then Some (length earlier + 1) else None)
synced_since (Sync false ∷ earlier) t = synced_since earlier t
synced_since (Write at bytes done ∷ earlier) t = synced_since earlier t
synced_since (Cut len done ∷ earlier) t = synced_since earlier t

-- the content at the last sync that succeeded, or else at the start
abbrev pub synced_content : List ℕ → List Change → List ℕ
synced_content first [] = first
synced_content first (Sync true ∷ earlier) = content_after first earlier
synced_content first (Sync false ∷ earlier) = synced_content first earlier
synced_content first (Write at bytes done ∷ earlier) = synced_content first earlier
synced_content first (Cut len done ∷ earlier) = synced_content first earlier

-- whether each write and cut began within the content
abbrev pub are_within : List ℕ → List Change → Bool
are_within first [] = true
are_within first (Write at bytes done ∷ earlier) = nat_le at (length (content_after first earlier)) && are_within first earlier
are_within first (Cut len done ∷ earlier) = nat_le len (length (content_after first earlier)) && are_within first earlier
are_within first (Sync done ∷ earlier) = are_within first earlier

-- the bytes at the start, which are kept from the first change on
abbrev pub start_of : Option (Vec ℕ Global) → List ℕ → List ℕ
start_of None bytes = bytes
start_of (Some start) bytes = start.items

-- the bytes are what the changes made of the start
pub record IsRun (first : List ℕ) (changes : List Change) (bytes : List ℕ) : Type 0 where
  pub content : bytes ≡ content_after first changes
  pub within : are_within first changes ≡ true
  pub short : length bytes ≤ longest_disk

-- a disk in memory as any disk is seen
abbrev pub view_of : List ℕ → List Change → List ℕ → ℕ → DiskView
view_of first changes bytes faults = record {
  len = length bytes;
  content = Some bytes;
  image = IsImageAfter first changes;
  moment = length changes;
  left = LeavesSince first changes;
  synced = synced_since changes;
  dated = true;
  faults = faults;
}

-- the part of an image past a place, by a choice: 0 as before, 1 as the call leaves it, any other FF in its place
abbrev pub chosen : ℕ → List ℕ → List ℕ → List ℕ → List ℕ
chosen zero before written filled = before
chosen (suc zero) before written filled = written
chosen (suc (suc choice)) before written filled = filled

-- an image after a cut, by a choice; one that failed cut nothing off
abbrev pub cut_image : ℕ → ℕ → Bool → List ℕ → List ℕ
cut_image choice len done image = chosen choice image (if done then take len image else image) (take len image ++ replicate (length image - len) 255)

-- an image after one more change, by a choice
abbrev pub next_image : ℕ → Change → List ℕ → List ℕ → List ℕ
next_image choice (Write at bytes done) image content = chosen choice image (patch at bytes image) (patch at (replicate (length bytes) 255) image)
next_image choice (Cut len done) image content = cut_image choice len done image
next_image choice (Sync true) image content = content
next_image choice (Sync false) image content = image

-- the image that a crash leaves by a choice
abbrev pub image_after : ℕ → List ℕ → List Change → List ℕ
image_after choice first [] = first
image_after choice first (change ∷ earlier) = next_image choice change (image_after choice first earlier) (content_after first earlier)

-- the start, what changed since, the latest first, and the bytes now
pub record TapeState : Type 0 where
  pub first : List ℕ
  pub changes : List Change
  pub bytes : List ℕ

-- a tape with one more change, as a call leaves it
abbrev pub after_change : TapeState → Change → TapeState
after_change tape change = record { first = tape.first; changes = change ∷ tape.changes; bytes = next_content change tape.bytes }

-- the changes up to a moment, the latest first
abbrev pub changes_until : ℕ → TapeState → List Change
changes_until moment tape = drop (length tape.changes - moment) tape.changes

-- a tape with one write more, which may have failed
abbrev pub with_write : ℕ → List ℕ → Bool → TapeState → TapeState
with_write at bytes done tape = record {
  first = tape.first;
  changes = Write at bytes done ∷ tape.changes;
  bytes = if done then patch at bytes tape.bytes else tape.bytes;
}

-- with one cut more
abbrev pub with_cut : ℕ → Bool → TapeState → TapeState
with_cut len done tape = record {
  first = tape.first;
  changes = Cut len done ∷ tape.changes;
  bytes = if done then take len tape.bytes else tape.bytes;
}

-- with one sync more
abbrev pub with_sync : Bool → TapeState → TapeState
with_sync done tape = record { first = tape.first; changes = Sync done ∷ tape.changes; bytes = tape.bytes }

-- what a failed call leaves: its change, where it was listed and there was memory for that; else what was there
abbrev pub FailsWith : Bool → Change → TapeState → TapeState → Type 0
FailsWith listed change old new = (listed ≡ false → new ≡ old) × ((new ≡ old) ⊎ (new ≡ after_change old change))
