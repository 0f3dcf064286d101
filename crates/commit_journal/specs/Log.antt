-- What the bytes of a log say: a header, and gates and frames in turn, up to the first closed gate.
use Rattle.std.specs.Prelude.{ℕ, zero, suc, ◌+◌, Bool, true, false, List, [], ◌∷◌, ◌++◌, length, take, drop, slice_index, map, Option, Some, None, Result, Ok, Err, if◌then◌else◌, ◌==◌, ◌&&◌, ◌||◌, nat_le, nat_lt}
use Rattle.std.specs.Int.{w32, from_be_bytes}
use Rattle.commit_journal.specs.declared.frame.Frame.{Frame}
use Rattle.commit_journal.specs.declared.format.TheConstants.{HEADER_1, HEADER_2, BLANK_LENGTH, VERSION_PLACE, DIGIT_1, CLOSED_GATE, FIRST_GATE, LARGEST_PAYLOAD, LENGTH_BYTES}

-- the place of the first byte that differs from those of both texts, counted from a place on
unfoldable pub first_differing : ℕ → List ℕ → List ℕ → List ℕ → Option ℕ
first_differing place (a ∷ first) (b ∷ second) (byte ∷ bytes) = if (byte == a) || (byte == b) then first_differing (place + 1) first second bytes else Some place
first_differing place first second bytes = None

-- the place of the first byte of the header that is as in neither version
abbrev pub header_fault : List ℕ → Option ℕ
header_fault log = first_differing 0 HEADER_1 HEADER_2 (take FIRST_GATE log)

-- the version that a right header names
unfoldable pub version_of_header : List ℕ → ℕ
version_of_header log = if slice_index log VERSION_PLACE == DIGIT_1 then 1 else 2

-- a payload's length stands before it, the high byte first
unfoldable pub payload_length : List ℕ → ℕ
payload_length bytes = from_be_bytes w32 (take LENGTH_BYTES bytes)

-- whether a whole frame stands here, of a payload of 1 to 3,201,025 bytes, and a gate behind it
unfoldable pub has_frame : List ℕ → Bool
has_frame bytes = nat_le 1 (payload_length bytes) && nat_le (payload_length bytes) LARGEST_PAYLOAD && nat_lt (LENGTH_BYTES + payload_length bytes) (length bytes)

-- the payload of the frame that stands here
abbrev pub payload_of : List ℕ → List ℕ
payload_of bytes = take (payload_length bytes) (drop LENGTH_BYTES bytes)

-- how far gates lead: the frames behind open ones, and the place of the first gate that is closed, or has no whole frame behind it
pub record Walk : Type 0 where
  pub frames : List Frame
  pub place : ℕ
  pub is_closed : Bool

-- a walk that ends at once
abbrev pub closed_at : ℕ → Walk
closed_at place = record { frames = []; place = place; is_closed = true }

-- a walk that ends at a place which is no part of a journal
abbrev pub lost_at : ℕ → Walk
lost_at place = record { frames = []; place = place; is_closed = false }

-- a walk over these frames before
abbrev pub behind : List Frame → Walk → Walk
behind frames walk = record walk { frames = frames ++ walk.frames }

-- The walk from this place on, where the next gate stands behind so many bytes, which are a frame.
unfoldable pub walk : ℕ → ℕ → List ℕ → Walk
walk place skip [] = lost_at place
walk place (suc skip) (byte ∷ bytes) = walk (place + 1) skip bytes
walk place zero (gate ∷ bytes) =
    if gate == CLOSED_GATE then closed_at place
    else if has_frame bytes then behind (record { gate = place; payload = payload_of bytes } ∷ []) (walk (place + 1) (LENGTH_BYTES + payload_length bytes) bytes)
    else lost_at place

-- the walk over a log, from its first gate on
abbrev pub walk_of : List ℕ → Walk
walk_of log = walk FIRST_GATE 0 (drop FIRST_GATE log)

-- what a journal's header and gates say
abbrev pub frames_found : Option ℕ → Walk → Result (List Frame) ℕ
frames_found (Some wrong) walk = Err wrong
frames_found None walk = if walk.is_closed then Ok walk.frames else Err walk.place

-- The frames of a log, or the place of what is no part of a journal. A log of 17 bytes or fewer is blank.
unfoldable pub frames_of : List ℕ → Result (List Frame) ℕ
frames_of log = if nat_le (length log) BLANK_LENGTH then Ok [] else frames_found (header_fault log) (walk_of log)

-- the version of a log; a blank one is of version 2
unfoldable pub version_of : List ℕ → ℕ
version_of log = if nat_le (length log) BLANK_LENGTH then 2 else version_of_header log

-- the payloads of frames
abbrev pub payloads_of : List Frame → List (List ℕ)
payloads_of frames = map (λ f. f.payload) frames
