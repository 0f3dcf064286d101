-- What is sound of a log that may be damaged. The rules are this project's own.
use Rattle.std.specs.Prelude.{◌≡◌, ℕ, ◌+◌, ◌-◌, ◌<◌, ◌≤◌, Bool, true, false, List, [], ◌∷◌, ◌++◌, length, drop, slice_index, nat_lt, if◌then◌else◌, ◌==◌, ◌&&◌, Option, Some, None, Ok}
use Rattle.marc_types.specs.declared.entry.Entry.{Entry}
use Rattle.commit_journal.specs.declared.frame.Frame.{Frame}
use Rattle.commit_journal.specs.declared.format.TheConstants.{BLANK_LENGTH, CLOSED_GATE, FIRST_GATE, LENGTH_BYTES, VERSION_PLACE}
use Rattle.commit_journal.specs.declared.tail.Tail.{Tail}
use Rattle.commit_journal.specs.declared.tail.Tail.TheVariants as tail
use Rattle.commit_journal.specs.Tails.{tail_behind}
use Rattle.commit_journal.specs.Log.{header_fault, version_of_header, payload_length, has_frame, payload_of, frames_of, version_of, payloads_of}
use Rattle.entry_history.specs.Payloads.{Holds, IsHistory}
use Rattle.sound_frames.specs.declared.damage.Damage.{Damage}
use Rattle.sound_frames.specs.declared.damage.Reason.{Reason}
use Rattle.sound_frames.specs.declared.damage.Reason.TheVariants.{WrongHeader, ClosedGate, Torn, Lost, NoFrame, NotValid}

-- whether the gate at a place is closed
abbrev pub is_closed_gate : List ℕ → ℕ → Bool
is_closed_gate log place = slice_index log place == CLOSED_GATE

-- what stands behind the gate at a place
abbrev pub behind_gate : List ℕ → ℕ → List ℕ
behind_gate log place = drop (place + 1) log

-- where the gate stands behind the frame of the gate at a place
abbrev pub next_gate : List ℕ → ℕ → ℕ
next_gate log place = place + 1 + LENGTH_BYTES + payload_length (behind_gate log place)

-- A sound frame stands behind the gate at that place: it is whole, and its payload is valid behind the entries before it, and holds these.
pub record IsSound (version : ℕ) (log : List ℕ) (place : ℕ) (before entries : List Entry) : Type 0 where
  pub whole : has_frame (behind_gate log place) ≡ true
  pub valid : Holds version before entries (payload_of (behind_gate log place))

-- no sound frame stands there
abbrev pub HasNone : ℕ → List ℕ → ℕ → List Entry → Type 0
HasNone version log place before = (entries : List Entry) → IsSound version log place before entries → ⊥

-- no two sound frames stand there, one behind the other
abbrev pub HasNoTwo : ℕ → List ℕ → ℕ → List Entry → Type 0
HasNoTwo version log place before =
    (entries : List Entry) → IsSound version log place before entries → HasNone version log (next_gate log place) (before ++ entries)

-- A gate may be passed where it is open; a closed one only where a second sound frame stands behind its first: what loads a file leaves at
-- most one frame behind a closed gate. The entries are those up to the first frame's end.
abbrev pub MayPass : ℕ → List ℕ → ℕ → List Entry → Type 0
MayPass version log place entries = is_closed_gate log place ≡ true → (others : List Entry) × IsSound version log (next_gate log place) entries others

-- the damage of a gate at a place that is passed: it is closed
abbrev pub closed_damage : Bool → ℕ → List Damage
closed_damage closed place = if closed then record { place = place; reason = ClosedGate } ∷ [] else []

-- that of a log
abbrev pub gate_damage : List ℕ → ℕ → List Damage
gate_damage log place = closed_damage (is_closed_gate log place) place

-- the damage of the closed gate at which reading ends: bytes stand behind it, no more than a crash leaves, or more
abbrev pub tail_damage : ℕ → Tail → List Damage
tail_damage place tail.Nothing = []
tail_damage place tail.Torn = record { place = place; reason = Torn } ∷ []
tail_damage place tail.More = record { place = place; reason = Lost } ∷ []

-- that of a log
abbrev pub torn_damage : List ℕ → ℕ → List Damage
torn_damage log place = tail_damage place (tail_behind place (length log))

-- Reading ends at the gate at that place, with this damage: it is closed, and no two sound frames stand behind it; or it is open, and
-- behind it stands no whole frame, or one whose payload isn't valid.
pub data Ends (version : ℕ) (log : List ℕ) (place : ℕ) (before : List Entry) (damages : List Damage) : Type 0 where
  Closed : is_closed_gate log place ≡ true → HasNoTwo version log place before → damages ≡ torn_damage log place → Ends version log place before damages
  Unframed : is_closed_gate log place ≡ false → has_frame (behind_gate log place) ≡ false
      → damages ≡ record { place = place; reason = NoFrame } ∷ [] → Ends version log place before damages
  Invalid : is_closed_gate log place ≡ false → has_frame (behind_gate log place) ≡ true → HasNone version log place before
      → damages ≡ record { place = place; reason = NotValid } ∷ [] → Ends version log place before damages

-- what is sound of a log: its entries; its damages in their order; and the place of the gate at which reading ends
pub record SoundPart : Type 0 where
  pub entries : List Entry
  pub damages : List Damage
  pub end : ℕ

-- entries and damages, and what is sound behind them
abbrev pub behind : List Entry → List Damage → SoundPart → SoundPart
behind entries damages more = record { entries = entries ++ more.entries; damages = damages ++ more.damages; end = more.end }

-- What is sound from the gate at that place on, behind the entries before it: nothing where reading ends there; else the frame behind
-- it, and what is sound from the next gate on.
pub data IsSoundFrom (version : ℕ) (log : List ℕ) : ℕ → List Entry → SoundPart → Type 0 where
  End : (place : ℕ) (before : List Entry) (all : SoundPart) (damages : List Damage) → Ends version log place before damages
      → all ≡ record { entries = []; damages = damages; end = place } → IsSoundFrom version log place before all
  Pass : (place : ℕ) (before : List Entry) (all : SoundPart) (entries : List Entry) (more : SoundPart) → IsSound version log place before entries
      → MayPass version log place (before ++ entries) → IsSoundFrom version log (next_gate log place) (before ++ entries) more
      → all ≡ behind entries (gate_damage log place) more → IsSoundFrom version log place before all

-- The version as which a log is read: 2 where its first frame is sound as of version 2, else 1 where it is as of version 1; else that
-- of its header.
pub data IsReadAs (log : List ℕ) (version : ℕ) : Type 0 where
  Newer : (entries : List Entry) → IsSound 2 log FIRST_GATE [] entries → version ≡ 2 → IsReadAs log version
  Older : (entries : List Entry) → HasNone 2 log FIRST_GATE [] → IsSound 1 log FIRST_GATE [] entries → version ≡ 1 → IsReadAs log version
  Neither : HasNone 2 log FIRST_GATE [] → HasNone 1 log FIRST_GATE [] → version ≡ version_of_header log → IsReadAs log version

-- the damage of a header: the first byte that is as in neither version; or its digit, where that names another version
abbrev pub wrong_header : Option ℕ → Bool → List Damage
wrong_header (Some place) named = record { place = place; reason = WrongHeader } ∷ []
wrong_header None true = []
wrong_header None false = record { place = VERSION_PLACE; reason = WrongHeader } ∷ []

-- that of a log which is read as a version
abbrev pub header_damage : ℕ → List ℕ → List Damage
header_damage version log = wrong_header (header_fault log) (version_of_header log == version)

-- whether a closed gate stands behind a header
abbrev pub has_closed_gate : List ℕ → Bool
has_closed_gate log = nat_lt FIRST_GATE (length log) && is_closed_gate log FIRST_GATE

-- the damage of a blank log: its header is wrong, or no closed gate stands behind that
abbrev pub wrong_blank : Option ℕ → Bool → List Damage
wrong_blank (Some place) closed = record { place = place; reason = WrongHeader } ∷ []
wrong_blank None true = []
wrong_blank None false = record { place = FIRST_GATE; reason = NoFrame } ∷ []

-- that of its bytes
abbrev pub blank_damage : List ℕ → List Damage
blank_damage log = wrong_blank (header_fault log) (has_closed_gate log)

-- What is sound of a log. A blank one has no entry; it is whole where it is a header and a closed gate.
pub data IsSoundOf (log : List ℕ) (all : SoundPart) : Type 0 where
  Blank : length log ≤ BLANK_LENGTH → all ≡ record { entries = []; damages = blank_damage log; end = FIRST_GATE } → IsSoundOf log all
  Long : (version : ℕ) (more : SoundPart) → BLANK_LENGTH < length log → IsReadAs log version → IsSoundFrom version log FIRST_GATE [] more
      → all ≡ behind [] (header_damage version log) more → IsSoundOf log all

-- how many bytes stand behind the gate at which reading ends
abbrev pub left_out : List ℕ → SoundPart → ℕ
left_out log all = length log - (all.end + 1)

-- Nothing is sound: there is no entry, and a first damage at that place, which isn't what a crash leaves behind a closed gate: so an empty
-- journal isn't meant.
pub record IsNothing (all : SoundPart) (place : ℕ) : Type 0 where
  pub none : all.entries ≡ []
  pub reason : Reason
  pub others : List Damage
  pub first : all.damages ≡ record { place = place; reason = reason } ∷ others
  pub broken : reason ≡ Torn → ⊥

-- some journal has these entries
pub record HasEntries (entries : List Entry) : Type 0 where
  pub log : List ℕ
  pub frames : List Frame
  pub found : frames_of log ≡ Ok frames
  pub holds : IsHistory (version_of log) [] (payloads_of frames) entries
