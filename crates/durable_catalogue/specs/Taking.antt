-- What is taken of a history, entry by entry. The rules are this project's own.
use Rattle.std.specs.Prelude.{◌≡◌, ℕ, ◌+◌, ◌<◌, ◌↔◌, Bool, true, List, [], ◌∷◌, ◌++◌, length, Option, Some, None}
use Rattle.marc_types.specs.declared.entry.Entry.{Entry}
use Rattle.marc_types.specs.declared.entry.Limits.{Limits}
use Rattle.commit_journal.specs.declared.frame.Frame.{Frame}
use Rattle.commit_journal.specs.Log.{payloads_of}
use Rattle.entry_record.specs.History.{entries_size, last_run, IsWithin}
use Rattle.entry_history.specs.Frames.{IsBadFrame}
use Rattle.entry_history.specs.Payloads.{IsHistory}
use Rattle.entry_history.specs.Readers.{Counted, HasExtent, CountsEntries}
use Rattle.durable_catalogue.specs.declared.taking.Reading.{Reading}

-- Entries that are a history, by some property, were taken, all of them in their order; this is the run of the last, and whether they
-- are within the limits.
pub record WereTaken (Has IsThat : List Entry → Type 0) (limits : Limits) (reading : Reading) : Type 0 where
  pub entries : List Entry
  pub history : IsThat entries
  pub taken : Has entries
  pub last : reading.last_run ≡ last_run entries
  pub fits_is : (reading.fits ≡ true) ↔ IsWithin limits entries

-- what is left of so many bytes behind entries; none where those have more
abbrev pub HasLeft : ℕ → List Entry → Option ℕ → Type 0
HasLeft bytes entries (Some left) = entries_size entries + left ≡ bytes
HasLeft bytes entries None = bytes < entries_size entries

-- Frames came one by one, and their entries were taken, all of them in their order: so far they go, and that they leave of the bytes that
-- were left before the first.
pub record AreAllHandedOn (Has : List Entry → Type 0) (version : ℕ) (first : Option ℕ) (frames : List Frame) (counter : Counted) (left : Option ℕ) : Type 0 where
  pub entries : List Entry
  pub history : IsHistory version [] (payloads_of frames) entries
  pub version_is : counter.version ≡ version
  pub extent : HasExtent entries counter.extent
  pub taken : Has entries
  pub left_is : (bytes : ℕ) → HasLeft bytes [] first → HasLeft bytes entries left

-- so it is of all frames that came, or the first of them whose payload isn't valid has its gate at that place
abbrev pub AreHandedOn : (List Entry → Type 0) → ℕ → Option ℕ → List Frame → Counted → Option ℕ → Option ℕ → Type 0
AreHandedOn Has version first frames counter left None = AreAllHandedOn Has version first frames counter left
AreHandedOn Has version first frames counter left (Some bad) = IsBadFrame version frames bad

-- behind whatever frames came, one more is let go, and its entries are handed on, or it is the first whose payload isn't valid
abbrev pub HandsFrameOn : {T : Type 0} → (T → T → List Entry → Type 0) → T → T → Frame → Counted → Counted → Option ℕ → Option ℕ → Option ℕ → Type 0
HandsFrameOn {T} has old new frame counter now left rest bad = (begun : T) (version : ℕ) (first : Option ℕ) (before : List Frame)
    → AreAllHandedOn (has begun old) version first before counter left → AreHandedOn (has begun new) version first (before ++ frame ∷ []) now rest bad

-- whether so many entries, which leave that of the bytes of the limits, are within them
abbrev pub TellsFit : Limits → Option ℕ → ℕ → Bool → Type 0
TellsFit limits left count fits = (entries : List Entry) → HasLeft limits.bytes entries left → count ≡ length entries → (fits ≡ true) ↔ IsWithin limits entries

-- a payload is valid behind the entries before it, whatever those are, and holds these
abbrev pub ReadsPayload : Counted → List Entry → List ℕ → Counted → Type 0
ReadsPayload old items payload new = (before : List Entry) → HasExtent before old.extent → CountsEntries old before items payload new
