-- What clauses see of a room.
use Rattle.std.specs.Prelude.{◌≡◌, ◌≢◌, ◌⊎◌, ℕ, ◌≤◌, List, [], ◌∷◌, length, Option, Some, None, Bool, true, false}
use Rattle.outside.specs.Disk.{DiskView, SameDisk}

-- how a name is open, other than as input
pub data OpenSort : Type 0 where
  AsOutput : OpenSort
  AsLog : OpenSort

-- what a room promises of a name: nothing; or that its inputs have no fault; or that no output and no log of it has one before it has so
-- many bytes
pub data Promise : Type 0 where
  Unpromised : Promise
  ReadsAlways : Promise
  HoldsUpTo : ℕ → Promise

-- a room: its files and closed logs by name, the names that are open, and each name's counts of faults.
pub record RoomView : Type 1 where
  -- whether it tells its files
  pub tells : Bool
  -- whether commands over it take the limits of a large catalogue
  pub is_large : Bool
  -- the bytes of the file of that name, where there is one that isn't open as a log. An output that is open leaves it as it is.
  pub file : List ℕ → Option (List ℕ)
  -- how the name is open
  pub open_as : List ℕ → Option OpenSort
  -- whether the file of that name is what was closed as a log
  pub has_log : List ℕ → Bool
  -- where it is, the disk that was closed, with its moments
  pub log : List ℕ → DiskView
  -- the faults of the name's inputs
  pub in_faults : List ℕ → ℕ
  -- the faults of the name's outputs
  pub out_faults : List ℕ → ℕ
  -- the faults of the name's logs
  pub log_faults : List ℕ → ℕ
  -- the most bytes that an output of the name had which was taken back with a fault
  pub failed_at : List ℕ → ℕ
  -- what each input that was closed had left then, the newest first; none where its source doesn't tell
  pub lefts : List (Option (List ℕ))
  -- what it promises of the name, which no call changes
  pub promise : List ℕ → Promise

-- the bytes of a file, none where there is no file
abbrev pub bytes_or_none : Option (List ℕ) → List ℕ
bytes_or_none None = []
bytes_or_none (Some bytes) = bytes

-- no output of the name had a fault, or one that had it had so many bytes; no log of the name had a fault, or its file has so many
pub record HasHeld (room : RoomView) (name : List ℕ) (most : ℕ) : Type 0 where
  pub outs : (room.out_faults name ≡ 0) ⊎ (most ≤ room.failed_at name)
  pub logs : (room.log_faults name ≡ 0) ⊎ (most ≤ length (bytes_or_none (room.file name)))

-- a promise of a room is kept
abbrev pub IsPromiseKept : RoomView → List ℕ → Promise → Type 0
IsPromiseKept room name Unpromised = Unit {0}
IsPromiseKept room name ReadsAlways = room.in_faults name ≡ 0
IsPromiseKept room name (HoldsUpTo most) = HasHeld room name most

-- the file of that name, and the log that was closed as it, are as they were
pub record IsUntouched (old new : RoomView) (name : List ℕ) : Type 0 where
  pub file : new.file name ≡ old.file name
  pub is_log : new.has_log name ≡ old.has_log name
  pub log : old.has_log name ≡ true → SameDisk (old.log name) (new.log name)

-- the file of that name has these bytes, where the room tells it, and is no closed log
pub record IsPut (old new : RoomView) (name : List ℕ) (bytes : Option (List ℕ)) : Type 0 where
  pub file : old.tells ≡ true → new.file name ≡ bytes
  pub no_log : new.has_log name ≡ false

-- an output of these bytes is whole or not at all: the file of that name is as it was, or has all of them
pub data IsPutOrNot (old new : RoomView) (name : List ℕ) (bytes : Option (List ℕ)) : Type 0 where
  Untouched : IsUntouched old new name → IsPutOrNot old new name bytes
  Put : IsPut old new name bytes → IsPutOrNot old new name bytes

-- a name that differs from each of these
abbrev pub IsNoneOf : List ℕ → List (List ℕ) → Type 0
IsNoneOf name [] = Unit {0}
IsNoneOf name (other ∷ others) = (name ≢ other) × IsNoneOf name others

-- no file, closed log or open name but of these names changes, no count falls, and the promises and limits stay
pub record SameBut (old new : RoomView) (names : List (List ℕ)) : Type 0 where
  pub tells : new.tells ≡ old.tells
  pub files : (n : List ℕ) → IsNoneOf n names → new.file n ≡ old.file n
  pub open_names : (n : List ℕ) → IsNoneOf n names → new.open_as n ≡ old.open_as n
  pub log_names : (n : List ℕ) → IsNoneOf n names → new.has_log n ≡ old.has_log n
  pub logs : (n : List ℕ) → IsNoneOf n names → old.has_log n ≡ true → SameDisk (old.log n) (new.log n)
  pub ins : (n : List ℕ) → old.in_faults n ≤ new.in_faults n
  pub outs : (n : List ℕ) → old.out_faults n ≤ new.out_faults n
  pub log_counts : (n : List ℕ) → old.log_faults n ≤ new.log_faults n
  pub failed_ats : (n : List ℕ) → IsNoneOf n names → new.failed_at n ≡ old.failed_at n
  pub promises : (n : List ℕ) → new.promise n ≡ old.promise n
  pub sizes : new.is_large ≡ old.is_large
