-- What a room in memory has under each name.
use Rattle.std.specs.Prelude.{◌≡◌, ◌≢◌, ℕ, ◌<◌, List, [], ◌∷◌, ◌++◌, length, Option, Some, None, Bool, true, false}
use Rattle.std.specs.List.{find, position_or_len}
use Rattle.std.specs.Str.{bytes_eq}
use Rattle.std.specs.String.{string_bytes}
use Rattle.outside_mem.specs.declared.files.FileState.{FileState}
use Rattle.outside_mem.specs.declared.files.FileState.TheVariants.{Absent, Closed, ClosedLog, OpenLog}
use Rattle.outside_mem.specs.declared.files.MemFile.{MemFile}

-- the bytes of a closed file
abbrev pub told_file : FileState → Option (List ℕ)
told_file Absent = None
told_file (Closed bytes) = Some bytes
told_file (ClosedLog disk) = Some disk.tape.bytes
told_file OpenLog = None

-- what stands under a name, the numbers of the calls that are to fail on an object opened by it, whether each opening is to fail, and
-- whether an output of it is open
pub record NamedFile : Type 0 where
  pub state : FileState
  pub fails : List ℕ
  pub opening_fails : Bool
  pub is_output : Bool

-- whether the entry has that name
abbrev pub is_named : List ℕ → MemFile → Bool
is_named name file = bytes_eq (string_bytes file.name) name

-- an entry without its name; no entry is that of no file
abbrev pub without_name : Option MemFile → NamedFile
without_name None = record { state = Absent; fails = []; opening_fails = false; is_output = false }
without_name (Some file) = record { state = file.state; fails = file.fails.items; opening_fails = file.opening_fails; is_output = file.is_output }

-- what a list of entries has under a name
unfoldable pub file_in : List MemFile → List ℕ → NamedFile
file_in files name = without_name (find (is_named name) files)

-- the first entry of that name stands at that place
pub record IsPlaceOf (files : List MemFile) (name : List ℕ) (place : ℕ) : Type 0 where
  pub first : place ≡ position_or_len (is_named name) files
  pub within : place < length files

-- no entry has that name
pub record IsNameless (files : List MemFile) (name : List ℕ) : Type 0 where
  pub none : position_or_len (is_named name) files ≡ length files

-- the entry of that name says no more than none does
pub record IsBlank (file : MemFile) (name : List ℕ) : Type 0 where
  pub named : string_bytes file.name ≡ name
  pub blank : without_name (Some file) ≡ without_name None

-- this stands under the name now, and what stands under any other stays
pub record ChangesFile (old new : List MemFile) (name : List ℕ) (file : NamedFile) : Type 0 where
  pub here : file_in new name ≡ file
  pub others : (n : List ℕ) → n ≢ name → file_in new n ≡ file_in old n

-- a file whose state is another
abbrev pub with_state : FileState → NamedFile → NamedFile
with_state state file = record file { state = state }

-- a file of which an output is open, or none is
abbrev pub with_output : Bool → NamedFile → NamedFile
with_output is_output file = record file { is_output = is_output }

-- a file in whose place something was closed
abbrev pub closed_as : FileState → NamedFile → NamedFile
closed_as state file = record file { state = state; is_output = false }

-- a file whose openings fail
abbrev pub with_no_opening : NamedFile → NamedFile
with_no_opening file = record file { opening_fails = true }

-- a file on whose objects the call with this number fails too
abbrev pub with_fail : ℕ → NamedFile → NamedFile
with_fail call file = record file { fails = file.fails ++ call ∷ [] }

-- the file at a place is changed so, whatever its name is, and what stands under any other name stays
abbrev pub ChangesAt : List MemFile → List MemFile → ℕ → (NamedFile → NamedFile) → Type 0
ChangesAt old new place change = (name : List ℕ) → IsPlaceOf old name place → ChangesFile old new name (change (file_in old name))

-- the file at a place can be opened, whatever its name is, and these calls fail on what is opened
abbrev pub OpensAt : List MemFile → ℕ → List ℕ → Type 0
OpensAt files place fails =
    (name : List ℕ) → IsPlaceOf files name place → ((file_in files name).opening_fails ≡ false) × ((file_in files name).fails ≡ fails)
