-- The inputs of a command's files. The rules are this project's own.
use Rattle.std.specs.Prelude.{◌≡◌, ◌≢◌, ℕ, ◌<◌, ◌≤◌, true, List, [], ◌∷◌, length, map, take, All, Option, Some, None, IsSome, IsTrue, slice_get}
use Rattle.marc_types.specs.Valid.{is_code}
use Rattle.outside.specs.Room.{RoomView}
use Rattle.outside.specs.Fault.{Rose}
use Rattle.command_words.specs.declared.library.Library.{Library}
use Rattle.command_words.specs.declared.asked.LoadRequest.{LoadRequest}
use Rattle.command_words.specs.Command.{names_of, AreNames}
use Rattle.command_words.specs.Asked.{load_asked}
use Rattle.console_lines.specs.declared.fault.Fault.{Fault}
use Rattle.loader_workers.specs.declared.input.InputFile.{InputFile}

-- the codes of these libraries obey the rule of codes
abbrev pub AreProper : List Library → Type 0
AreProper libraries = All (λ library. IsTrue (is_code library.code)) libraries

-- 1 to 64 libraries with proper codes, none of whose files is the journal
pub record AreLoadable (journal : List ℕ) (libraries : List Library) : Type 0 where
  pub some : 0 < length libraries
  pub few : length libraries ≤ 64
  pub proper : AreProper libraries
  pub apart : All (λ library. library.file ≢ journal) libraries

-- a request whose files can be loaded into its journal, and none of its names of a log and outputs is another one
pub record IsProper (asked : LoadRequest) : Type 0 where
  pub loadable : AreLoadable asked.journal.now asked.libraries
  pub names : AreNames (names_of (load_asked asked))

-- a fault of the input of some library's file
pub record IsInputFault (libraries : List Library) (old new : RoomView) : Type 0 where
  pub index : ℕ
  pub library : Library
  pub named : slice_get libraries index ≡ Some library
  pub rose : Rose (old.in_faults library.file) (new.in_faults library.file)

module _ {S : Type 0} (left : S → Option (List ℕ)) where
  -- the file of a library was opened: it is there, and its bytes are to come
  pub record IsInputOf (room : RoomView) (library : Library) (input : InputFile S) : Type 0 where
    pub there : room.tells ≡ true → IsSome (room.file library.file)
    pub bytes : room.tells ≡ true → left input.source ≡ room.file library.file
    pub code : input.code ≡ library.code

  -- the files of these libraries were opened, in their order
  pub data AreInputs (room : RoomView) : List Library → List (InputFile S) → Type 0 where
    NoInput : AreInputs room [] []
    OneInput : (libraries : List Library) (inputs : List (InputFile S)) (library : Library) (input : InputFile S) → IsInputOf room library input
        → AreInputs room libraries inputs → AreInputs room (library ∷ libraries) (input ∷ inputs)

-- what these inputs have left
abbrev pub lefts_of_inputs : {S : Type 0} → (S → Option (List ℕ)) → List (InputFile S) → List (Option (List ℕ))
lefts_of_inputs left inputs = map (λ input. left input.source) inputs

-- an input that had no fault yet, of a file with a proper code
pub record IsFresh {S : Type 0} (faults : S → ℕ) (input : InputFile S) : Type 0 where
  pub faultless : faults input.source ≡ 0
  pub proper : IsTrue (is_code input.code)

-- The files of the first of these libraries were opened, in their order, and had no fault yet: of all, where there is no fault.
pub record AreOpened {S : Type 0} (left : S → Option (List ℕ)) (faults : S → ℕ) (room : RoomView) (libraries : List Library) (opened : List (InputFile S))
    (fault : Option Fault) : Type 0 where
  pub inputs : AreInputs left room (take (length opened) libraries) opened
  pub fresh : All (IsFresh faults) opened
  pub few : length opened ≤ length libraries
  pub whole : fault ≡ None → length opened ≡ length libraries

-- the count of the inputs of a file rose, where its input had a fault; of the files from that number on
abbrev pub RisesFrom : {S : Type 0} → (S → ℕ) → ℕ → List Library → List (InputFile S) → RoomView → RoomView → Type 0
RisesFrom {S} faults first libraries inputs old new = (index : ℕ) (library : Library) (input : InputFile S) → first ≤ index
    → slice_get libraries index ≡ Some library → slice_get inputs index ≡ Some input → Rose 0 (faults input.source)
    → Rose (old.in_faults library.file) (new.in_faults library.file)
