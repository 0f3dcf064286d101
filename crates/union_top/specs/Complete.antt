-- When nothing hinders a command: it fits, and no fault was counted of what it uses. The rules are this project's own.
use Rattle.std.specs.Prelude.{ℕ, List, ◌∷◌, length, All, Option}
use Rattle.outside.specs.Fault.{Rose, count_total}
use Rattle.outside.specs.Room.{RoomView}
use Rattle.command_words.specs.declared.library.Library.{Library}
use Rattle.command_words.specs.Command.{Command, Pass, Run, Load, Browse, Export, Report, Make, Verify, VerifyPoint, VerifyDigest, Matches, Holdings, Headings, Worklist, Migrate, Salvage, Checkpoint, Quick, QuickReport, Read, ReadHoldings, ReadWorklist, Refused as RefusedOf, Totals as TotalsOf, Join, Split, Help, Version, libraries_of}
use Rattle.split_command.specs.Names.{split_names}
use Rattle.union_top.specs.Fits.{Fits}

-- what the room and the console were before and after a command
pub record Around : Type 1 where
  pub old : RoomView
  pub new : RoomView
  pub told : Option (List ℕ)
  pub now : Option (List ℕ)
  pub faults : ℕ
  pub faults_now : ℕ

-- a room and a console, before and after
abbrev pub around : {R K : Type 0} → (R → RoomView) → (K → Option (List ℕ)) → (K → ℕ) → R → R → K → K → Around
around seen written faults room room_now console console_now = record {
  old = seen room;
  new = seen room_now;
  told = written console;
  now = written console_now;
  faults = faults console;
  faults_now = faults console_now;
}

-- a count of faults did not rise
abbrev pub Stayed : ℕ → ℕ → Type 0
Stayed before now = Rose before now → ⊥

module _ (a : Around) where
  -- that of the inputs, of the outputs or of the logs of a name; of the console; of the inputs of each of these libraries' files
  abbrev pub InStayed : List ℕ → Type 0
  InStayed name = Stayed (a.old.in_faults name) (a.new.in_faults name)

  -- no fault of the outputs of a name was counted
  abbrev pub OutStayed : List ℕ → Type 0
  OutStayed name = Stayed (a.old.out_faults name) (a.new.out_faults name)

  -- no fault of the logs of a name was counted
  abbrev pub LogStayed : List ℕ → Type 0
  LogStayed name = Stayed (a.old.log_faults name) (a.new.log_faults name)

  -- no fault of the console was counted
  abbrev pub ConsoleStayed : Type 0
  ConsoleStayed = Stayed a.faults a.faults_now

  -- no fault of the inputs of these libraries' files was counted
  abbrev pub InputsStayed : List Library → Type 0
  InputsStayed libraries = All (λ library. InStayed library.file) libraries

  -- no fault of the inputs of these names was counted, of all together
  abbrev pub InsStayed : List (List ℕ) → Type 0
  InsStayed names = Stayed (count_total a.old.in_faults names) (count_total a.new.in_faults names)

  -- no fault of the outputs of these names was counted
  abbrev pub OutsStayed : List (List ℕ) → Type 0
  OutsStayed names = All (λ name. OutStayed name) names

-- no count rose of what the command of some words uses
abbrev pub CountsStayed : List (List ℕ) → Command → Around → Type 0
CountsStayed words (Pass out) a = InputsStayed a (libraries_of words) × OutStayed a out × ConsoleStayed a
CountsStayed words (Run journal out report files) a =
    InputsStayed a (libraries_of words) × LogStayed a journal × ConsoleStayed a × OutStayed a out × OutStayed a report
CountsStayed words (Load journal files) a = InputsStayed a (libraries_of words) × LogStayed a journal × ConsoleStayed a
CountsStayed words (Browse journal out report pages files) a =
    InputsStayed a (libraries_of words) × LogStayed a journal × ConsoleStayed a × OutStayed a out × OutStayed a report × OutStayed a pages
CountsStayed words (Export journal out code) a = LogStayed a journal × OutStayed a out
CountsStayed words (Report journal out) a = LogStayed a journal × OutStayed a out
CountsStayed words (Make seed count out) a = OutStayed a out × ConsoleStayed a
CountsStayed words (Verify journal) a = InStayed a journal × ConsoleStayed a
CountsStayed words (VerifyPoint journal point) a = InStayed a journal × InStayed a point × ConsoleStayed a
CountsStayed words (VerifyDigest journal count digest) a = InStayed a journal × ConsoleStayed a
CountsStayed words (Matches journal out) a = LogStayed a journal × OutStayed a out
CountsStayed words (Holdings journal out rest code) a =
    InputsStayed a (libraries_of words) × LogStayed a journal × ConsoleStayed a × OutStayed a out × OutStayed a rest
CountsStayed words (Headings journal range out) a = LogStayed a journal × OutStayed a out
CountsStayed words (Worklist journal list page code) a = LogStayed a journal × OutStayed a list × OutStayed a page
CountsStayed words (Migrate from into) a = LogStayed a from × LogStayed a into × ConsoleStayed a
CountsStayed words (Salvage journal into) a = InStayed a journal × LogStayed a into × ConsoleStayed a
CountsStayed words (Checkpoint journal point) a = LogStayed a journal × LogStayed a point × ConsoleStayed a
CountsStayed words (Quick journal point out) a = LogStayed a journal × LogStayed a point × OutStayed a out × ConsoleStayed a
CountsStayed words (QuickReport journal point out report) a =
    LogStayed a journal × LogStayed a point × OutStayed a out × ConsoleStayed a × OutStayed a report
CountsStayed words (Read look journal out) a = InStayed a journal × OutStayed a out
CountsStayed words (ReadHoldings journal out rest code) a =
    InputsStayed a (libraries_of words) × InStayed a journal × ConsoleStayed a × OutStayed a out × OutStayed a rest
CountsStayed words (ReadWorklist journal list page code) a = InStayed a journal × OutStayed a list × OutStayed a page
CountsStayed words (RefusedOf out) a = InputsStayed a (libraries_of words) × OutStayed a out × ConsoleStayed a
CountsStayed words (TotalsOf first reports) a = InsStayed a (first ∷ reports) × ConsoleStayed a
CountsStayed words (Join out exports) a = InsStayed a exports × OutStayed a out
CountsStayed words (Split count prefix files) a =
    InputsStayed a (libraries_of words) × OutsStayed a (split_names prefix count (length (libraries_of words))) × ConsoleStayed a
CountsStayed words (Help topic) a = ConsoleStayed a
CountsStayed words Version a = ConsoleStayed a

-- nothing hinders the command of some words
pub record IsUnhindered (words : List (List ℕ)) (command : Command) (a : Around) : Type 0 where
  pub fits : Fits words command a.old
  pub stayed : CountsStayed words command a
