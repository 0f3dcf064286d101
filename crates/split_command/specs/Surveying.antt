-- What the first reading of files comes to.
use Rattle.std.specs.Prelude.{◌≡◌, ◌≢◌, ℕ, ◌+◌, ◌≤◌, Bool, true, false, ◌||◌, nat_lt, List, [], ◌++◌, length, All, Option, Some, IsSomeAnd, Result, Ok, Err, IfErr, OnOk, string_bytes}
use Rattle.marc_types.specs.declared.key.Key.{Key}
use Rattle.marc_types.specs.declared.key.Class.{Class}
use Rattle.marc_types.specs.declared.key.Class.TheVariants.{Authority, Bibliographic}
use Rattle.marc_types.specs.declared.entry.Entry.{Entry}
use Rattle.outside.specs.Fault.{Rose}
use Rattle.outside.specs.Room.{RoomView}
use Rattle.marc_stream.specs.Pieces.{Item, items}
use Rattle.file_entries.specs.Files.{IsJudged}
use Rattle.file_entries.specs.Entries.{FileView, IsAnswered, GivesEntry, GivesRefused, IsEnd, IsFault}
use Rattle.file_entries.specs.declared.refused.RefusedItem.{RefusedItem}
use Rattle.command_words.specs.declared.library.Library.{Library}
use Rattle.console_lines.specs.Lines.{refused_lines, refused_line}
use Rattle.split_command.specs.Console.{counted_line, console_of, any_refused}
use Rattle.split_command.specs.Cut.{FileCut, AreCut}
use Rattle.split_command.specs.Splitting.{HasNoRecord}
use Rattle.split_command.specs.declared.survey.Counts.{Counts}
use Rattle.split_command.specs.declared.survey.Survey.{Survey}
use Rattle.split_command.specs.declared.fault.SplitFault.{SplitFault}
use Rattle.split_command.specs.declared.fault.SplitFault.TheVariants.{Input, Output, Memory}

-- of an authority no key comes into the sample; behind a bibliographic record the sample has some
abbrev pub takes_key : Class → List Key → List Key → Type 0
takes_key Authority old new = new ≡ old
takes_key Bibliographic old new = new ≢ []

-- the same of an entry
abbrev pub TakesKey : Entry → List Key → List Key → Type 0
TakesKey e old new = takes_key e.class old new

-- where the sample has no key, it had none before, and all these entries are authorities
pub record HasSampled (old new : List Key) (accepted : List Entry) : Type 0 where
  pub none : new ≡ [] → (old ≡ []) × All (λ e. e.class ≡ Authority) accepted

-- So far these entries and refused items of a file were answered, counted and told.
pub record HasTold (file : List ℕ) (start now : Survey) (counts : Counts) (accepted : List Entry) (refused : List RefusedItem) : Type 0 where
  pub text : string_bytes now.text ≡ string_bytes start.text ++ refused_lines file refused
  pub accepted_are : counts.accepted ≡ length accepted
  pub refused_are : counts.refused ≡ length refused
  pub has : now.has_refused ≡ (start.has_refused || nat_lt 0 (length refused))
  pub sampled : HasSampled start.sample.keys.items now.sample.keys.items accepted

-- So far these were answered, counted and told, and no more items are to come than there were bytes.
pub record HasRead (file : List ℕ) (start now : FileView) (survey survey_now : Survey) (counts : Counts) : Type 0 where
  pub accepted : List Entry
  pub refused : List RefusedItem
  pub answered : IsAnswered start now accepted refused
  pub told : HasTold file survey survey_now counts accepted refused
  pub few : counts.accepted + counts.refused + now.stream.most ≤ start.stream.most

-- one more item of a file was taken up
pub data IsTakenUp (file : List ℕ) (old new : FileView) (before after : Survey) (counts counts_now : Counts) : Type 0 where
  TakenAsEntry : (e : Entry) → GivesEntry old new e → TakesKey e before.sample.keys.items after.sample.keys.items
      → string_bytes after.text ≡ string_bytes before.text → after.has_refused ≡ before.has_refused
      → counts_now ≡ record counts { accepted = counts.accepted + 1 } → IsTakenUp file old new before after counts counts_now
  TakenAsRefused : (item : RefusedItem) → GivesRefused old new item → after.sample ≡ before.sample
      → string_bytes after.text ≡ string_bytes before.text ++ refused_line file item → after.has_refused ≡ true
      → counts_now ≡ record counts { refused = counts.refused + 1 } → IsTakenUp file old new before after counts counts_now

-- what becomes of the next item, by whether there was one
abbrev pub TakesNext : List ℕ → FileView → FileView → Survey → Survey → Counts → Counts → Result Bool SplitFault → Type 0
TakesNext file old new before after counts counts_now (Ok true) = IsTakenUp file old new before after counts counts_now
TakesNext file old new before after counts counts_now (Ok false) = IsEnd old new × (after ≡ before) × (counts_now ≡ counts)
TakesNext file old new before after counts counts_now (Err Input) = IsFault old new
TakesNext file old new before after counts counts_now (Err Output) = ⊥
TakesNext file old new before after counts counts_now (Err Memory) = Unit {0}

-- a file's items were read: these are its accepted entries and refused items, and all is told of it
pub record IsTold (file library : List ℕ) (all : List Item) (start now : Survey) : Type 0 where
  pub accepted : List Entry
  pub refused : List RefusedItem
  pub judged : IsJudged library 0 all accepted refused
  pub text : string_bytes now.text ≡ string_bytes start.text ++ (refused_lines file refused ++ counted_line file (length accepted) (length refused))
  pub has : now.has_refused ≡ (start.has_refused || nat_lt 0 (length refused))
  pub sampled : HasSampled start.sample.keys.items now.sample.keys.items accepted

-- the first reading needs no output
abbrev pub IsReadingCause : ℕ → ℕ → SplitFault → Type 0
IsReadingCause before now Input = Rose before now
IsReadingCause before now Output = ⊥
IsReadingCause before now Memory = Unit {0}

-- how the reading of a source of these bytes ends, with the count of its faults before and now
pub record SurveysSource (file library : List ℕ) (left : Option (List ℕ)) (before now : ℕ) (start end : Survey) (result : Result (Unit {0}) SplitFault) : Type 0 where
  pub read : OnOk result ((bytes : List ℕ) → left ≡ Some bytes → IsTold file library (items bytes) start end)
  pub later : before ≤ now
  pub cause : IfErr result (IsReadingCause before now)

-- the files of these libraries, where the room tells them, were all read and told
pub record AreSurveyed (room : RoomView) (libraries : List Library) (survey : Survey) : Type 0 where
  pub cuts : List FileCut
  pub cut : AreCut room libraries cuts
  pub text : string_bytes survey.text ≡ console_of libraries cuts
  pub has : survey.has_refused ≡ any_refused cuts
  pub none : survey.sample.keys.items ≡ [] → All HasNoRecord cuts

-- the same of a file of which items were answered already
pub record SurveysEntries (file : List ℕ) (old new : FileView) (start end : Survey) (result : Result (Unit {0}) SplitFault) : Type 0 where
  pub read : OnOk result (old.stream.tells ≡ true → IsTold file old.library old.stream.coming start end)
  pub later : old.stream.faults ≤ new.stream.faults
  pub cause : IfErr result (IsReadingCause old.stream.faults new.stream.faults)

-- the same of a library's file in a room
pub record SurveysFile (old new : RoomView) (library : Library) (start end : Survey) (result : Result (Unit {0}) SplitFault) : Type 0 where
  pub read : OnOk result (old.tells ≡ true → IsSomeAnd (old.file library.file) (λ bytes. IsTold library.file library.code (items bytes) start end))
  pub cause : IfErr result (IsReadingCause (old.in_faults library.file) (new.in_faults library.file))
