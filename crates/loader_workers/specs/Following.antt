-- What follows a catalogue's history beside the loaders. The rules are this project's own.
use Rattle.std.specs.Prelude.{◌≡◌, ℕ, ◌+◌, ◌^◌, ◌≤◌, Bool, false, List, length, Option, Result, IfOk, OnOk}
use mathlib.Core.List.{IsPrefix}
use Rattle.marc_types.specs.declared.copying.NoMemory.{NoMemory}
use Rattle.marc_types.specs.declared.entry.Entry.{Entry}
use Rattle.entry_history.specs.Events.{entries_of}
use Rattle.entry_history.specs.declared.event.Event.{Event}
use Rattle.catalogue_lock.specs.History.{items}
use Rattle.catalogue_lock.specs.Passes.{Lock, Pass, IsPassOf}
use Rattle.durable_catalogue.specs.Asked.{IsFrom, IsAnswered}
use Rattle.durable_catalogue.specs.declared.question.Ask.{Ask}
use Rattle.durable_catalogue.specs.declared.question.Told.{Told}
use Rattle.loader_workers.specs.Turns.{IsSamePass}

-- what an object under a lock answers to questions
abbrev pub Answers : Type 1
Answers = List Event → Ask → Result Told NoMemory → Type 0

-- it answers as a catalogue over a journal does, which keeps news of all that comes behind so many entries
pub record TellsNews (answers : Answers) (count : ℕ) : Type 0 where
  pub start : Option ℕ
  pub early : IsFrom start count
  pub answered : (history : List Event) (question : Ask) (answer : Result Told NoMemory) → answers history question answer → IsAnswered start history question answer

-- What was asked for of a history was taken, behind its entries that were taken before; `more` tells whether there was any.
pub record TakesTold (history now : List Entry) (more : Result Bool NoMemory) : Type 0 where
  pub begins : IsPrefix now history
  pub none_left : IfOk more (λ more. more ≡ false → now ≡ history)

-- the pass has seen all that was taken, as a front of the history's entries
abbrev pub IsBehind : {O : Type 0} → Pass O Event → List Entry → Type 0
IsBehind pass taken = IsPrefix taken (entries_of (items pass.seen))

-- the pass is the same but for its turns and for what it has seen: it added nothing
pub record HasLooked {O : Type 0} (old new : Pass O Event) : Type 0 where
  pub same : IsSamePass old new
  pub added : new.added ≡ old.added

module _ {O T : Type 0} (taken : T → List Entry) (takes : T → Type 0) where
  -- the pass is the lock's and can make so many turns, and its taker takes what comes behind what it has taken
  pub record CanFollow (answers : Answers) (most : ℕ) (lock : Lock O) (pass : Pass O Event) (taker : T) : Type 0 where
    pub own : IsPassOf lock pass
    pub room : pass.turns + most ≤ 2 ^ 31
    pub news : TellsNews answers (length (taken taker))
    pub behind : IsBehind pass (taken taker)
    pub able : takes taker

  -- What was seen meanwhile of the history, its entries or a front of them, was taken; and more can be, unless there was no memory.
  pub record HasFollowed {A : Type 0} (old new : Pass O Event) (taker now : T) (told : Result A NoMemory) : Type 0 where
    pub pass : HasLooked old new
    pub behind : IsBehind new (taken now)
    pub longer : length (taken taker) ≤ length (taken now)
    pub able : OnOk told (takes now)
