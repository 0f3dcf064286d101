-- What the second reading of a file does, item by item.
use Rattle.std.specs.Prelude.{◌≡◌, ℕ, Bool, true, false, List, ◌++◌, Option, Some, None, Result, Ok, Err}
use Rattle.marc_types.specs.declared.key.Key.{Key}
use Rattle.marc_types.specs.declared.entry.Entry.{Entry}
use Rattle.marc_types.specs.declared.refusal.Refusal.{Refusal}
use Rattle.marc_stream.specs.Pieces.{Item}
use Rattle.marc_stream.specs.Stream.{Stream, Answers, Ends, Fails, ReadsOn}
use Rattle.reading.specs.Preparing.{MakesEntry, IsRefusedInFile}
use Rattle.file_entries.specs.Files.{IsEntryOf, IsRefusedItem}
use Rattle.file_entries.specs.declared.refused.RefusedItem.{RefusedItem}
use Rattle.split_command.specs.Cut.{IsCut}
use Rattle.split_command.specs.Shares.{Piece, share_of, dealt}
use Rattle.split_command.specs.Outputs.{AreDealt, HasSinkFault, due_to}
use Rattle.split_command.specs.declared.fault.SplitFault.{SplitFault}
use Rattle.split_command.specs.declared.fault.SplitFault.TheVariants.{Input, Output, Memory}

-- the share of a piece of a library's file: that of the entry that it makes, and none of a piece that is refused
abbrev pub HasShare : List ℕ → List ℕ → ℕ → List Key → Option ℕ → Type 0
HasShare library bytes ordinal bounds (Some share) = (e : Entry) × MakesEntry library bytes 0 ordinal e × (share ≡ share_of bounds e)
HasShare library bytes ordinal bounds None = (refusal : Refusal) × IsRefusedInFile library bytes refusal

module _ {K : Type 0} (written : K → Option (List ℕ)) (faults : K → ℕ) where
  -- one more item of a file was dealt to the outputs of some shares
  pub data DealsItem (library : List ℕ) (bounds : List Key) (first : ℕ) (old new : Stream) (outs outs_now : List K) : Type 0 where
    ToShare : (item : Item) (e : Entry) → Answers old new item → IsEntryOf library 0 item e
        → AreDealt written faults (due_to (share_of bounds e) item.bytes) first outs outs_now
        → DealsItem library bounds first old new outs outs_now
    ToNone : (item : Item) (refusal : Refusal) → Answers old new item → IsRefusedItem library item refusal → outs_now ≡ outs
        → DealsItem library bounds first old new outs outs_now

  -- what becomes of the next item, by whether there was one
  abbrev pub DealsNext : List ℕ → List Key → ℕ → Stream → Stream → List K → List K → Result Bool SplitFault → Type 0
  DealsNext library bounds first old new outs outs_now (Ok true) = DealsItem library bounds first old new outs outs_now
  DealsNext library bounds first old new outs outs_now (Ok false) = Ends old new × (outs_now ≡ outs)
  DealsNext library bounds first old new outs outs_now (Err Input) = Fails old new
  DealsNext library bounds first old new outs outs_now (Err Output) = HasSinkFault faults outs outs_now
  DealsNext library bounds first old new outs outs_now (Err Memory) = Unit {0}

  -- so far these pieces and refused items were dealt; the other items are to come
  pub record HasDealt (library : List ℕ) (bounds : List Key) (first : ℕ) (start now : Stream) (outs outs_now : List K) : Type 0 where
    pub going : now.over ≡ false
    pub reads : ReadsOn start now
    pub done : List Item
    pub pieces : List Piece
    pub refused : List RefusedItem
    pub cut : IsCut library done pieces refused
    pub split : start.tells ≡ true → start.coming ≡ done ++ now.coming
    pub dealt_are : AreDealt written faults (λ share. dealt bounds share pieces) first outs outs_now

  -- all of these items were dealt
  pub record IsDealtWhole (library : List ℕ) (bounds : List Key) (first : ℕ) (all : List Item) (outs outs_now : List K) : Type 0 where
    pub pieces : List Piece
    pub refused : List RefusedItem
    pub cut : IsCut library all pieces refused
    pub dealt_are : AreDealt written faults (λ share. dealt bounds share pieces) first outs outs_now
