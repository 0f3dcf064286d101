-- What clauses see of a `FileHoldings`, and what its `next` does.
use Rattle.std.specs.Prelude.{◌≡◌, ℕ, ◌+◌, ◌≤◌, Bool, true, false, List, length, ◌++◌}
use Rattle.marc_stream.specs.Pieces.{Item}
use Rattle.marc_stream.specs.Stream.{Stream, ReadsOn, Answers, Ends, Fails}
use Rattle.holdings.specs.declared.holding.Holding.{Holding}
use Rattle.file_holdings.specs.Files.{IsHoldingItem, IsRefusedItem, AreHoldings, listed}
use Rattle.file_holdings.specs.declared.refused.RefusedHolding.{RefusedHolding}
use Rattle.file_holdings.specs.declared.items.NextHolding.{NextHolding}
use Rattle.file_holdings.specs.declared.items.NextHolding.TheVariants as next

-- a file of one library, of which holdings are made
pub record HoldingFile : Type 0 where
  -- its items, as they are cut
  pub stream : Stream
  -- its library code
  pub library : List ℕ
  -- whether the end, a fault or want of memory was answered
  pub over : Bool

-- a file of a library, of which this is to come
abbrev pub file_of : Stream → List ℕ → Bool → HoldingFile
file_of stream library over = record { stream = stream; library = library; over = over }

-- while nothing is over there are items to ask for
abbrev pub IsGoing : Stream → Bool → Type 0
IsGoing stream over = over ≡ false → stream.over ≡ false

-- the next item was answered as its holding
pub record GivesHolding (old new : HoldingFile) (ordinal : ℕ) (h : Holding) : Type 0 where
  pub item : Item
  pub answers : Answers old.stream new.stream item
  pub ordinal_is : ordinal ≡ item.ordinal
  pub held : IsHoldingItem old.library item h
  pub over : new.over ≡ false

-- the next item was answered as refused
pub record GivesRefused (old new : HoldingFile) (refused : RefusedHolding) : Type 0 where
  pub item : Item
  pub answers : Answers old.stream new.stream item
  pub why : IsRefusedItem old.library item refused.refusal
  pub listed_is : refused ≡ listed item refused.refusal
  pub over : new.over ≡ false

-- no item is left
pub record IsEnd (old new : HoldingFile) : Type 0 where
  pub ends : Ends old.stream new.stream
  pub over : new.over ≡ true

-- the source failed before the next item was known
pub record IsFault (old new : HoldingFile) : Type 0 where
  pub fails : Fails old.stream new.stream
  pub over : new.over ≡ true

-- memory ran out, and an item may be lost
pub record IsOutOfMemory (old new : HoldingFile) : Type 0 where
  pub reads : ReadsOn old.stream new.stream
  pub over : new.over ≡ true

-- the next item is a holding, refused, the end, or a fault, and what is then left to come
abbrev pub HoldingGives : HoldingFile → NextHolding → HoldingFile → Type 0
HoldingGives old (next.Holding ordinal h) new = GivesHolding old new ordinal h
HoldingGives old (next.Refused refused) new = GivesRefused old new refused
HoldingGives old next.End new = IsEnd old new
HoldingGives old next.ReadFault new = IsFault old new
HoldingGives old next.NoMemory new = IsOutOfMemory old new

-- So far these holdings and these refused items were answered; the other items are to come.
pub record IsAnswered (start now : HoldingFile) (accepted : List Holding) (refused : List RefusedHolding) : Type 0 where
  pub going : now.over ≡ false
  pub library : now.library ≡ start.library
  pub tells : now.stream.tells ≡ start.stream.tells
  pub faults : start.stream.faults ≤ now.stream.faults
  pub count : now.stream.answered ≡ start.stream.answered + (length accepted + length refused)
  pub done : List Item
  pub judged : AreHoldings start.library done accepted refused
  pub split : start.stream.tells ≡ true → start.stream.coming ≡ done ++ now.stream.coming
