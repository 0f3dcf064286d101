-- The accepted entries and the refused items of a file, for one loader. Source of a file's items: ISO 2709. That each is
-- judged by itself, in the file's order, is this project's own rule.
use Rattle.std.specs.Prelude.{◌≡◌, ℕ, List, [], ◌∷◌, ◌++◌, Some, None}
use Rattle.marc_types.specs.declared.entry.Entry.{Entry}
use Rattle.marc_types.specs.declared.refusal.Refusal.{Refusal}
use Rattle.marc_stream.specs.Pieces.{Item}
use Rattle.reading.specs.Preparing.{MakesEntry, IsRefusedInFile}
use Rattle.file_entries.specs.declared.refused.RefusedItem.{RefusedItem}

-- the entry that the loader makes of an item: it is a piece, and makes this entry in a file of this library
pub record IsEntryOf (library : List ℕ) (loader : ℕ) (item : Item) (e : Entry) : Type 0 where
  pub piece : item.refusal ≡ None
  pub makes : MakesEntry library item.bytes loader item.ordinal e

-- why an item makes no entry: it is no piece, or it is refused in a file of this library
pub data IsRefusedItem (library : List ℕ) (item : Item) (refusal : Refusal) : Type 0 where
  NoPiece : item.refusal ≡ Some refusal → IsRefusedItem library item refusal
  NoEntry : item.refusal ≡ None → IsRefusedInFile library item.bytes refusal → IsRefusedItem library item refusal

-- a refused item, as it is listed
abbrev pub listed : Item → Refusal → RefusedItem
listed item refusal = record { ordinal = item.ordinal; offset = item.offset; refusal = refusal }

-- of the items of a file, in their order, these are the accepted entries and these the refused items
pub data IsJudged (library : List ℕ) (loader : ℕ) : List Item → List Entry → List RefusedItem → Type 0 where
  NoItem : IsJudged library loader [] [] []
  Accepts : (items : List Item) (accepted : List Entry) (refused : List RefusedItem) (item : Item) (e : Entry)
      → IsJudged library loader items accepted refused → IsEntryOf library loader item e
      → IsJudged library loader (items ++ item ∷ []) (accepted ++ e ∷ []) refused
  Refuses : (items : List Item) (accepted : List Entry) (refused : List RefusedItem) (item : Item) (refusal : Refusal)
      → IsJudged library loader items accepted refused → IsRefusedItem library item refusal
      → IsJudged library loader (items ++ item ∷ []) accepted (refused ++ listed item refusal ∷ [])
