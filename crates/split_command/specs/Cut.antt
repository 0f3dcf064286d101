-- What a file's items are cut into: the pieces that make entries, each with its entry, and the refused items. The judgement of each
-- is that of its file.
use Rattle.std.specs.Prelude.{ℕ, List, [], ◌∷◌, ◌++◌, IsSomeAnd}
use Rattle.marc_types.specs.declared.entry.Entry.{Entry}
use Rattle.marc_types.specs.declared.refusal.Refusal.{Refusal}
use Rattle.outside.specs.Room.{RoomView}
use Rattle.marc_stream.specs.Pieces.{Item, items}
use Rattle.file_entries.specs.Files.{IsEntryOf, IsRefusedItem, listed}
use Rattle.file_entries.specs.declared.refused.RefusedItem.{RefusedItem}
use Rattle.command_words.specs.declared.library.Library.{Library}
use Rattle.split_command.specs.Shares.{Piece}

-- of these items of a library's file, these are the pieces that make entries, and these the refused items, all in their order
pub data IsCut (library : List ℕ) : List Item → List Piece → List RefusedItem → Type 0 where
  NoItem : IsCut library [] [] []
  Makes : (items : List Item) (pieces : List Piece) (refused : List RefusedItem) (item : Item) (e : Entry)
      → IsCut library items pieces refused → IsEntryOf library 0 item e
      → IsCut library (items ++ item ∷ []) (pieces ++ record { bytes = item.bytes; entry = e } ∷ []) refused
  Refuses : (items : List Item) (pieces : List Piece) (refused : List RefusedItem) (item : Item) (refusal : Refusal)
      → IsCut library items pieces refused → IsRefusedItem library item refusal
      → IsCut library (items ++ item ∷ []) pieces (refused ++ listed item refusal ∷ [])

-- what a file comes to
pub record FileCut : Type 0 where
  pub pieces : List Piece
  pub refused : List RefusedItem

-- the files of these libraries are there, and come to these
abbrev pub AreCut : RoomView → List Library → List FileCut → Type 0
AreCut room [] [] = Unit {0}
AreCut room [] (cut ∷ cuts) = ⊥
AreCut room (library ∷ libraries) [] = ⊥
AreCut room (library ∷ libraries) (cut ∷ cuts) =
    IsSomeAnd (room.file library.file) (λ bytes. IsCut library.code (items bytes) cut.pieces cut.refused) × AreCut room libraries cuts
