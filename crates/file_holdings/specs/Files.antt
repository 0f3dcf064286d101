-- The accepted holdings and the refused items of a file. Source of a file's items: ISO 2709. That each is judged by itself, in
-- the file's order, is this project's own rule.
use Rattle.std.specs.Prelude.{◌≡◌, ℕ, List, [], ◌∷◌, ◌++◌, Some, None}
use Rattle.marc_types.specs.declared.refusal.Refusal.{Refusal as RecordRefusal}
use Rattle.marc_stream.specs.Pieces.{Item}
use Rattle.holdings.specs.declared.holding.Holding.{Holding}
use Rattle.holdings.specs.declared.refusal.HoldingRefusal.{HoldingRefusal}
use Rattle.holdings.specs.declared.refusal.HoldingRefusal.TheVariants.{OfRecord}
use Rattle.file_holdings.specs.Making.{MakesHolding, IsNoHolding}
use Rattle.file_holdings.specs.declared.refused.RefusedHolding.{RefusedHolding}

-- the holding of an item: it is a piece, and makes this holding in a file of this library
pub record IsHoldingItem (library : List ℕ) (item : Item) (h : Holding) : Type 0 where
  pub piece : item.refusal ≡ None
  pub makes : MakesHolding library item.bytes h

-- why an item makes no holding: it is no piece, or it is refused in a file of this library
pub data IsRefusedItem (library : List ℕ) (item : Item) (refusal : HoldingRefusal) : Type 0 where
  NoPiece : (reason : RecordRefusal) → refusal ≡ OfRecord reason → item.refusal ≡ Some reason → IsRefusedItem library item refusal
  NoHolding : item.refusal ≡ None → IsNoHolding library item.bytes refusal → IsRefusedItem library item refusal

-- a refused item, as it is listed
abbrev pub listed : Item → HoldingRefusal → RefusedHolding
listed item refusal = record { ordinal = item.ordinal; offset = item.offset; refusal = refusal }

-- of the items of a file, in their order, these are the accepted holdings and these the refused items
pub data AreHoldings (library : List ℕ) : List Item → List Holding → List RefusedHolding → Type 0 where
  NoItem : AreHoldings library [] [] []
  Accepts : (items : List Item) (accepted : List Holding) (refused : List RefusedHolding) (item : Item) (h : Holding)
      → AreHoldings library items accepted refused → IsHoldingItem library item h
      → AreHoldings library (items ++ item ∷ []) (accepted ++ h ∷ []) refused
  Refuses : (items : List Item) (accepted : List Holding) (refused : List RefusedHolding) (item : Item) (refusal : HoldingRefusal)
      → AreHoldings library items accepted refused → IsRefusedItem library item refusal
      → AreHoldings library (items ++ item ∷ []) accepted (refused ++ listed item refusal ∷ [])
