-- The entries that the items of a file make, one item after the other.
use Rattle.std.proofs.Common.{◌≡◌, ℕ, List, [], ◌∷◌, ◌++◌, Some, None, refl, sym, ◌∙◌}
use Rattle.marc_types.specs.declared.entry.Entry.{Entry}
use Rattle.marc_types.specs.declared.refusal.Refusal.{Refusal}
use Rattle.marc_stream.specs.Pieces.{Item}
use Rattle.reading.proofs.OneEntry.{one_entry, entry_or_refused}
use Rattle.file_entries.specs.Files.{IsEntryOf, IsRefusedItem, NoPiece, NoEntry, IsJudged, NoItem, Accepts, Refuses}
use Rattle.file_entries.specs.declared.refused.RefusedItem.{RefusedItem}

pub data AreMade (library : List ℕ) (loader : ℕ) : List Item → List Entry → Type 0 where
  NoneMade : AreMade library loader [] []
  OneMade : (item : Item) (e : Entry) (items : List Item) (entries : List Entry) → IsEntryOf library loader item e → AreMade library loader items entries
      → AreMade library loader (item ∷ items) (e ∷ entries)
  OneRefused : (item : Item) (refusal : Refusal) (items : List Item) (entries : List Entry) → IsRefusedItem library item refusal
      → AreMade library loader items entries → AreMade library loader (item ∷ items) entries

module _ (library : List ℕ) (loader : ℕ) where
  and_entry : (items : List Item) (entries : List Entry) (item : Item) (e : Entry) → AreMade library loader items entries → IsEntryOf library loader item e
      → AreMade library loader (items ++ item ∷ []) (entries ++ e ∷ [])
  and_entry _ _ item e NoneMade is = OneMade item e [] [] is NoneMade
  and_entry _ _ item e (OneMade first f items entries here more) is =
      OneMade first f (items ++ item ∷ []) (entries ++ e ∷ []) here (and_entry items entries item e more is)
  and_entry _ _ item e (OneRefused first refusal items entries here more) is =
      OneRefused first refusal (items ++ item ∷ []) (entries ++ e ∷ []) here (and_entry items entries item e more is)

  and_refused : (items : List Item) (entries : List Entry) (item : Item) (refusal : Refusal) → AreMade library loader items entries
      → IsRefusedItem library item refusal → AreMade library loader (items ++ item ∷ []) entries
  and_refused _ _ item refusal NoneMade is = OneRefused item refusal [] [] is NoneMade
  and_refused _ _ item refusal (OneMade first f items entries here more) is =
      OneMade first f (items ++ item ∷ []) entries here (and_refused items entries item refusal more is)
  and_refused _ _ item refusal (OneRefused first why items entries here more) is =
      OneRefused first why (items ++ item ∷ []) entries here (and_refused items entries item refusal more is)

  pub made : (items : List Item) (accepted : List Entry) (refused : List RefusedItem) → IsJudged library loader items accepted refused
      → AreMade library loader items accepted
  made _ _ _ NoItem = NoneMade
  made _ _ _ (Accepts items accepted refused item e before is) = and_entry items accepted item e (made items accepted refused before) is
  made _ _ _ (Refuses items accepted refused item refusal before is) = and_refused items accepted item refusal (made items accepted refused before) is

  one_entry_of : (item : Item) (e f : Entry) → IsEntryOf library loader item e → IsEntryOf library loader item f → e ≡ f
  one_entry_of item e f is also = one_entry library item.bytes loader item.ordinal e f is.makes also.makes

  never_both : (item : Item) (e : Entry) (refusal : Refusal) → IsEntryOf library loader item e → IsRefusedItem library item refusal → ⊥
  never_both item e refusal is (NoPiece why) = let both : None ≡ Some refusal = sym is.piece ∙ why in cc
  never_both item e refusal is (NoEntry piece why) = entry_or_refused library item.bytes loader item.ordinal e refusal is.makes why

  -- what the first items make comes first
  pub made_first : (done coming : List Item) (part all : List Entry) → AreMade library loader done part → AreMade library loader (done ++ coming) all
      → (rest : List Entry) × (all ≡ part ++ rest)
  made_first _ coming _ all NoneMade more = (all, refl)
  made_first _ coming _ _ (OneMade item e items entries here others) (OneMade _ f _ all also more) =
      let same : e ≡ f = one_entry_of item e f here also in
      let behind = made_first items coming entries all others more in
      (behind.0, λ i. sym same i ∷ behind.1 i)
  made_first _ coming _ all (OneMade item e items entries here others) (OneRefused _ refusal _ _ also more) = absurd (never_both item e refusal here also)
  made_first _ coming part _ (OneRefused item refusal items _ here others) (OneMade _ f _ all also more) = absurd (never_both item f refusal also here)
  made_first _ coming part all (OneRefused item refusal items _ here others) (OneRefused _ other _ _ also more) = made_first items coming part all others more
