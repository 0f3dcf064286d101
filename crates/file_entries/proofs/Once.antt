-- The items of a file are judged in one way.
use Rattle.std.proofs.Common.{◌≡◌, ◌∙◌, ℕ, List, [], ◌∷◌, ◌++◌, Some, None, refl, sym, subst}
use Rattle.marc_types.specs.declared.entry.Entry.{Entry}
use Rattle.marc_types.specs.declared.refusal.Refusal.{Refusal}
use Rattle.marc_stream.specs.Pieces.{Item}
use Rattle.reading.proofs.OneEntry.{one_entry, entry_or_refused, refused_in_file_once}
use Rattle.file_entries.specs.Files.{IsEntryOf, IsRefusedItem, NoPiece, NoEntry, IsJudged, NoItem, Accepts, Refuses, listed}
use Rattle.file_entries.specs.declared.refused.RefusedItem.{RefusedItem}
use Rattle.file_entries.proofs.Lasts.{last_same, has_last}

-- one entry alone is an item's
entry_once : (library : List ℕ) (loader : ℕ) (item again : Item) (one other : Entry) → item ≡ again
    → IsEntryOf library loader item one → IsEntryOf library loader again other → one ≡ other
entry_once library loader item again one other same p q =
    let makes = subst (λ (i : Item). IsEntryOf library loader i other) (sym same) q in
    one_entry library item.bytes loader item.ordinal one other p.makes makes.makes

-- an item with an entry isn't refused
refused_or_entry : (library : List ℕ) (loader : ℕ) (item : Item) (e : Entry) (refusal : Refusal)
    → IsEntryOf library loader item e → IsRefusedItem library item refusal → ⊥
refused_or_entry library loader item e refusal p (NoPiece why) = let both : None ≡ Some refusal = sym p.piece ∙ why in cc
refused_or_entry library loader item e refusal p (NoEntry piece why) = entry_or_refused library item.bytes loader item.ordinal e refusal p.makes why

either : (library : List ℕ) (loader : ℕ) (item again : Item) (e : Entry) (refusal : Refusal) → item ≡ again
    → IsEntryOf library loader item e → IsRefusedItem library again refusal → ⊥
either library loader item again e refusal same p q =
    refused_or_entry library loader item e refusal p (subst (λ (i : Item). IsRefusedItem library i refusal) (sym same) q)

-- one reason alone refuses an item
reason_once : (library : List ℕ) (item : Item) (one other : Refusal) → IsRefusedItem library item one → IsRefusedItem library item other → one ≡ other
reason_once library item one other (NoPiece p) (NoPiece q) = let both : Some one ≡ Some other = sym p ∙ q in cc
reason_once library item one other (NoPiece p) (NoEntry piece q) = let both : Some one ≡ None = sym p ∙ piece in cc
reason_once library item one other (NoEntry piece p) (NoPiece q) = let both : None ≡ Some other = sym piece ∙ q in cc
reason_once library item one other (NoEntry piece p) (NoEntry again q) = refused_in_file_once library item.bytes one other p q

listed_once : (library : List ℕ) (item again : Item) (one other : Refusal) → item ≡ again → IsRefusedItem library item one → IsRefusedItem library again other
    → listed item one ≡ listed again other
listed_once library item again one other same p q =
    let reason = reason_once library item one other p (subst (λ (i : Item). IsRefusedItem library i other) (sym same) q) in
    λ k. listed (same k) (reason k)

-- what two judgements of the same items share
record AreSame (one other : List Entry) (r s : List RefusedItem) : Type 0 where
  entries : one ≡ other
  refused : r ≡ s

same_judged : (library : List ℕ) (loader : ℕ) (xs ys : List Item) (one other : List Entry) (r s : List RefusedItem) → xs ≡ ys
    → IsJudged library loader xs one r → IsJudged library loader ys other s → AreSame one other r s
same_judged library loader _ _ _ _ _ _ same NoItem NoItem = record { entries = refl; refused = refl }
same_judged library loader _ _ _ _ _ _ same NoItem (Accepts ys other s y f q so) = absurd (has_last ys y same)
same_judged library loader _ _ _ _ _ _ same NoItem (Refuses ys other s y why q so) = absurd (has_last ys y same)
same_judged library loader _ _ _ _ _ _ same (Accepts xs one r x e p is) NoItem = absurd (has_last xs x (sym same))
same_judged library loader _ _ _ _ _ _ same (Refuses xs one r x why p is) NoItem = absurd (has_last xs x (sym same))
same_judged library loader _ _ _ _ _ _ same (Accepts xs one r x e p is) (Accepts ys other s y f q so) =
    let both = last_same xs ys x y same in
    let before = same_judged library loader xs ys one other r s both.0 p q in
    let last = entry_once library loader x y e f both.1 is so in
    record { entries = λ k. before.entries k ++ last k ∷ []; refused = before.refused }
same_judged library loader _ _ _ _ _ _ same (Accepts xs one r x e p is) (Refuses ys other s y why q so) =
    absurd (either library loader x y e why (last_same xs ys x y same).1 is so)
same_judged library loader _ _ _ _ _ _ same (Refuses xs one r x why p is) (Accepts ys other s y f q so) =
    absurd (either library loader y x f why (sym (last_same xs ys x y same).1) so is)
same_judged library loader _ _ _ _ _ _ same (Refuses xs one r x why p is) (Refuses ys other s y reason q so) =
    let both = last_same xs ys x y same in
    let before = same_judged library loader xs ys one other r s both.0 p q in
    let last = listed_once library x y why reason both.1 is so in
    record { entries = before.entries; refused = λ k. before.refused k ++ last k ∷ [] }

pub entries_once : (library : List ℕ) (loader : ℕ) (items : List Item) (one other : List Entry) (r s : List RefusedItem)
    → IsJudged library loader items one r → IsJudged library loader items other s → one ≡ other
entries_once library loader items one other r s p q = (same_judged library loader items items one other r s refl p q).entries

pub refused_once : (library : List ℕ) (loader : ℕ) (items : List Item) (one other : List Entry) (r s : List RefusedItem)
    → IsJudged library loader items one r → IsJudged library loader items other s → r ≡ s
refused_once library loader items one other r s p q = (same_judged library loader items items one other r s refl p q).refused
