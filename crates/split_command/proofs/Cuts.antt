-- A file is cut in one way, and each judgement of it is one.
use Rattle.std.proofs.Common.{◌≡◌, ◌∙◌, ℕ, List, [], ◌∷◌, ◌++◌, Some, None, refl, sym, ap, subst}
use Rattle.marc_types.specs.declared.entry.Entry.{Entry}
use Rattle.marc_types.specs.declared.refusal.Refusal.{Refusal}
use Rattle.marc_stream.specs.Pieces.{Item}
use Rattle.reading.proofs.OneEntry.{one_entry, entry_or_refused}
use Rattle.file_entries.specs.Files.{IsEntryOf, IsRefusedItem, NoPiece, NoEntry, IsJudged, NoItem, Accepts, Refuses}
use Rattle.file_entries.specs.declared.refused.RefusedItem.{RefusedItem}
use Rattle.file_entries.proofs.Lasts.{last_same, has_last}
use Rattle.split_command.specs.Cut.{IsCut}
use Rattle.split_command.specs.Cut as cut
use Rattle.split_command.specs.Shares.{Piece, entries_of}

-- ---- what is judged is cut

pub record IsCutOf (library : List ℕ) (all : List Item) (accepted : List Entry) (refused : List RefusedItem) : Type 0 where
  pub pieces : List Piece
  pub is : IsCut library all pieces refused
  pub entries : entries_of pieces ≡ accepted

entries_more : (pieces : List Piece) (p : Piece) → entries_of (pieces ++ p ∷ []) ≡ entries_of pieces ++ p.entry ∷ []
entries_more [] p = refl
entries_more (first ∷ pieces) p = ap (λ l. first.entry ∷ l) (entries_more pieces p)

pub judged_cut : (library : List ℕ) (all : List Item) (accepted : List Entry) (refused : List RefusedItem) → IsJudged library 0 all accepted refused
    → IsCutOf library all accepted refused
judged_cut library _ _ _ NoItem = record { pieces = []; is = cut.NoItem; entries = refl }
judged_cut library _ _ _ (Accepts all accepted refused item e before is) =
    let cut_before = judged_cut library all accepted refused before in
    let p : Piece = record { bytes = item.bytes; entry = e } in record {
      pieces = cut_before.pieces ++ p ∷ [];
      is = cut.Makes all cut_before.pieces refused item e cut_before.is is;
      entries = entries_more cut_before.pieces p ∙ ap (λ l. l ++ e ∷ []) cut_before.entries;
    }
judged_cut library _ _ _ (Refuses all accepted refused item refusal before why) =
    let cut_before = judged_cut library all accepted refused before in record {
      pieces = cut_before.pieces;
      is = cut.Refuses all cut_before.pieces refused item refusal cut_before.is why;
      entries = cut_before.entries;
    }

-- ---- items are cut in one way

entry_once : (library : List ℕ) (item again : Item) (one other : Entry) → item ≡ again → IsEntryOf library 0 item one → IsEntryOf library 0 again other → one ≡ other
entry_once library item again one other same p q =
    let makes = subst (λ (i : Item). IsEntryOf library 0 i other) (sym same) q in
    one_entry library item.bytes 0 item.ordinal one other p.makes makes.makes

either : (library : List ℕ) (item again : Item) (e : Entry) (refusal : Refusal) → item ≡ again → IsEntryOf library 0 item e → IsRefusedItem library again refusal → ⊥
either library item again e refusal same p q = at (subst (λ (i : Item). IsRefusedItem library i refusal) (sym same) q)
  where
    at : IsRefusedItem library item refusal → ⊥
    at (NoPiece why) = let both : None ≡ Some refusal = sym p.piece ∙ why in cc
    at (NoEntry piece why) = entry_or_refused library item.bytes 0 item.ordinal e refusal p.makes why

record AreSame (one other : List Piece) : Type 0 where
  pieces : one ≡ other

same_cut : (library : List ℕ) (xs ys : List Item) (one other : List Piece) (r s : List RefusedItem) → xs ≡ ys → IsCut library xs one r → IsCut library ys other s
    → AreSame one other
same_cut library _ _ _ _ _ _ same cut.NoItem cut.NoItem = record { pieces = refl }
same_cut library _ _ _ _ _ _ same cut.NoItem (cut.Makes ys other s y f q so) = absurd (has_last ys y same)
same_cut library _ _ _ _ _ _ same cut.NoItem (cut.Refuses ys other s y why q so) = absurd (has_last ys y same)
same_cut library _ _ _ _ _ _ same (cut.Makes xs one r x e p is) cut.NoItem = absurd (has_last xs x (sym same))
same_cut library _ _ _ _ _ _ same (cut.Refuses xs one r x why p is) cut.NoItem = absurd (has_last xs x (sym same))
same_cut library _ _ _ _ _ _ same (cut.Makes xs one r x e p is) (cut.Makes ys other s y f q so) =
    let both = last_same xs ys x y same in
    let before = same_cut library xs ys one other r s both.0 p q in
    let last = entry_once library x y e f both.1 is so in
    record { pieces = λ k. before.pieces k ++ (record { bytes = (both.1 k).bytes; entry = last k }) ∷ [] }
same_cut library _ _ _ _ _ _ same (cut.Makes xs one r x e p is) (cut.Refuses ys other s y why q so) =
    absurd (either library x y e why (last_same xs ys x y same).1 is so)
same_cut library _ _ _ _ _ _ same (cut.Refuses xs one r x why p is) (cut.Makes ys other s y f q so) =
    absurd (either library y x f why (sym (last_same xs ys x y same).1) so is)
same_cut library _ _ _ _ _ _ same (cut.Refuses xs one r x why p is) (cut.Refuses ys other s y reason q so) =
    record { pieces = (same_cut library xs ys one other r s (last_same xs ys x y same).0 p q).pieces }

-- the pieces of a file are the same however it is cut
pub pieces_once : (library : List ℕ) (all : List Item) (one other : List Piece) (r s : List RefusedItem) → IsCut library all one r → IsCut library all other s → one ≡ other
pieces_once library all one other r s p q = (same_cut library all all one other r s refl p q).pieces
