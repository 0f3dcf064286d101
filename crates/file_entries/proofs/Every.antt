-- Every file has a judgement.
use Rattle.std.proofs.Common.{◌≡◌, ℕ, List, [], ◌∷◌, ◌++◌, Option, None, Some, refl, sym, subst, append_assoc, append-nil}
use Rattle.marc_types.specs.declared.refusal.Refusal.{Refusal}
use Rattle.marc_stream.specs.Pieces.{Item}
use Rattle.file_entries.specs.Files.{NoPiece, NoEntry, NoItem, Accepts, Refuses, listed}
use Rattle.file_entries.specs.Judgement.{HasJudgement}
use Rattle.file_entries.proofs.EveryPiece.{EntryOr, AnEntry, NotMade, entry_or_refusal}

-- one more item has a judgement
one_more : (library : List ℕ) (loader : ℕ) (items : List Item) (item : Item) → HasJudgement library loader items → HasJudgement library loader (items ++ item ∷ [])
one_more library loader items item so_far = by item.refusal refl where
  made : item.refusal ≡ None → EntryOr library item.bytes loader item.ordinal → HasJudgement library loader (items ++ item ∷ [])
  made is (AnEntry e makes) = record {
    accepted = so_far.accepted ++ e ∷ [];
    refused = so_far.refused;
    judged = Accepts items so_far.accepted so_far.refused item e so_far.judged (record { piece = is; makes = makes });
  }
  made is (NotMade refusal why) = record {
    accepted = so_far.accepted;
    refused = so_far.refused ++ listed item refusal ∷ [];
    judged = Refuses items so_far.accepted so_far.refused item refusal so_far.judged (NoEntry is why);
  }

  by : (why : Option Refusal) → item.refusal ≡ why → HasJudgement library loader (items ++ item ∷ [])
  by None is = made is (entry_or_refusal library item.bytes loader item.ordinal)
  by (Some refusal) is = record {
    accepted = so_far.accepted;
    refused = so_far.refused ++ listed item refusal ∷ [];
    judged = Refuses items so_far.accepted so_far.refused item refusal so_far.judged (NoPiece is);
  }

-- items behind others that have one
judged_on : (library : List ℕ) (loader : ℕ) (before items : List Item) → HasJudgement library loader before → HasJudgement library loader (before ++ items)
judged_on library loader before [] so_far = subst (HasJudgement library loader) (sym (append-nil before)) so_far
judged_on library loader before (item ∷ items) so_far =
    subst (HasJudgement library loader) (append_assoc before (item ∷ []) items)
    (judged_on library loader (before ++ item ∷ []) items (one_more library loader before item so_far))

pub every_judged : (library : List ℕ) (loader : ℕ) (items : List Item) → HasJudgement library loader items
every_judged library loader items = judged_on library loader [] items (record { accepted = []; refused = []; judged = NoItem })
