-- What a cut item comes to is what is given of it.
use Rattle.std.proofs.Common.{◌≡◌, ◌∙◌, ℕ, Bool, false, List, refl, subst, ap, None, Some}
use Rattle.marc_types.specs.declared.refusal.Refusal.{Refusal as RecordRefusal}
use Rattle.marc_stream.specs.Stream.{Stream}
use Rattle.marc_stream.specs.Next.{GivesPiece, GivesRefusal}
use Rattle.holdings.specs.declared.holding.Holding.{Holding}
use Rattle.holdings.specs.declared.refusal.HoldingRefusal.{HoldingRefusal}
use Rattle.holdings.specs.declared.refusal.HoldingRefusal.TheVariants.{OfRecord}
use Rattle.file_holdings.specs.Making.{MakesHolding, IsNoHolding}
use Rattle.file_holdings.specs.Files.{NoPiece, NoHolding}
use Rattle.file_holdings.specs.Items.{HoldingFile, file_of, GivesHolding, GivesRefused}

module _ (old : HoldingFile) (pieces next : Stream) (library : List ℕ) (over : Bool) (ordinal offset : ℕ) (is : file_of pieces library over ≡ old)
    (going : old.over ≡ false) where
  pub given_holding : (bytes : List ℕ) (h : Holding) → GivesPiece pieces next ordinal offset bytes → MakesHolding library bytes h
      → GivesHolding old (file_of next library over) ordinal h
  given_holding bytes h piece makes =
      subst (λ (old : HoldingFile). GivesHolding old (file_of next library over) ordinal h) is (record {
        item = record { ordinal = ordinal; offset = offset; bytes = bytes; refusal = None };
        answers = piece.answers;
        ordinal_is = refl;
        held = record { piece = refl; makes = makes };
        over = ap (λ (old : HoldingFile). old.over) is ∙ going;
      })

  pub given_no_holding : (bytes : List ℕ) (refusal : HoldingRefusal) → GivesPiece pieces next ordinal offset bytes → IsNoHolding library bytes refusal
      → GivesRefused old (file_of next library over) (record { ordinal = ordinal; offset = offset; refusal = refusal })
  given_no_holding bytes refusal piece why =
      subst (λ (old : HoldingFile). GivesRefused old (file_of next library over) (record { ordinal = ordinal; offset = offset; refusal = refusal })) is (record {
        item = record { ordinal = ordinal; offset = offset; bytes = bytes; refusal = None };
        answers = piece.answers;
        why = NoHolding refl why;
        listed_is = refl;
        over = ap (λ (old : HoldingFile). old.over) is ∙ going;
      })

  pub given_no_piece : (reason : RecordRefusal) → GivesRefusal pieces next ordinal offset reason
      → GivesRefused old (file_of next library over) (record { ordinal = ordinal; offset = offset; refusal = OfRecord reason })
  given_no_piece reason given =
      subst (λ (old : HoldingFile). GivesRefused old (file_of next library over) (record { ordinal = ordinal; offset = offset; refusal = OfRecord reason })) is (record {
        item = record { ordinal = ordinal; offset = offset; bytes = given.bytes; refusal = Some reason };
        answers = given.answers;
        why = NoPiece reason refl refl;
        listed_is = refl;
        over = ap (λ (old : HoldingFile). old.over) is ∙ going;
      })
