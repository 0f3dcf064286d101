-- The second reading of a file, item by item.
use Rattle.std.proofs.Common.{◌≡◌, ◌∙◌, ℕ, ◌≤◌, ◌<◌, true, false, List, [], ◌∷◌, ◌++◌, Option, Some, None, Result, Ok, Err, append_assoc, append-nil, refl, sym, ap, subst, arith}
use Rattle.marc_types.specs.declared.key.Key.{Key}
use Rattle.outside.proofs.Counts.{rose_since}
use Rattle.marc_stream.specs.Pieces.{Item, items}
use Rattle.marc_types.specs.declared.refusal.Refusal.{Refusal}
use Rattle.marc_stream.specs.Stream.{Stream, Ends, opened}
use Rattle.marc_stream.specs.Next.{GivesPiece, GivesRefusal}
use Rattle.marc_stream.proofs.Streams.{reads_none, reads_then}
use Rattle.file_entries.specs.Files.{listed, NoPiece, NoEntry}
use Rattle.split_command.specs.Cut as cut
use Rattle.split_command.specs.Shares.{Piece, share_of, dealt}
use Rattle.split_command.specs.Outputs.{AreDealt, due_to}
use Rattle.split_command.specs.Reading.{HasShare, DealsItem, ToShare, ToNone, DealsNext, HasDealt, IsDealtWhole}
use Rattle.split_command.specs.Dealing.{HasDealingCause, DealsStream, DealsSource}
use Rattle.split_command.specs.declared.fault.SplitFault.{SplitFault}
use Rattle.split_command.specs.declared.fault.SplitFault.TheVariants.{Input, Output, Memory}
use Rattle.split_command.proofs.Dealt.{dealt_more, dealt_none, dealt_same, dealt_then, fault_behind}

split_more : (old now next done : List Item) (item : Item) → old ≡ done ++ now → now ≡ item ∷ next → old ≡ (done ++ item ∷ []) ++ next
split_more old now next done item e first = e ∙ ap (λ l. done ++ l) first ∙ sym (append_assoc done (item ∷ []) next)

module _ {K : Type 0} (written : K → Option (List ℕ)) (faults : K → ℕ) (library : List ℕ) (bounds : List Key) (first : ℕ) (start : Stream) (outs : List K) where
  pub has_dealt_none : start.over ≡ false → HasDealt written faults library bounds first start start outs outs
  has_dealt_none going = record {
    going = going;
    reads = reads_none start;
    done = [];
    pieces = [];
    refused = [];
    cut = cut.NoItem;
    split = λ tells. refl;
    dealt_are = dealt_none written faults first outs;
  }

  pub has_dealt_more : (now next : Stream) (outs_now outs_next : List K) → HasDealt written faults library bounds first start now outs outs_now
      → DealsItem written faults library bounds first now next outs_now outs_next → HasDealt written faults library bounds first start next outs outs_next
  has_dealt_more now next outs_now outs_next so_far (ToShare item e answers is dealt_are) =
      let p : Piece = record { bytes = item.bytes; entry = e } in record {
        going = answers.over;
        reads = reads_then start now next so_far.reads answers.reads;
        done = so_far.done ++ item ∷ [];
        pieces = so_far.pieces ++ p ∷ [];
        refused = so_far.refused;
        cut = cut.Makes so_far.done so_far.pieces so_far.refused item e so_far.cut is;
        split = λ tells. split_more start.coming now.coming next.coming so_far.done item (so_far.split tells) (answers.coming (so_far.reads.tells ∙ tells));
        dealt_are = dealt_same written faults (λ share. dealt bounds share so_far.pieces ++ due_to (share_of bounds e) item.bytes share)
            (λ share. dealt bounds share (so_far.pieces ++ p ∷ [])) first outs outs_next (λ share. sym (dealt_more bounds share so_far.pieces p))
            (dealt_then written faults (λ share. dealt bounds share so_far.pieces) (due_to (share_of bounds e) item.bytes) first outs outs_now outs_next so_far.dealt_are dealt_are);
      }
  has_dealt_more now next outs_now outs_next so_far (ToNone item refusal answers why same) = record {
    going = answers.over;
    reads = reads_then start now next so_far.reads answers.reads;
    done = so_far.done ++ item ∷ [];
    pieces = so_far.pieces;
    refused = so_far.refused ++ listed item refusal ∷ [];
    cut = cut.Refuses so_far.done so_far.pieces so_far.refused item refusal so_far.cut why;
    split = λ tells. split_more start.coming now.coming next.coming so_far.done item (so_far.split tells) (answers.coming (so_far.reads.tells ∙ tells));
    dealt_are = subst (λ o. AreDealt written faults (λ share. dealt bounds share so_far.pieces) first outs o) (sym same) so_far.dealt_are;
  }

  -- fewer bytes are ahead then
  pub item_falls : (now next : Stream) (outs_now outs_next : List K) → DealsItem written faults library bounds first now next outs_now outs_next → next.most < now.most
  item_falls now next outs_now outs_next (ToShare item e answers is dealt_are) = answers.falls
  item_falls now next outs_now outs_next (ToNone item refusal answers why same) = answers.falls

  -- no item is left
  pub has_dealt_all : (now end : Stream) (outs_now outs_end : List K) → HasDealt written faults library bounds first start now outs outs_now → Ends now end × (outs_end ≡ outs_now)
      → DealsStream written faults library bounds first start end outs outs_end (Ok tt)
  has_dealt_all now end outs_now outs_end so_far ended =
      let earlier = so_far.reads.faults in
      let later = ended.0.reads.faults in record {
        dealt = λ tells.
            let all : start.coming ≡ so_far.done =
            so_far.split tells ∙ ap (λ l. so_far.done ++ l) (ended.0.coming (so_far.reads.tells ∙ tells)) ∙ append-nil so_far.done in record {
              pieces = so_far.pieces;
              refused = so_far.refused;
              cut = subst (λ items. cut.IsCut library items so_far.pieces so_far.refused) (sym all) so_far.cut;
              dealt_are = subst (λ o. AreDealt written faults (λ share. dealt bounds share so_far.pieces) first outs o) (sym ended.1) so_far.dealt_are;
            };
        later = omega (arith, earlier, later);
        cause = tt;
      }

  -- it stopped
  pub has_dealt_part : (now end : Stream) (outs_now outs_end : List K) (why : SplitFault) → HasDealt written faults library bounds first start now outs outs_now
      → now.faults ≤ end.faults → DealsNext written faults library bounds first now end outs_now outs_end (Err why)
      → DealsStream written faults library bounds first start end outs outs_end (Err why)
  has_dealt_part now end outs_now outs_end why so_far later deals =
      let earlier = so_far.reads.faults in record {
        dealt = tt;
        later = omega (arith, earlier, later);
        cause = at why deals;
      }
    where
      at : (w : SplitFault) → DealsNext written faults library bounds first now end outs_now outs_end (Err w)
          → HasDealingCause faults start.faults end.faults outs outs_end w
      at Input fails = rose_since start.faults now.faults end.faults so_far.reads.faults fails.rose
      at Output fault = fault_behind written faults (λ share. dealt bounds share so_far.pieces) first outs outs_now outs_end so_far.dealt_are fault
      at Memory none = tt

-- ---- one item

module _ {K : Type 0} (written : K → Option (List ℕ)) (faults : K → ℕ) (library : List ℕ) (bounds : List Key) (first : ℕ) (old new : Stream) where
  -- a piece that makes an entry
  pub step_to_share : (ordinal offset share : ℕ) (bytes : List ℕ) (outs outs_now : List K) → GivesPiece old new ordinal offset bytes
      → HasShare library bytes ordinal bounds (Some share) → AreDealt written faults (due_to share bytes) first outs outs_now
      → DealsItem written faults library bounds first old new outs outs_now
  step_to_share ordinal offset share bytes outs outs_now gives has dealt_are =
      ToShare (record { ordinal = ordinal; offset = offset; bytes = bytes; refusal = None }) has.0 gives.answers (record { piece = refl; makes = has.1 })
      (subst (λ s. AreDealt written faults (due_to s bytes) first outs outs_now) has.2 dealt_are)

  -- one that is refused
  pub step_refused : (ordinal offset : ℕ) (bytes : List ℕ) (outs : List K) → GivesPiece old new ordinal offset bytes → HasShare library bytes ordinal bounds None
      → DealsItem written faults library bounds first old new outs outs
  step_refused ordinal offset bytes outs gives has =
      ToNone (record { ordinal = ordinal; offset = offset; bytes = bytes; refusal = None }) has.0 gives.answers (NoEntry refl has.1) refl

  -- what stands in a piece's place
  pub step_no_piece : (ordinal offset : ℕ) (refusal : Refusal) (outs : List K) → GivesRefusal old new ordinal offset refusal
      → DealsItem written faults library bounds first old new outs outs
  step_no_piece ordinal offset refusal outs gives =
      ToNone (record { ordinal = ordinal; offset = offset; bytes = gives.bytes; refusal = Some refusal }) refusal gives.answers (NoPiece refl) refl

-- ---- a source

module _ {K : Type 0} (written : K → Option (List ℕ)) (faults : K → ℕ) (library : List ℕ) (bounds : List Key) (first : ℕ) (outs outs_now : List K) where
  whole_of : (left : Option (List ℕ)) (bound before : ℕ) (bytes : List ℕ) → left ≡ Some bytes
      → ((opened left bound before).tells ≡ true → IsDealtWhole written faults library bounds first (opened left bound before).coming outs outs_now)
      → IsDealtWhole written faults library bounds first (items bytes) outs outs_now
  whole_of left bound before bytes is dealt_is =
      subst (λ (l : Option (List ℕ)). (opened l bound before).tells ≡ true → IsDealtWhole written faults library bounds first (opened l bound before).coming outs outs_now) is dealt_is refl

  -- one that could not be read for want of memory
  pub undealt : (left : Option (List ℕ)) (before now : ℕ) → now ≡ before → DealsSource written faults library bounds first left before now outs outs_now (Err Memory)
  undealt left before now same = record { dealt = tt; later = omega (arith, same); cause = tt }

  -- a source that was opened, dealt out and closed
  pub dealt_source : (left : Option (List ℕ)) (bound before now : ℕ) (result : Result (Unit {0}) SplitFault) (pieces after : Stream)
      → pieces ≡ opened left bound before → DealsStream written faults library bounds first pieces after outs outs_now result → now ≡ after.faults
      → DealsSource written faults library bounds first left before now outs outs_now result
  dealt_source left bound before now result pieces after is deals same =
      at result (subst (λ (s : Stream). DealsStream written faults library bounds first s after outs outs_now result) is deals)
    where
      at : (r : Result (Unit {0}) SplitFault) → DealsStream written faults library bounds first (opened left bound before) after outs outs_now r
          → DealsSource written faults library bounds first left before now outs outs_now r
      at (Ok value) so = record {
        dealt = λ bytes there. whole_of left bound before bytes there so.dealt;
        later = subst (λ n. before ≤ n) (sym same) so.later;
        cause = tt;
      }
      at (Err why) so = record {
        dealt = tt;
        later = subst (λ n. before ≤ n) (sym same) so.later;
        cause = subst (λ n. HasDealingCause faults before n outs outs_now why) (sym same) so.cause;
      }
