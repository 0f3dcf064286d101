-- Every file has a judgement.
use Rattle.std.proofs.Common.{◌≡◌, ℕ, Bool, true, false, List, [], ◌∷◌, ◌++◌, Option, None, Some, refl, sym, subst, append_assoc, append-nil}
use Rattle.std.specs.Prelude.{not, if◌then◌else◌}
use Rattle.marc_types.specs.Valid.{is_code, is_number}
use Rattle.marc_types.specs.declared.field.Leader.{Leader}
use Rattle.marc_types.specs.declared.field.Field.{Field}
use Rattle.marc_types.specs.declared.record.Record.{Record}
use Rattle.marc_types.specs.declared.refusal.Refusal.{Refusal as RecordRefusal}
use Rattle.marc_types.specs.declared.refusal.Refusal.TheVariants.{OtherType, NoNumber, BadCode, NoRoom}
use Rattle.iso2709_record.specs.Written.{fits}
use Rattle.entry_record.specs.Identity.{control_number_of, code_of, key_of}
use Rattle.marc_stream.specs.Pieces.{Item}
use Rattle.reading.specs.Reading.{IsReadAs}
use Rattle.reading.specs.Preparing.{Unread as NoRecord, NotTaken as NoEntry}
use Rattle.holdings.specs.Admission.{is_holdings_type, target_number_of, target_of, holding_refusal}
use Rattle.holdings.specs.declared.holding.Holding.{Holding}
use Rattle.holdings.specs.declared.refusal.HoldingRefusal.{HoldingRefusal}
use Rattle.holdings.specs.declared.refusal.HoldingRefusal.TheVariants.{OfRecord, NoTarget}
use Rattle.file_entries.proofs.EveryPiece.{EntryOr, AnEntry, NotMade, entry_or_refusal}
use Rattle.file_holdings.specs.Making.{MakesHolding, IsNoHolding, Unread, NotTaken}
use Rattle.file_holdings.specs.Files.{NoPiece, NoHolding, NoItem, Accepts, Refuses, listed}
use Rattle.file_holdings.specs.Judgement.{HaveHoldings}

-- a record that is taken has a proper code and a proper target, and fits its written form
taken_parts : (library : List ℕ) (l : Leader) (fields : List Field) → holding_refusal library l fields ≡ None
    → (is_code (code_of library fields) ≡ true) × ((is_number (target_number_of fields) ≡ true) × (fits fields ≡ true))
unfolding holding_refusal
taken_parts library l fields taken =
    at (is_holdings_type l.rtype) (is_number (control_number_of fields)) (is_code (code_of library fields)) (is_number (target_number_of fields)) (fits fields) taken
  where
    at : (a b c d e : Bool) → (if not a then Some (OfRecord OtherType) else if not b then Some (OfRecord NoNumber) else if not c then Some (OfRecord BadCode)
        else if not d then Some NoTarget else if not e then Some (OfRecord NoRoom) else None) ≡ None → (c ≡ true) × ((d ≡ true) × (e ≡ true))
    at false b c d e is = cc
    at true false c d e is = cc
    at true true false d e is = cc
    at true true true false e is = cc
    at true true true true false is = cc
    at true true true true true is = (refl, (refl, refl))

-- the holding of a record that is taken
holding_of : (library : List ℕ) (rec : Record) → holding_refusal library rec.leader rec.fields ≡ None → Holding
unfolding key_of target_of
holding_of library rec taken =
    let parts = taken_parts library rec.leader rec.fields taken in
    record {
      key = key_of library rec.fields;
      content = record { target = target_of library rec.fields; rec = rec; fits = parts.1.1; named = parts.1.0 };
      coded = parts.0;
      own_code = refl;
    }

-- the holding that a piece makes, or its refusal
data HoldingOr (library bytes : List ℕ) : Type 0 where
  AHolding : (h : Holding) → MakesHolding library bytes h → HoldingOr library bytes
  NoneMade : (refusal : HoldingRefusal) → IsNoHolding library bytes refusal → HoldingOr library bytes

admitted_or : (library bytes : List ℕ) (rec : Record) (why : Option HoldingRefusal) → IsReadAs bytes rec.leader rec.fields
    → holding_refusal library rec.leader rec.fields ≡ why → HoldingOr library bytes
unfolding holding_of
admitted_or library bytes rec None read is =
    AHolding (holding_of library rec is) (record { read = read; taken = is; held = record { key_is = refl; target_is = refl; record_is = refl } })
admitted_or library bytes rec (Some refusal) read is = NoneMade refusal (NotTaken rec read is)

-- a piece that makes an entry or not is a record or none
holding_or : (library bytes : List ℕ) (ordinal : ℕ) → EntryOr library bytes 0 ordinal → HoldingOr library bytes
holding_or library bytes ordinal (AnEntry e makes) = admitted_or library bytes e.rec (holding_refusal library e.rec.leader e.rec.fields) makes.read refl
holding_or library bytes ordinal (NotMade reason (NoRecord why)) = NoneMade (OfRecord reason) (Unread reason refl why)
holding_or library bytes ordinal (NotMade reason (NoEntry rec read why)) = admitted_or library bytes rec (holding_refusal library rec.leader rec.fields) read refl

-- one more item has a judgement
one_more : (library : List ℕ) (items : List Item) (item : Item) → HaveHoldings library items → HaveHoldings library (items ++ item ∷ [])
one_more library items item so_far = by item.refusal refl where
  made : item.refusal ≡ None → HoldingOr library item.bytes → HaveHoldings library (items ++ item ∷ [])
  made is (AHolding h makes) = record {
    accepted = so_far.accepted ++ h ∷ [];
    refused = so_far.refused;
    judged = Accepts items so_far.accepted so_far.refused item h so_far.judged (record { piece = is; makes = makes });
  }
  made is (NoneMade refusal why) = record {
    accepted = so_far.accepted;
    refused = so_far.refused ++ listed item refusal ∷ [];
    judged = Refuses items so_far.accepted so_far.refused item refusal so_far.judged (NoHolding is why);
  }

  by : (why : Option RecordRefusal) → item.refusal ≡ why → HaveHoldings library (items ++ item ∷ [])
  by None is = made is (holding_or library item.bytes item.ordinal (entry_or_refusal library item.bytes 0 item.ordinal))
  by (Some reason) is = record {
    accepted = so_far.accepted;
    refused = so_far.refused ++ listed item (OfRecord reason) ∷ [];
    judged = Refuses items so_far.accepted so_far.refused item (OfRecord reason) so_far.judged (NoPiece reason refl is);
  }

-- items behind others that have one
judged_on : (library : List ℕ) (before items : List Item) → HaveHoldings library before → HaveHoldings library (before ++ items)
judged_on library before [] so_far = subst (HaveHoldings library) (sym (append-nil before)) so_far
judged_on library before (item ∷ items) so_far =
    subst (HaveHoldings library) (append_assoc before (item ∷ []) items)
    (judged_on library (before ++ item ∷ []) items (one_more library before item so_far))

pub every_judged : (library : List ℕ) (items : List Item) → HaveHoldings library items
every_judged library items = judged_on library [] items (record { accepted = []; refused = []; judged = NoItem })
