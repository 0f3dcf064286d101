-- The items of a file are judged in one way.
use Rattle.std.proofs.Common.{◌≡◌, ◌∙◌, ℕ, List, [], ◌∷◌, ◌++◌, Some, None, refl, sym, ap, subst}
use Rattle.std.specs.Prelude.{IsTrue}
use Rattle.marc_types.specs.Valid.{is_code, is_number, is_record}
use Rattle.marc_types.specs.declared.record.Record.{Record}
use Rattle.marc_types.specs.declared.refusal.Refusal.{Refusal as RecordRefusal}
use Rattle.iso2709_record.specs.Written.{fits}
use Rattle.entry_record.specs.Identity.{key_of}
use Rattle.marc_stream.specs.Pieces.{Item}
use Rattle.reading.specs.Reading.{IsReadAs}
use Rattle.reading.proofs.OneReading.{one_leader, one_fields, read_or_refused, refused_as_once}
use Rattle.holdings.specs.Admission.{holding_refusal, target_of}
use Rattle.holdings.specs.declared.holding.Holding.{Holding}
use Rattle.holdings.specs.declared.holding.HoldingContent.{HoldingContent}
use Rattle.holdings.specs.declared.refusal.HoldingRefusal.{HoldingRefusal}
use Rattle.holdings.specs.declared.refusal.HoldingRefusal.TheVariants.{OfRecord}
use Rattle.file_entries.proofs.Lasts.{last_same, has_last}
use Rattle.file_holdings.specs.Making.{MakesHolding, IsNoHolding, Unread, NotTaken}
use Rattle.file_holdings.specs.Files.{IsHoldingItem, IsRefusedItem, NoPiece, NoHolding, AreHoldings, NoItem, Accepts, Refuses, listed}
use Rattle.file_holdings.specs.Judgement.{AreJudgedOnce}
use Rattle.file_holdings.specs.declared.refused.RefusedHolding.{RefusedHolding}
use denote.Struct.Props.{props}
use mathlib.Core.HLevel.{is_prop→PathP}

-- a record is its leader and its fields
same_record : (one other : Record) → one.leader ≡ other.leader → one.fields ≡ other.fields → one ≡ other
same_record one other l f = λ i. record {
  leader = l i;
  fields = f i;
  valid = is_prop→PathP (λ j. IsTrue (is_record (l j) (f j))) (λ j. hlevel props) one.valid other.valid i;
}

one_record : (bytes : List ℕ) (one other : Record) → IsReadAs bytes one.leader one.fields → IsReadAs bytes other.leader other.fields → one ≡ other
one_record bytes one other p q = same_record one other (one_leader bytes _ _ _ _ p q) (one_fields bytes _ _ _ _ p q)

-- a holding is its key, its target and its record
same_content : (one other : HoldingContent) → one.target ≡ other.target → one.rec ≡ other.rec → one ≡ other
same_content one other t r = λ i. record {
  target = t i;
  rec = r i;
  fits = is_prop→PathP (λ j. IsTrue (fits (r j).fields)) (λ j. hlevel props) one.fits other.fits i;
  named = is_prop→PathP (λ j. IsTrue (is_number (t j).number)) (λ j. hlevel props) one.named other.named i;
}

same_holding : (one other : Holding) → one.key ≡ other.key → one.content ≡ other.content → one ≡ other
same_holding one other k c = λ i. record {
  key = k i;
  content = c i;
  coded = is_prop→PathP (λ j. IsTrue (is_code (k j).code)) (λ j. hlevel props) one.coded other.coded i;
  own_code = is_prop→PathP (λ j. (c j).target.code ≡ (k j).code) (λ j. hlevel props) one.own_code other.own_code i;
}

one_holding : (library bytes : List ℕ) (one other : Holding) → MakesHolding library bytes one → MakesHolding library bytes other → one ≡ other
one_holding library bytes one other p q =
    let rec : one.content.rec ≡ other.content.rec = one_record bytes one.content.rec other.content.rec p.read q.read in
    same_holding one other
    (p.held.key_is ∙ ap (λ (r : Record). key_of library r.fields) rec ∙ sym q.held.key_is)
    (same_content one.content other.content
    (p.held.target_is ∙ ap (λ (r : Record). target_of library r.fields) rec ∙ sym q.held.target_is) rec)

-- what is refused has a refusal of its leader and fields, whichever record they stand in
refusal_of_record : (library bytes : List ℕ) (one other : Record) → IsReadAs bytes one.leader one.fields → IsReadAs bytes other.leader other.fields
    → holding_refusal library one.leader one.fields ≡ holding_refusal library other.leader other.fields
refusal_of_record library bytes one other p q =
    ap (λ (r : Record). holding_refusal library r.leader r.fields) (one_record bytes one other p q)

-- what makes a holding isn't refused
holding_or_refused : (library bytes : List ℕ) (h : Holding) (refusal : HoldingRefusal) → MakesHolding library bytes h → IsNoHolding library bytes refusal → ⊥
holding_or_refused library bytes h refusal p (Unread reason is why) = read_or_refused bytes _ _ reason p.read why
holding_or_refused library bytes h refusal p (NotTaken rec read why) =
    let both : None ≡ Some refusal = sym p.taken ∙ refusal_of_record library bytes h.content.rec rec p.read read ∙ why in
    cc

-- one reason alone refuses a piece
refused_in_file_once : (library bytes : List ℕ) (one other : HoldingRefusal) → IsNoHolding library bytes one → IsNoHolding library bytes other → one ≡ other
refused_in_file_once library bytes one other (Unread r is p) (Unread s also q) = is ∙ ap OfRecord (refused_as_once bytes r s p q) ∙ sym also
refused_in_file_once library bytes one other (Unread r is p) (NotTaken rec read q) = absurd (read_or_refused bytes _ _ r read p)
refused_in_file_once library bytes one other (NotTaken rec read p) (Unread s also q) = absurd (read_or_refused bytes _ _ s read q)
refused_in_file_once library bytes one other (NotTaken rec read p) (NotTaken rec' read' q) =
    let both : Some one ≡ Some other = sym p ∙ refusal_of_record library bytes rec rec' read read' ∙ q in
    cc

-- one holding alone is an item's
holding_once : (library : List ℕ) (item again : Item) (one other : Holding) → item ≡ again
    → IsHoldingItem library item one → IsHoldingItem library again other → one ≡ other
holding_once library item again one other same p q =
    let makes = subst (λ (i : Item). IsHoldingItem library i other) (sym same) q in
    one_holding library item.bytes one other p.makes makes.makes

-- an item with a holding isn't refused
refused_or_holding : (library : List ℕ) (item : Item) (h : Holding) (refusal : HoldingRefusal)
    → IsHoldingItem library item h → IsRefusedItem library item refusal → ⊥
refused_or_holding library item h refusal p (NoPiece reason is why) = let both : None ≡ Some reason = sym p.piece ∙ why in cc
refused_or_holding library item h refusal p (NoHolding piece why) = holding_or_refused library item.bytes h refusal p.makes why

either : (library : List ℕ) (item again : Item) (h : Holding) (refusal : HoldingRefusal) → item ≡ again
    → IsHoldingItem library item h → IsRefusedItem library again refusal → ⊥
either library item again h refusal same p q =
    refused_or_holding library item h refusal p (subst (λ (i : Item). IsRefusedItem library i refusal) (sym same) q)

some_once : (one other : RecordRefusal) → Some one ≡ Some other → one ≡ other
some_once one other both = cc

-- one reason alone refuses an item
reason_once : (library : List ℕ) (item : Item) (one other : HoldingRefusal) → IsRefusedItem library item one → IsRefusedItem library item other → one ≡ other
reason_once library item one other (NoPiece r is p) (NoPiece s also q) = is ∙ ap OfRecord (some_once r s (sym p ∙ q)) ∙ sym also
reason_once library item one other (NoPiece r is p) (NoHolding piece q) = let both : Some r ≡ None = sym p ∙ piece in cc
reason_once library item one other (NoHolding piece p) (NoPiece s also q) = let both : None ≡ Some s = sym piece ∙ q in cc
reason_once library item one other (NoHolding piece p) (NoHolding again q) = refused_in_file_once library item.bytes one other p q

listed_once : (library : List ℕ) (item again : Item) (one other : HoldingRefusal) → item ≡ again → IsRefusedItem library item one → IsRefusedItem library again other
    → listed item one ≡ listed again other
listed_once library item again one other same p q =
    let reason = reason_once library item one other p (subst (λ (i : Item). IsRefusedItem library i other) (sym same) q) in
    λ k. listed (same k) (reason k)

-- what two judgements of the same items share
record AreSame (one other : List Holding) (r s : List RefusedHolding) : Type 0 where
  held : one ≡ other
  refused : r ≡ s

same_judged : (library : List ℕ) (xs ys : List Item) (one other : List Holding) (r s : List RefusedHolding) → xs ≡ ys
    → AreHoldings library xs one r → AreHoldings library ys other s → AreSame one other r s
same_judged library _ _ _ _ _ _ same NoItem NoItem = record { held = refl; refused = refl }
same_judged library _ _ _ _ _ _ same NoItem (Accepts ys other s y f q so) = absurd (has_last ys y same)
same_judged library _ _ _ _ _ _ same NoItem (Refuses ys other s y why q so) = absurd (has_last ys y same)
same_judged library _ _ _ _ _ _ same (Accepts xs one r x e p is) NoItem = absurd (has_last xs x (sym same))
same_judged library _ _ _ _ _ _ same (Refuses xs one r x why p is) NoItem = absurd (has_last xs x (sym same))
same_judged library _ _ _ _ _ _ same (Accepts xs one r x e p is) (Accepts ys other s y f q so) =
    let both = last_same xs ys x y same in
    let before = same_judged library xs ys one other r s both.0 p q in
    let last = holding_once library x y e f both.1 is so in
    record { held = λ k. before.held k ++ last k ∷ []; refused = before.refused }
same_judged library _ _ _ _ _ _ same (Accepts xs one r x e p is) (Refuses ys other s y why q so) =
    absurd (either library x y e why (last_same xs ys x y same).1 is so)
same_judged library _ _ _ _ _ _ same (Refuses xs one r x why p is) (Accepts ys other s y f q so) =
    absurd (either library y x f why (sym (last_same xs ys x y same).1) so is)
same_judged library _ _ _ _ _ _ same (Refuses xs one r x why p is) (Refuses ys other s y reason q so) =
    let both = last_same xs ys x y same in
    let before = same_judged library xs ys one other r s both.0 p q in
    let last = listed_once library x y why reason both.1 is so in
    record { held = before.held; refused = λ k. before.refused k ++ last k ∷ [] }

pub judged_once : (library : List ℕ) (items : List Item) → AreJudgedOnce library items
judged_once library items = record {
  accepted = λ one other r s p q. (same_judged library items items one other r s refl p q).held;
  refused = λ one other r s p q. (same_judged library items items one other r s refl p q).refused;
}
